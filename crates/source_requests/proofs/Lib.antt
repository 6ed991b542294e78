pub mod Accepted
pub mod Fitting
pub mod Queries
pub mod ReadBack
