pub mod Pairs
pub mod ReadQuery
pub mod Refusal
pub mod Filling
pub mod Sums
pub mod Private
