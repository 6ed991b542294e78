pub mod Environment
pub mod Lists
