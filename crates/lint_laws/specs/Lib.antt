pub mod Browsers
pub mod RowLinks
