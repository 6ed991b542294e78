pub mod Filtered
pub mod FirstOfEach
pub mod OfMenus
pub mod Requests
