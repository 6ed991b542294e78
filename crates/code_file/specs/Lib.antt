pub mod Grammar
pub mod Fault
pub mod Listing
pub mod Private
