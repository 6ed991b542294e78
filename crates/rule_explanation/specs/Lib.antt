pub mod Rows
pub mod Failing
pub mod Explanation
pub mod Private
