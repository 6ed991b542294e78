pub mod Small
pub mod Private
