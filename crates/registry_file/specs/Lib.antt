pub mod Lines
pub mod Loading
pub mod Private
