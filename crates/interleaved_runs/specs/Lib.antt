pub mod Fates
pub mod Turns
pub mod StepLists
pub mod Private
