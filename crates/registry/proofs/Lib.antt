pub mod OneMoreTarget
mod Examples
mod MenuExamples
pub mod Fates
pub mod Choices
pub mod SoundMenus
