pub mod Labels
pub mod Words
pub mod Enumerations
pub mod PageForms
pub mod LastPages
pub mod Pages
pub mod Runs
pub mod Parts
