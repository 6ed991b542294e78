-- Definitions that no contract of a public function cites.
pub mod Kept
pub mod Line
pub mod WholeLines
pub mod Hashed
pub mod Index
pub mod Groups
pub mod Runs
pub mod Normal
pub mod NameSetTexts
