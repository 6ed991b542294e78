-- Definitions that no contract of a public function cites.
pub mod Adds
pub mod Columns
pub mod Ends
pub mod Starts
