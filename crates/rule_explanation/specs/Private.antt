-- Definitions that no contract of a public function cites.
pub mod KnownNames
pub mod ListNames
pub mod Seen
