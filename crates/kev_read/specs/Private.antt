-- Definitions that no contract of a public function cites.
pub mod Gathered
pub mod KeyMarks
pub mod KeyOrder
pub mod Layout
pub mod Ordinary
pub mod Reading
