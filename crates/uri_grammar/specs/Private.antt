-- Definitions that no contract of a public function cites.
pub mod Lengths
pub mod Moved
pub mod Reading
