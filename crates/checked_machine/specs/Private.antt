-- Definitions that no contract of a public function cites.
pub mod Frames
pub mod Given
pub mod Values
