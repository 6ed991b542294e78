-- Definitions that no contract of a public function cites.
pub mod Checks
pub mod Layouts
pub mod Rows
pub mod Walks
