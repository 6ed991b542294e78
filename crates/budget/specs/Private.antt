-- Definitions that no contract of a public function cites.
pub mod Running
pub mod Shares
pub mod SumsBelow
