-- Definitions that no contract of a public function cites.
pub mod AddedLines
pub mod CountedCells
pub mod Counting
pub mod Forms
pub mod Headers
pub mod Spelling
pub mod Tallying
