-- Definitions that no contract of a public function cites.
pub mod NamesValue
pub mod ListPlaces
