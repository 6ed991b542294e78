pub mod MapLemmas
pub mod PlacingLemmas
