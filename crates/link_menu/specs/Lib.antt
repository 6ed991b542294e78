pub mod RowsByRound
pub mod Private
