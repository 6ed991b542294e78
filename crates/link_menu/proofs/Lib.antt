pub mod HeldLemmas
pub mod RoundLemmas
pub mod RowLemmas
pub mod RoundProgress
pub mod SearchLemmas
pub mod BatchLemmas
