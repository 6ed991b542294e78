pub mod Keys
pub mod Pieces
pub mod Joining
pub mod Repair
pub mod Settled
