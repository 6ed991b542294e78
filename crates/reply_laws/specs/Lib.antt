pub mod Peers
pub mod Files
pub mod Written
