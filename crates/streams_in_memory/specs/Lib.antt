pub mod InMemory
pub mod Listener
