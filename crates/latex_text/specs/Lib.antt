pub mod Places
pub mod Letters
pub mod Groups
pub mod Commands
pub mod Texts
