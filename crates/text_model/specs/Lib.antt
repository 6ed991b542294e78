pub mod Texts
pub mod Writing
pub mod UriText
pub mod Cut
pub mod Number
