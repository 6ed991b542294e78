pub mod Characters
pub mod Decoding
