pub mod Addresses
pub mod Ends
pub mod Forms
pub mod Mentions
pub mod Places
pub mod StandardNumbers
pub mod Uris
