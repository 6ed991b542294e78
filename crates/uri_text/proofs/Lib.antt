pub mod AnyCase
pub mod PercentBytes
pub mod FirstItems
pub mod Firsts
pub mod Rests
pub mod LeadingNumbers
pub mod Decoded
