pub mod Spellings
pub mod CheckDigits
pub mod Issn
pub mod Isbn
pub mod Private
