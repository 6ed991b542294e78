pub mod Entries
pub mod Links
pub mod Escaping
pub mod Printed
pub mod WebLink
pub mod Contained
pub mod PageReading
