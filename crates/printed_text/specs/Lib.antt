pub mod Printed
pub mod Adding
