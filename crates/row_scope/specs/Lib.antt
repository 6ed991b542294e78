pub mod RowEnvironments
pub mod Bindings
pub mod RequestValues
pub mod NameNumbers
pub mod NameColumns
pub mod RowValue
pub mod Private
