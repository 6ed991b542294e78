mod Pieces
mod EndLemmas
mod ValueLemmas
mod ColumnLemmas
mod ApartLemmas
mod BindingLemmas
mod NameLemmas
mod PlaceLemmas
mod ColumnSums
mod SumLemmas
mod CellLemmas
mod OverLemmas
pub mod NumberLemmas
mod KnownLemmas
