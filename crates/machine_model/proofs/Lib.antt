pub mod Moves
pub mod Readings
pub mod Decides
pub mod Bodies
pub mod Checks
pub mod GoodPlaces
pub mod Faults
pub mod Orders
pub mod Fitting
pub mod Listings
mod SpellingExamples
mod ValueExamples
mod RunExamples
mod EndExamples
mod EqualityExamples
mod FormExamples
mod OrderExamples
mod KindExamples
mod MismatchExamples
mod BudgetExamples
