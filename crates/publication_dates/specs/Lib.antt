pub mod Calendar
pub mod Forms
pub mod Months
pub mod Dates
pub mod Days
