pub mod Host
pub mod Numbers
pub mod Target
pub mod Routes
pub mod HeadEnd
