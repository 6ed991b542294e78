pub mod Places
pub mod Beginnings
pub mod ReadParts
pub mod OneLess
pub mod Fixpoint
pub mod WholeTitles
pub mod Forms
pub mod RemarksBefore
