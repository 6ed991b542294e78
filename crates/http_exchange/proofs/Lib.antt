pub mod SameMenus
pub mod Unavailable
pub mod Sent
pub mod Pieces
pub mod ReplyExamples
pub mod ServedLemmas
