mod Examples
mod ExplanationExamples
pub mod Explained
pub mod FirstLinks
pub mod FirstRows
pub mod LastLines
pub mod Lines
pub mod Menus
pub mod OneLine
pub mod ReadTargets
pub mod RowEnds
pub mod RowLines
pub mod SameFiles
pub mod SameMeaning
pub mod SameNames
pub mod SameReplies
pub mod SameRuns
