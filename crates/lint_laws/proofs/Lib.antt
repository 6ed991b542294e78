pub mod ReachLemmas
pub mod WebLinkLemmas
pub mod HostStates
pub mod HostEnds
pub mod CellStates
pub mod PieceLemmas
pub mod RowLooks
pub mod HostPairs
pub mod HostWalk
pub mod RowHosts
pub mod PrintedHosts
mod HostExamples
mod BrowserExamples
mod ReachExamples
pub mod BrowserHosts
pub mod FixedHosts
pub mod TemplateNames
