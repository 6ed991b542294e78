pub mod ClosedHeads
pub mod OneEnd
pub mod OneReply
pub mod ServedFiles
pub mod RegistryLines
pub mod WrittenReplies
mod PeerExamples
pub mod ExampleFiles
mod FileExamples
