pub mod Replies
pub mod RouteReplies
pub mod Exchange
pub mod Connections
