pub mod Places
pub mod Hosts
pub mod Answers
pub mod Commas
pub mod Unique
pub mod HeadEnd
pub mod TargetExamples
pub mod RouteExamples
