pub mod Streams
pub mod Sockets
pub mod Closing
pub mod HeadReading
pub mod Private
