pub mod Blocks
pub mod Shapes
pub mod Tables
pub mod Compiled
pub mod Size
pub mod Answer
