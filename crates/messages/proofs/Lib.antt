mod Paths
pub mod Sizes
mod Decoded
mod Lowest
pub mod Encoded
pub mod Back
pub mod Streams
