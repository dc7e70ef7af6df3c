pub mod Lines
pub mod Told
pub mod Sizes
pub mod Lowest
