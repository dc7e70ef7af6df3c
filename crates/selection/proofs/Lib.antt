pub mod Best
mod Bytes
mod Compared
pub mod Lengths
pub mod Past
pub mod Ranks
pub mod Written
