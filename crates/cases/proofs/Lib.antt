mod Lists
pub mod Ties
mod Runs
pub mod Cycles
mod Arriving
pub mod Rows
