pub mod Failures
pub mod Inputs
