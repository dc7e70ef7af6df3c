pub mod Walk
pub mod Trace
pub mod Checked
