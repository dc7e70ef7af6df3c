mod Scans
mod Exporting
pub mod Faults
pub mod Receiving
pub mod Turning
