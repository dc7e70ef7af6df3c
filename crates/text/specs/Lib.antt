pub mod Row
pub mod Faults
pub mod Dotted
