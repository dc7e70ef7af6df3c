pub mod Settings
pub mod Plays
pub mod Rows
pub mod Table
