pub mod Routes
pub mod Steps
pub mod Playing
pub mod Endings
pub mod Reading
pub mod Refusals
