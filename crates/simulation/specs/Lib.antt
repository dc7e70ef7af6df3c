-- All networks in memory as a state of the run, each step that is played, and what hearing to the end gives.
pub mod Posts
pub mod Posting
pub mod Whole
pub mod Steps
pub mod Simulated
pub mod Shown
pub mod Beginning
pub mod Resting
pub mod Played
