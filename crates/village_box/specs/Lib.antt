pub mod Due
pub mod Inboxes
pub mod Taking
pub mod Refusals
pub mod Stations
