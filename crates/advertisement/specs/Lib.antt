-- Updates as code holds them, and what a network among its neighbours tells of a block, and to whom.
pub mod Updates
pub mod Telling
