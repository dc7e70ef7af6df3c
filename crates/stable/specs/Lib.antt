-- The stable routing as code finds it: which links are up, what networks show, and where a way leads home.
pub mod Linked
pub mod Looking
pub mod Ways
pub mod Networks
pub mod Settling
