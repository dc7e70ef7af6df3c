-- Packets as code holds them, and what a router does with one.
pub mod Lookup
pub mod Forwarding
