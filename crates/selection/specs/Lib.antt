-- Tables of paths, sets of networks and the lent world as code holds them, and what a selection from them is.
pub mod Rows
pub mod Paths
pub mod Changes
pub mod Worlds
pub mod Nodes
pub mod Sets
pub mod Laws
pub mod Meaning
