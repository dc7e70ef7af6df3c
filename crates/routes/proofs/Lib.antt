mod Telling
mod Blocks
mod Ways
mod Settled
mod Next
