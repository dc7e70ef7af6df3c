mod Last
mod Heads
mod Lowest
