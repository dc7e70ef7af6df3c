mod Sorting
mod Writing
mod Steps
mod Runs
