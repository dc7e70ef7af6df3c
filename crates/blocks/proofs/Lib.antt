pub mod Apart
mod Found
mod Grown
mod Written
mod Listed
mod Overlaps
mod Progress
mod Decoded
mod Answered
mod Encoded
mod Back
mod Lowest
