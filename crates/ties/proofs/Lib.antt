mod Written
mod Progress
mod Decoded
mod Encoded
mod Answered
pub mod Back
mod Lowest
