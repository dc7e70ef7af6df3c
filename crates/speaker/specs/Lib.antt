pub mod Rule
pub mod Number
pub mod Words
pub mod Telling
pub mod Bytes
pub mod Answers
