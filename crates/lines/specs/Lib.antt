pub mod After
pub mod Laws
pub mod Number
pub mod Faults
pub mod Words
