mod Alike
mod Answered
mod Refusing
mod Rows
