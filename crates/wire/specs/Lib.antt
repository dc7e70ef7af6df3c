-- What it gives on: reading numbers from bytes, and what is told of where they end.
-- numbers of several bytes
pub mod Numbers
-- what a reader has before it
pub mod Reading
