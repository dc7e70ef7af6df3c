-- A router and its tables in the terms of the model, and what it answers when it hears and when a link turns.
pub mod Held
pub mod Answers
pub mod Rules
pub mod Made
