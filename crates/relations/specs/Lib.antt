-- Relations as code holds them: a table that says what networks are to each other, in the terms of the model.
pub mod Between
pub mod Table
pub mod Sound
