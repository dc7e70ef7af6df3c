-- The shape of the proof that the telling settles: channels, their levels, and the one law of them.
pub mod Channels
pub mod Levels
