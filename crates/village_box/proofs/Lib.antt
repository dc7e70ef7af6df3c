mod Buffers
mod Streaming
mod Steps
