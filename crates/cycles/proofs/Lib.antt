mod Walks
mod Rings
