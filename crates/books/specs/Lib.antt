pub mod Frames
pub mod Lawful
pub mod Replies
pub mod Keeps
pub mod Memory
pub mod Flat
pub mod Owned
