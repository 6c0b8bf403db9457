pub mod First
mod Seen
