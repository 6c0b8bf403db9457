mod Kept
pub mod NextInRank
mod Gathered
