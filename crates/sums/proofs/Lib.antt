pub mod Sums
pub mod FirstAbove
