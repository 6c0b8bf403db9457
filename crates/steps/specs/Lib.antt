pub mod Faults
pub mod Rule
pub mod Rank
pub mod Checked
