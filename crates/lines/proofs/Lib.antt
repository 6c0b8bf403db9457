pub mod Cuts
pub mod Figures
pub mod Pairs
pub mod Back
