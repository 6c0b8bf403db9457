pub mod Figures
pub mod Years
pub mod Phases
