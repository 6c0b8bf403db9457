pub mod Lines
pub mod Records
pub mod Faults
pub mod Told
pub mod Drafts
pub mod Again
