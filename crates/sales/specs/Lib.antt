pub mod State
pub mod Questions
