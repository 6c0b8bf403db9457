pub mod Drafts
pub mod Files
pub mod Heard
pub mod Relisted
pub mod Again
pub mod Lines
