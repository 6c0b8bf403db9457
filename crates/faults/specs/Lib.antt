pub mod Layers
pub mod Sections
pub mod Records
pub mod Files
