pub mod Records
pub mod After
