pub mod Bytes
pub mod Kind
pub mod Event
