pub mod Fault
pub mod Record
pub mod Words
pub mod Fields
pub mod Row
pub mod Parsed
pub mod Shown
