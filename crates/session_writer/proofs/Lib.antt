pub mod Written
pub mod Puts
pub mod Layouts
pub mod Sections
pub mod Wholes
