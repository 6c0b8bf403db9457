pub mod Texts
pub mod Listed
