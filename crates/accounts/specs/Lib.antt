pub mod Accounts
pub mod Seated
