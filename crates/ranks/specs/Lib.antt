pub mod Order
pub mod Bonds
