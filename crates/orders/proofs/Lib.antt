mod Obeyed
mod Raised
