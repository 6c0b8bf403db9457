mod Rows
mod Cut
