mod Places
mod Rejecting
mod Clearing
mod Walk
mod Next
mod Turn
mod Markets
