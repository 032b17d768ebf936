mod Kept
mod Least
mod Shadows
mod Logged
mod Searched
