mod Kept
mod Halves
mod Shadows
