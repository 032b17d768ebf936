mod Told
mod Each
mod Scripts
mod Texts
