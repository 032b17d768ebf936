mod Loops
mod Scripts
mod Texts
mod Holding
mod Comparing
mod Looking
mod Elements
mod Apart
