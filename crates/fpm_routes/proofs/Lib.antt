mod Parts
mod Lines
