pub mod Told
mod Words
mod CommandLines
mod Carried
