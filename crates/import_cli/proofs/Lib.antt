mod Words
mod CommandLines
mod Carried
