mod Meeting
mod Answers
mod Loops
