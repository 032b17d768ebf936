-- An unfinished commit as a course to its end.
pub mod Course
pub mod Rest
pub mod RestOf
pub mod Resuming
pub mod Returning
