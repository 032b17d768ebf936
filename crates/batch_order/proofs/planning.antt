-- What a batch is judged by, what its plan is, and what the plan leads to.
pub mod Judged
pub mod Meant
pub mod Parted
pub mod Few
pub mod Since
pub mod Retold
pub mod Aimed
pub mod Ended
pub mod Padded
pub mod Translated
pub mod Leading
pub mod Longest
pub mod Taken
pub mod Refused
pub mod Holding
pub mod Numbers
pub mod Prepared
