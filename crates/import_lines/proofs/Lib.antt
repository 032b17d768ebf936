pub mod ScriptParts
pub mod Rounds
pub mod Tells
pub mod Whole
pub mod Accounts
