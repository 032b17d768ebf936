-- A commit under way: what its steps make and leave.
pub mod Begun
pub mod Carried
pub mod Drains
pub mod OnWay
pub mod Ways
pub mod Going
pub mod Left
pub mod Stepped
pub mod Onward
pub mod Tried
pub mod Unwritten
