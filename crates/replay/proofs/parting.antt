-- Removals that go first, and the rest.
pub mod Rest
pub mod Copied
pub mod Parts
