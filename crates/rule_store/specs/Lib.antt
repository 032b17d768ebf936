pub mod Applied
pub mod Batch
pub mod Common
pub mod Naming
pub mod Store
pub mod Verdict
