pub mod FieldMap
pub mod LiveRanges
