pub mod Chains
pub mod Ends
pub mod Lists
pub mod Nodes
pub mod Ownership
pub mod Pairs
pub mod Partners
pub mod Whole
