pub mod Tables
pub mod LowerRanks
pub mod NameOrder
pub mod Counts
pub mod Faultless
