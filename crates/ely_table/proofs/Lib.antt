pub mod TableWrites
pub mod NameCounts
pub mod Reloading
pub mod Steps
pub mod Records
pub mod Touches
