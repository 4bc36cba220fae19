pub mod Counts
pub mod Reloads
pub mod Faults
pub mod Touching
pub mod Entries
pub mod Kept
