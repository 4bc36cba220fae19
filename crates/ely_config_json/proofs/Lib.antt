pub mod KnownRealms
pub mod Levels
pub mod Presence
