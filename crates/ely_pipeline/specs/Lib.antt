pub mod Cuts
pub mod Rules
pub mod Realms
pub mod Places
pub mod Bounds
