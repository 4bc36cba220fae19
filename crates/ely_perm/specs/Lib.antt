pub mod Modes
pub mod Grants
pub mod Bounds
pub mod ModeLaws
