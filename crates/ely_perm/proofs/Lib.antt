pub mod Families
pub mod ModeLaws
