pub mod Configs
pub mod Realms
