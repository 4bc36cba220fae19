pub mod Mappers
pub mod RolesOf
pub mod Bounds
