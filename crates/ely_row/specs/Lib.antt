pub mod Cuts
pub mod Salts
pub mod Creds
pub mod Attributes
pub mod Rows
pub mod Edits
pub mod Dependence
pub mod Sets
