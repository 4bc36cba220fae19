pub mod Algs
pub mod Formulas
pub mod Hashes
pub mod LawProofs
pub mod Laws
pub mod Macs
pub mod TagProofs
pub mod Tags
