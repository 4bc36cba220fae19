pub mod ScramKeys
pub mod DigestVerdicts
pub mod ScramCosts
