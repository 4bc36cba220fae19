pub mod Keys
pub mod Guesses
