pub mod AppendLemmas
pub mod NameLemmas
pub mod NumberLemmas
pub mod WordLemmas
pub mod PartLemmas
pub mod Base64Lemmas
pub mod HexTexts
