pub mod NonceLemmas
pub mod KeptLemmas
pub mod SpendLemmas
pub mod UseLemmas
pub mod CountLemmas
