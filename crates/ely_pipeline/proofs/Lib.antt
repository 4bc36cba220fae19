pub mod Examples
pub mod FirstPlace
pub mod SearchLemmas
