pub mod Appended
pub mod SetLemmas
pub mod Searches
pub mod AfterEdits
