pub mod RealmLemmas
pub mod RealmNames
pub mod ReferenceLemmas
pub mod Targets
