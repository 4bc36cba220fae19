pub mod JudgementLemmas
pub mod WhoGetsIn
