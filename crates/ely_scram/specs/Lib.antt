pub mod Judgement
pub mod JudgementCosts
