pub mod SubstituteLaws
pub mod ReadingLaws
pub mod LineLaws
mod JudgeLaws
