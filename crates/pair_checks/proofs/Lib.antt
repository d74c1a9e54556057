pub mod OpeningLaws
pub mod StepLaws
pub mod StreamLaws
pub mod JudgeLaws
pub mod PairLaws
pub mod Examples
