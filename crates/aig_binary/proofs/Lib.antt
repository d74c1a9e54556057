pub mod LetterLaws
pub mod AnswerLaws
pub mod FaultLaws
pub mod EndingLaws
pub mod SpellingLaws
mod Examples
pub mod LineLaws
pub mod ItemLaws
pub mod SpeltItemLaws
pub mod RoundTripLaws
pub mod LineNameLaws
pub mod PropsLimitLaws
pub mod LimitLaws
pub mod GateTextLaws
