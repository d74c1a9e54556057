pub mod StopLaws
pub mod AnswerLaws
