pub mod AnswerLaws
pub mod BatchLaws
pub mod EndLaws
pub mod ExplainingLaws
pub mod ObjectLaws
pub mod SayingLaws
pub mod RunLaws
