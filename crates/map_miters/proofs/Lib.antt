pub mod ComparingLaws
pub mod HoldingLaws
mod FirstLaws
mod ResetLaws
pub mod SideLaws
mod MiterLaws
mod LeafLaws
mod GoalLaws
mod TieLaws
mod EndLaws
mod WitnessLaws
pub mod AnswerLaws
mod AskedLaws
mod BesideLaws
mod TurnedLaws
mod BackLiftLaws
