pub mod MakingLaws
pub mod MapTextLaws
