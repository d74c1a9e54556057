pub mod FreeLaws
pub mod StartLaws
pub mod SubstitutesLaws
pub mod StepLaws
pub mod FinishingLaws
pub mod MergingLaws
