pub mod GrowingLaws
pub mod PackingLaws
pub mod FollowingLaws
pub mod GatheringLaws
pub mod SteppingLaws
pub mod ConstrainingLaws
pub mod SubstituteLaws
pub mod ReadsSubstituteLaws
pub mod MergeStepLaws
pub mod ReadFunctionLaws
pub mod InstanceLaws
pub mod ConjunctionLaws
mod FreeLaws
