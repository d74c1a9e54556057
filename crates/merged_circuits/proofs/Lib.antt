pub mod ReadingLaws
pub mod ShownLaws
pub mod ValueLaws
pub mod MergingLaws
pub mod LineLaws
pub mod OwnLaws
pub mod Examples
