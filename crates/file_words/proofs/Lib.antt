pub mod Examples
pub mod DecimalLaws
pub mod CutLaws
pub mod FirstLaws
pub mod AnsweringLaws
pub mod NumberLaws
pub mod ReadingLaws
