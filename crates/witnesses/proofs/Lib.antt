pub mod LineLaws
pub mod WordLaws
pub mod ReadingLaws
pub mod FreeLaws
pub mod StreamLaws
pub mod FoundLaws
pub mod ConfirmingLaws
