pub mod SealLaws
pub mod NameLaws
pub mod StandingLaws
pub mod MapLaws
