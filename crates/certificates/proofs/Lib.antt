pub mod RouteLaws
pub mod ApartLaws
pub mod WalkLaws
pub mod PassedLaws
pub mod PartsLaws
pub mod DistinctLaws
pub mod RangeLaws
pub mod Examples
