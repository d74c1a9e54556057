pub mod EntryLaws
pub mod LevelLaws
pub mod ArrivalLaws
pub mod BarringLaws
pub mod BarredBorderLaws
pub mod UnbarredLaws
pub mod BoundedLaws
pub mod MarkedLaws
mod Examples
