pub mod ListLaws
pub mod NameLaws
pub mod TargetLaws
pub mod FileLaws
mod FaultNameLaws
mod EmptyValueLaws
mod Examples
