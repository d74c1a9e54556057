pub mod AuditLaws
pub mod UniqueLaws
pub mod ReplayLaws
pub mod LevelLaws
pub mod PartLaws
