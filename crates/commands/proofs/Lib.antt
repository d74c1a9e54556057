pub mod FrameLaws
pub mod StatisticsLaws
pub mod AuditLaws
pub mod PipeLaws
