pub mod SharedLaws
pub mod EqualLaws
pub mod CopyLaws
pub mod CircuitLaws
