pub mod PrintingLaws
pub mod EndingLaws
pub mod RefusalLaws
pub mod NameFileLaws
pub mod LapLaws
pub mod PushLaws
