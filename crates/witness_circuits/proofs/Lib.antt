pub mod OpeningLaws
pub mod JoiningLaws
pub mod RunLaws
pub mod AgreeLaws
pub mod PlaceLaws
pub mod FirstLaws
pub mod CarrierLaws
pub mod LiftLaws
pub mod CountLaws
pub mod SourceLaws
pub mod ViewLaws
pub mod LatchLaws
pub mod PropertyLaws
pub mod PartLaws
pub mod BuildLaws
pub mod FinishLaws
pub mod NamingLaws
mod RefusalLaws
mod PutLaws
pub mod FitLaws
