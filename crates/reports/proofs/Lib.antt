pub mod HeldBackLaws
pub mod RemainingLaws
pub mod CountLaws
pub mod AgreementLaws
pub mod TraceTextLaws
mod SimulatingLaws
pub mod AuditTextLaws
mod WaveDumpLaws
mod WaveNameLaws
mod WaveProbeLaws
mod WaveMomentLaws
