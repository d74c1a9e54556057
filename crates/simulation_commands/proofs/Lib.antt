mod FindingLaws
mod WaveLaws
mod WordLaws
mod RoomLaws
pub mod VerdictLaws
