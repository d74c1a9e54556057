pub mod TurnedLaws
pub mod WireLaws
pub mod StayLaws
