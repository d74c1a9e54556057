-- What a run shows of itself while it goes on.
pub mod Lines
pub mod Laps
pub mod Shows
