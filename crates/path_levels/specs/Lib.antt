pub mod Levels
pub mod Arrivals
pub mod Bounded
