pub mod Readings
pub mod Inductive
pub mod Shown
pub mod Lines
pub mod Counts
pub mod Laws
