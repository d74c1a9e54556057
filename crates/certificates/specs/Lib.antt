pub mod Routes
pub mod Verdicts
pub mod Objections
pub mod Parts
