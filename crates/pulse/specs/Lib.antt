pub mod Values
pub mod Conditions
pub mod Phases
pub mod Sharing
