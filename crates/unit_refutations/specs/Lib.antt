pub mod Assigned
pub mod Classes
