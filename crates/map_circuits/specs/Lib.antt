pub mod Growing
pub mod Packing
pub mod Following
pub mod Stepping
pub mod Constraining
pub mod Gathering
pub mod Steps
pub mod Instances
