pub mod Merging
pub mod Starts
