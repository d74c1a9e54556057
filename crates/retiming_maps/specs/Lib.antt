pub mod Mapping
pub mod Plain
pub mod Merging
