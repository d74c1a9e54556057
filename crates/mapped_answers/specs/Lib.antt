pub mod Mapping
pub mod MapText
