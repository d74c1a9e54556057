pub mod Holds
pub mod Text
