pub mod Shared
pub mod Equal
pub mod Copies
pub mod Circuits
