pub mod Latches
pub mod Merged
pub mod Reached
pub mod Trimmed
pub mod Cleaned
pub mod Held
pub mod Laws
