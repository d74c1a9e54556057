-- The order of the gates of a file.
pub mod Order
pub mod Cycles
pub mod Laws
pub mod Readers
pub mod Ready
