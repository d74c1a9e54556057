pub mod Fed
pub mod Readers
pub mod Pieces
pub mod Ending
pub mod Spellings
pub mod Laws
pub mod Text
pub mod Limits
