pub mod Starting
pub mod Moved
pub mod Members
pub mod Entries
pub mod Marked
pub mod Planned
pub mod Laws
