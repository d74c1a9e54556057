pub mod Labels
pub mod Nodes
pub mod Views
pub mod Looks
pub mod Places
pub mod Near
pub mod Pictures
