pub mod Rounds
pub mod Asking
pub mod Following
pub mod Joining
pub mod Steps
pub mod Laws
