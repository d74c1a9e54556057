pub mod Outcomes
pub mod Refusals
pub mod Sharing
pub mod Rule
pub mod Drawing
pub mod Laws
