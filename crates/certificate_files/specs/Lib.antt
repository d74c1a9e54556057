pub mod Files
pub mod Texts
pub mod Steps
pub mod Forms
pub mod Laws
pub mod Codes
