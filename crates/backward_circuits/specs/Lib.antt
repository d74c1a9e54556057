pub mod Drawn
pub mod MovedBack
