pub mod Facts
pub mod Images
pub mod Parts
pub mod Starts
pub mod Openings
pub mod Answers
