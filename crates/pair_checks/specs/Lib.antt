pub mod Pairs
pub mod Openings
pub mod Sides
pub mod Answers
