pub mod Moving
pub mod Printing
