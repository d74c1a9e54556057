pub mod Printing
pub mod Sources
pub mod HeldNames
pub mod Objects
pub mod NameFiles
pub mod RunOptions
pub mod progress
