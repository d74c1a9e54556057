pub mod FileUses
pub mod Clashes
pub mod ListFiles
