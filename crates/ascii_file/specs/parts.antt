-- What readers of either spelling are made of.
pub mod Rows
pub mod Open
pub mod Limits
pub mod Header
pub mod Named
pub mod Symbols
pub mod Names
pub mod Lists
pub mod Parts
pub mod Places
