pub mod Answering
pub mod Codes
pub mod Cuts
pub mod Lines
pub mod Numbers
pub mod Reading
pub mod Text
