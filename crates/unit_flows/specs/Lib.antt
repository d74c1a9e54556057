pub mod Units
pub mod Marks
pub mod Shown
pub mod Passes
pub mod Onward
pub mod Laws
