pub mod Obligations
pub mod Reading
pub mod Checking
pub mod Making
pub mod Fitting
pub mod Lifted
pub mod Asking
pub mod Products
