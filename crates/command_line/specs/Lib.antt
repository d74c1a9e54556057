pub mod Asking
pub mod StreamUses
