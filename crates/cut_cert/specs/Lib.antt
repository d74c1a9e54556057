pub mod Fronts
pub mod SinkWalk
pub mod Gates
pub mod Shown
pub mod Walks
pub mod Cuts
pub mod Steps
pub mod OpenWalk
