pub mod FileOutcomeLaws
pub mod OutcomeLaws
pub mod RisingLaws
pub mod SharingLaws
pub mod WeightLaws
pub mod StepLaws
pub mod GatheringLaws
pub mod PlaceLaws
mod CounterLaws
