pub mod WordLaws
pub mod LaneLaws
pub mod TableLaws
mod StepLaws
pub mod BlockLaws
pub mod TraceLaws
pub mod StimulusLaws
pub mod KeptLaws
pub mod ComparingLaws
pub mod DifferenceLaws
