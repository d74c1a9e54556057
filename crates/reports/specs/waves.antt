-- Waves: dumps of the values of a circuit, step by step.
pub mod Probes
pub mod Names
pub mod Dumps
pub mod Moments
