pub mod StepLemmas
pub mod PlacedSteps
