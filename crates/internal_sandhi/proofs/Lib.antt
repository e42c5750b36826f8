pub mod Turning
pub mod StopSteps
pub mod NasalSteps
