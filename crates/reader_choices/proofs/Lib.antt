pub mod AllowedSteps
pub mod FreeSteps
pub mod StandingSteps
