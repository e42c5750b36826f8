pub mod Points
pub mod Letters
pub mod PointSteps
