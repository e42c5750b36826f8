pub mod InternalSandhi
pub mod Inflection
