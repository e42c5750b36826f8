pub mod Allowing
pub mod Freedom
