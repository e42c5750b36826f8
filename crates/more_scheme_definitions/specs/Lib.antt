pub mod HarvardKyoto
pub mod Iast
