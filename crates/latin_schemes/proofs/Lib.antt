pub mod Tables
pub mod VelthuisCodes
pub mod VelthuisSteps
