pub mod Replies
pub mod Blocks
pub mod Serving
pub mod Desks
