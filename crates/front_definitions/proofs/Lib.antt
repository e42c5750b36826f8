pub mod NextOnes
pub mod KeyListFronts
pub mod SameFronts
pub mod FoundFronts
pub mod PutFronts
