pub mod Cuts
pub mod EmptyLists
pub mod Firsts
pub mod RisingSets
