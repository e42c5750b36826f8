mod RepliesInOrder
mod SharedRepliers
mod FoundReplies
pub mod CutLines
mod RepliedTexts
pub mod RepliedLines
pub mod WrittenPieces
pub mod ServedLines
