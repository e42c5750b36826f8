-- What contracts see of a session between two lines of its input, and what a reply changes (own).
use Rattle.std.specs.Prelude.{◌≡◌, ℕ, List, ◌++◌}
use Rattle.annotated_trie.specs.Searched.{SearchedLexicon}
use Rattle.session_definitions.specs.States.{State}
use Rattle.session_definitions.specs.Replies as replies
use Rattle.session_definitions.specs.Replies.{Reply, IsReply, IsReplyToText}
use Rattle.reader_session.specs.declared.after.After.{After}
use Rattle.reader_session.specs.declared.after.After.TheVariants as after

-- the lexicon, and what the session knows
pub record SessionValue : Type 0 where
  pub searched : SearchedLexicon
  pub state : State

-- how a session in this state stands after a reply, as the definitions say it
abbrev pub stands_after : After → State → replies.After
stands_after after.Open state = replies.Open state
stands_after after.Over state = replies.Over

-- the session replied: the bytes of such a reply were appended, and it stands as this reply says, over the same lexicon
pub record HasReplied (IsIt : Reply → Type 0) (old new : SessionValue) (before now : List ℕ) (after : After) : Type 0 where
  pub reply : Reply
  pub is_it : IsIt reply
  pub bytes : now ≡ before ++ reply.bytes
  pub searched : new.searched ≡ old.searched
  pub stands : reply.after ≡ stands_after after new.state
