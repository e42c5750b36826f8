-- Pages of one line that a reader asks for one after another, with the same choices, up to `end` (own).
use Rattle.std.specs.Prelude.{◌≡◌, ℕ, false, Some, List, ◌++◌}
use Rattle.text_definitions.specs.Lines.{Line}
use Rattle.lexicon_definitions.specs.Lexicons.{Lexicon}
use Rattle.lexicon_text_definitions.specs.FileLines as file
use Rattle.segmentation_definitions.specs.Derivations.{Step}
use Rattle.session_definitions.specs.States.{State}
use Rattle.session_definitions.specs.Replies.{Reply, Open, IsPageReply, IsReply}

-- after the reply the session goes on with the same line, the same choices and at the same cursor
pub record KeepsPlace (state : State) (reply : Reply) : Type 0 where
  pub next : State
  pub goes_on : reply.after ≡ Open next
  pub line : next.line ≡ state.line
  pub choices : next.choices ≡ state.choices
  pub cursor : next.cursor ≡ state.cursor

-- from this state on the session prints pages of the line, up to one that ends with `end`, and these are all their answers, one
-- after another; between two pages there may be replies that keep the place
pub data ArePageReplies (lexicon : Lexicon) (line : Line) : State → List (List Step) → Type 0 where
  LastPage : (state : State) (count : ℕ) (reply : Reply) → state.line ≡ Some line
      → (page : IsPageReply lexicon state count line reply) → page.more ≡ false → ArePageReplies lexicon line state page.answers
  NextPage : (state next : State) (count : ℕ) (reply : Reply) (rest : List (List Step)) → state.line ≡ Some line
      → (page : IsPageReply lexicon state count line reply) → reply.after ≡ Open next → ArePageReplies lexicon line next rest
      → ArePageReplies lexicon line state (page.answers ++ rest)
  OtherReply : (state : State) (input : file.Line) (reply : Reply) (answers : List (List Step))
      → IsReply lexicon state input reply → (kept : KeepsPlace state reply) → ArePageReplies lexicon line kept.next answers
      → ArePageReplies lexicon line state answers
