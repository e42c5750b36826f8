-- The reply to one line more, after those to the lines before it.
use Rattle.std.proofs.Common.{◌≡◌, ℕ, ◌+◌, ◌<◌, List, Vec, Global, [], ◌∷◌, ◌++◌, length, get_or, take, map, sym, subst}
use Rattle.std.specs.List.{AllZip}
use Rattle.std.proofs.lemmas.List.{map-append}
use Rattle.text_definitions.specs.Lines.{Line}
use Rattle.lexicon_definitions.specs.Lexicons.{Lexicon}
use Rattle.batch_reader.specs.Replies.{IsReply, AreReplies, AsksForPage, IsReplyTo, AreRepliesTo}
use Rattle.batch_reader.specs.declared.asked.Asked.{Asked}
use Rattle.batch_reader.specs.declared.asked.Asked.TheVariants as asked
use Rattle.batch_reader.proofs.FoundReplies.{zip_next}

module _ (lexicon : Lexicon) (count : ℕ) where
  -- one reply more comes after those before it
  pub replies_with_next : (all : List Asked) (place : ℕ) (one : Asked) (before : List (Vec ℕ Global)) (reply : Vec ℕ Global)
      → place < length all → one ≡ get_or all place one
      → AreRepliesTo lexicon count (take place all) (map (λ reply. reply.items) before) → IsReplyTo lexicon count one reply.items
      → AreRepliesTo lexicon count (take (place + 1) all) (map (λ reply. reply.items) (before ++ (reply ∷ [])))
  replies_with_next all place one before reply within same replied next =
      subst (AreRepliesTo lexicon count (take (place + 1) all)) (sym (map-append (λ (text : Vec ℕ Global). text.items) before (reply ∷ [])))
      (zip_next (IsReplyTo lexicon count) all place one _ reply.items within same replied next)

  -- replies to those who ask for the pages of these lines are the pages
  pub pages_replied : (lines : List Line) (asked : List Asked) (replies : List (List ℕ)) → AllZip AsksForPage lines asked
      → AreRepliesTo lexicon count asked replies → AreReplies lexicon count lines replies
  pages_replied [] [] replies asks are = are
  pages_replied [] (one ∷ more) replies asks are = absurd asks
  pages_replied (line ∷ lines) [] replies asks are = absurd asks
  pages_replied (line ∷ lines) (one ∷ more) [] asks are = absurd are
  pages_replied (line ∷ lines) (asked.Portion other ∷ more) (reply ∷ replies) asks are = absurd asks.0
  pages_replied (line ∷ lines) (asked.Line other ∷ more) (reply ∷ replies) asks are = (
    subst (λ (l : Line). IsReply lexicon count l reply) asks.0 are.0.is,
    pages_replied lines more replies asks.1 are.1,
  )

-- one line more is asked for its page
pub page_asked : (lines : List Line) (place : ℕ) (line : Line) (before : List Asked) (one : Asked) → place < length lines
    → line ≡ get_or lines place line → AllZip AsksForPage (take place lines) before → AsksForPage line one
    → AllZip AsksForPage (take (place + 1) lines) (before ++ (one ∷ []))
page_asked lines place line before one within same asked next = zip_next AsksForPage lines place line before one within same asked next
