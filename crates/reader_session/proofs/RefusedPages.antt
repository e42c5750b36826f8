-- Without a line, or without a number of answers, a request is refused, and what is read stays.
use Rattle.std.proofs.Common.{◌≡◌, ℕ, Option, Some, None, Result, IfOk, OnOk, List, ◌++◌, codes, refl, sym, subst}
use Rattle.segmentation_definitions.specs.PrintedAnswers.{output_line}
use Rattle.std.specs.Global.{Box}
use Rattle.annotated_trie.specs.Searched.{SearchedLexicon}
use Rattle.session_definitions.specs.States.{opening}
use Rattle.session_definitions.specs.Requests.{Request, Page, Summary}
use Rattle.session_definitions.specs.Replies.{refused, IsReplyTo}
use Rattle.reader_session.specs.declared.reading.Reading.{Reading}
use Rattle.reader_session.specs.Readings.{IsReadingOver, GoesOn, state_of}
use Rattle.reader_session.proofs.RefusedReplies.{if_refused}

module _ {E : Type 0} (searched : SearchedLexicon) (old : Option (Box Reading)) (before now : List ℕ) (result : Result (Option (Box Reading)) E) where
  -- a request about a line is refused where there is no line
  without_line : (request : Request) → old ≡ None → IsReplyTo searched.lexicon opening request (refused opening (codes "no text"))
      → OnOk result (now ≡ before ++ output_line (codes "? " ++ codes "no text")) → IfOk result (λ same. same ≡ None)
      → IfOk result (GoesOn searched (IsReplyTo searched.lexicon (state_of searched.lexicon.rules old) request) before now)
  without_line request none is_it bytes same =
      subst (λ (old : Option (Box Reading)). IfOk result (GoesOn searched (IsReplyTo searched.lexicon (state_of searched.lexicon.rules old) request) before now))
      (sym none)
      (if_refused searched None (IsReplyTo searched.lexicon opening request) (codes "no text") before now result tt is_it bytes same)

  pub no_line_for_summary : old ≡ None → OnOk result (now ≡ before ++ output_line (codes "? " ++ codes "no text")) → IfOk result (λ same. same ≡ None)
      → IfOk result (GoesOn searched (IsReplyTo searched.lexicon (state_of searched.lexicon.rules old) Summary) before now)
  no_line_for_summary none bytes same = without_line Summary none refl bytes same

  pub no_line_for_page : (count : Option ℕ) (number : ℕ) → count ≡ Some number → old ≡ None
      → OnOk result (now ≡ before ++ output_line (codes "? " ++ codes "no text")) → IfOk result (λ same. same ≡ None)
      → IfOk result (GoesOn searched (IsReplyTo searched.lexicon (state_of searched.lexicon.rules old) (Page count)) before now)
  no_line_for_page count number some none bytes same =
      without_line (Page count) none
      (subst (λ (count : Option ℕ). IsReplyTo searched.lexicon opening (Page count) (refused opening (codes "no text"))) (sym some) refl) bytes same

  pub no_number_for_page : (count : Option ℕ) → count ≡ None → IsReadingOver searched old
      → OnOk result (now ≡ before ++ output_line (codes "? " ++ codes "number")) → IfOk result (λ same. same ≡ old)
      → IfOk result (GoesOn searched (IsReplyTo searched.lexicon (state_of searched.lexicon.rules old) (Page count)) before now)
  no_number_for_page count none is bytes same =
      let state = state_of searched.lexicon.rules old in
      if_refused searched old (IsReplyTo searched.lexicon state (Page count)) (codes "number") before now result is
      (subst (λ (count : Option ℕ). IsReplyTo searched.lexicon state (Page count) (refused state (codes "number"))) (sym none) refl) bytes same
