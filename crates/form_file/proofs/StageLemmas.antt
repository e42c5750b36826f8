-- What is kept once lines of the body were told, and when they were.
use Rattle.std.proofs.Common.{◌≡◌, ℕ, true, Option, List, [], sym, subst}
use Rattle.lexicon_definitions.specs.Lexicons.{Form}
use Rattle.phase_automaton.specs.Automata.{StateMachine}
use Rattle.lexicon_text_definitions.specs.FileLines as lines
use Rattle.lexicon_text_definitions.specs.FileLines.{may_follow}
use Rattle.lexicon_text_definitions.specs.FileContents.{Told}
use Rattle.form_file.specs.Told.{HasBody, IsBody, IsStage, IsKept}

body_at : (last : lines.Kind) (told : Told) (automaton : Option StateMachine) (lists : List (List Form)) → HasBody last
    → IsStage last told automaton lists → IsBody told.names told.grammar automaton lists
body_at lines.Opening told automaton lists has h = absurd has
body_at lines.Head told automaton lists has h = absurd has
body_at lines.Phase told automaton lists has h = absurd has
body_at last told automaton lists has h = h

pub body_kept : (kept told : Told) (automaton : Option StateMachine) (lists : List (List Form)) → kept ≡ told → HasBody told.last → IsKept kept automaton lists
    → IsBody kept.names kept.grammar automaton lists
body_kept kept told automaton lists view has h =
    body_at kept.last kept automaton lists (subst (λ (told : Told). HasBody told.last) (sym view) has) h.stage

-- before a pair, before a form, before the end, and at the end
before_plain : (last : lines.Kind) → may_follow last lines.Plain ≡ true → HasBody last
before_plain lines.Opening f = absurd (cc)
before_plain lines.Head f = absurd (cc)
before_plain lines.Phase f = absurd (cc)
before_plain last f = tt

pub before_form : (last : lines.Kind) → may_follow last lines.Form ≡ true → HasBody last
before_form lines.Opening f = absurd (cc)
before_form lines.Head f = absurd (cc)
before_form lines.Phase f = absurd (cc)
before_form last f = tt

pub before_end : (last : lines.Kind) → may_follow last lines.End ≡ true → HasBody last
before_end lines.Opening f = absurd (cc)
before_end lines.Head f = absurd (cc)
before_end lines.Phase f = absurd (cc)
before_end last f = tt

pub at_end : (last : lines.Kind) → last ≡ lines.End → HasBody last
at_end last e = subst HasBody (sym e) tt

-- before a phase there are no lists
lists_before : (last : lines.Kind) (told : Told) (automaton : Option StateMachine) (lists : List (List Form)) → may_follow last lines.Phase ≡ true
    → IsStage last told automaton lists → lists ≡ []
lists_before lines.Opening told automaton lists f h = h
lists_before lines.Head told automaton lists f h = h
lists_before lines.Phase told automaton lists f h = h.1
lists_before lines.Grammar told automaton lists f h = absurd (cc)
lists_before lines.Plain told automaton lists f h = absurd (cc)
lists_before lines.Rule told automaton lists f h = absurd (cc)
lists_before lines.Form told automaton lists f h = absurd (cc)
lists_before lines.End told automaton lists f h = absurd (cc)

pub no_lists : (kept told : Told) (automaton : Option StateMachine) (lists : List (List Form)) → kept ≡ told → may_follow told.last lines.Phase ≡ true
    → IsKept kept automaton lists → lists ≡ []
no_lists kept told automaton lists view f h =
    lists_before kept.last kept automaton lists (subst (λ (told : Told). may_follow told.last lines.Phase ≡ true) (sym view) f) h.stage

-- what is kept stays where a pair was not told, and where it was
pub pairs_same : (kept told : Told) (pairs : List (ℕ × ℕ)) (automaton : Option StateMachine) (lists : List (List Form)) → kept ≡ told → pairs ≡ kept.plain → IsKept kept automaton lists
    → IsKept (record kept { plain = pairs }) automaton lists
pairs_same kept told pairs automaton lists view same h = subst (λ (pairs : List (ℕ × ℕ)). IsKept (record kept { plain = pairs }) automaton lists) (sym same) h

pub pairs_more : (kept told : Told) (pairs : List (ℕ × ℕ)) (automaton : Option StateMachine) (lists : List (List Form)) → kept ≡ told → may_follow told.last lines.Plain ≡ true
    → IsKept kept automaton lists → IsKept (record kept { last = lines.Plain; plain = pairs }) automaton lists
pairs_more kept told pairs automaton lists view f h = record {
  few = h.few;
  named = h.named;
  apart = h.apart;
  stage = body_kept kept told automaton lists view (before_plain told.last f) h;
}
