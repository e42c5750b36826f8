-- An entry within the limits and above the last goes to the end of the entries.
use Rattle.std.proofs.Common.{◌≡◌, ℕ, ◌<◌, Bool, true, false, ◌||◌, nat_le, nat_lt, Option, Ok, Err, List, [], ◌∷◌, ◌++◌, length, get_or, refl, sym, ◌∙◌, ap}
use Rattle.std.specs.declared.cmp.Ordering.{Ordering}
use Rattle.std.specs.declared.cmp.Ordering.TheVariants.{Less, Equal, Greater}
use Rattle.std.proofs.lemmas.Bool.{or_parts, leb-false}
use Rattle.std.proofs.lemmas.List.{length-set}
use Rattle.lexicon_definitions.specs.declared.limits.TheConstants.{MOST_FORM_LINES, MOST_FORM_LETTERS}
use Rattle.lexicon_definitions.specs.Lexicons.{Form}
use Rattle.lexicon_definitions.specs.Limits.{count_lines}
use Rattle.lexicon_definitions.specs.FormEntries as entries
use Rattle.lexicon_definitions.specs.FormEntries.{Entry, placed_at, with_entry}
use Rattle.phase_automaton.specs.Automata.{StateMachine}
use Rattle.lexicon_text_definitions.specs.FileFaults as faults
use Rattle.lexicon_text_definitions.specs.FileLines as lines
use Rattle.lexicon_text_definitions.specs.FileContents.{Told, compare_entries, compare_last, entries_from}
use Rattle.lexicon_text_definitions.specs.FileSteps.{Taken, if_rising, passes_form_limits, take_form_line}
use Rattle.lexicon_text_definitions.proofs.LineSteps.{with_line}
use Rattle.lexicon_text_definitions.proofs.FormPhases.{AreLawful}
use Rattle.lexicon_text_definitions.proofs.WholeTexts.{counted}
use Rattle.form_file.specs.declared.take_error.TakeError.{TakeError}
use Rattle.form_file.specs.declared.take_error.TakeError.TheVariants.{Why, Memory}
use Rattle.form_file.specs.Told.{IsBody, IsAnswer}
use Rattle.shared_trie.proofs.EntriesEnd.{entries_with}
use Rattle.list_laws.proofs.Booleans.{when_true, when_false}

-- ---- what is kept with it

pub body_with : (names : List (List ℕ)) (grammar : List ℕ) (automaton : Option StateMachine) (lists new : List (List Form)) (entry : Entry) → IsBody names grammar automaton lists
    → new ≡ with_entry lists entry → IsBody names grammar automaton new
body_with names grammar automaton lists new entry body e = record {
  some = body.some;
  as_many = ap length e ∙ length-set lists entry.phase (entries.with_form entry.letters entry.analysis (get_or lists entry.phase [])) ∙ body.as_many;
  has_automaton = body.has_automaton;
  recognizes = body.recognizes;
  phases = body.phases;
}

-- ---- the tests of a line

pub limits_are : (kept told : Told) (lists : List (List Form)) (count : ℕ) (entry : Entry) (test : Bool) → kept ≡ told → kept.forms ≡ entries_from 0 lists → count ≡ count_lines lists
    → test ≡ (nat_le MOST_FORM_LINES count || nat_lt MOST_FORM_LETTERS (length entry.letters) || nat_lt MOST_FORM_LETTERS (length entry.analysis.stem)) → test ≡ passes_form_limits told entry
limits_are kept told lists count entry test view forms c t =
    let long : count ≡ length kept.forms = c ∙ counted 0 lists ∙ ap length (sym forms) in
    t ∙ ap (λ n. nat_le MOST_FORM_LINES n || nat_lt MOST_FORM_LETTERS (length entry.letters) || nat_lt MOST_FORM_LETTERS (length entry.analysis.stem)) long
    ∙ ap (λ (told : Told). passes_form_limits told entry) view

pub few_lines : (count : ℕ) (test letters stem : Bool) → test ≡ (nat_le MOST_FORM_LINES count || letters || stem) → test ≡ false → count < MOST_FORM_LINES
few_lines count test letters stem t e =
    let counts = or_parts (nat_le MOST_FORM_LINES count || letters) stem (sym t ∙ e) in
    let lines = or_parts (nat_le MOST_FORM_LINES count) letters counts.0 in
    leb-false MOST_FORM_LINES count lines.0

pub passed_limits : (told : Told) (entry : Entry) (test : Bool) → test ≡ passes_form_limits told entry → test ≡ true → take_form_line told entry ≡ Err faults.Limit
passed_limits told entry test t e = when_true (passes_form_limits told entry) _ _ _ (sym t ∙ e) refl

within_limits : (told : Told) (entry : Entry) (test : Bool) → test ≡ passes_form_limits told entry → test ≡ false
    → take_form_line told entry ≡ if_rising (compare_last compare_entries told.forms entry) (with_line told entry)
within_limits told entry test t e = when_false (passes_form_limits told entry) _ _ _ (sym t ∙ e) refl

less_by : (order : Ordering) (told : Told) → if_rising order told ≡ Ok told → order ≡ Less
less_by Less told h = refl
less_by Equal told h = absurd (cc)
less_by Greater told h = absurd (cc)

-- what is kept is below the new entry
pub above_last : (kept told : Told) (entry : Entry) (order : Ordering) → kept ≡ told → order ≡ compare_last compare_entries told.forms entry → ((t : Told) → if_rising order t ≡ Ok t)
    → compare_last compare_entries kept.forms entry ≡ Less
above_last kept told entry order view o r = ap (λ (told : Told). compare_last compare_entries told.forms entry) view ∙ sym o ∙ less_by order told (r told)

-- a refusal does not speak of what is told afterwards
pub refusal_moved : (A B : Type 0) (taken other : Taken) (error : TakeError) (before after : Told) → other ≡ taken → IsAnswer {A = A} taken (Err error) before → IsAnswer {A = B} other (Err error) after
refusal_moved A B taken other (Why why) before after e h = e ∙ h
refusal_moved A B taken other Memory before after e h = tt

pub not_above : (A B : Type 0) (told : Told) (entry : Entry) (test : Bool) (order : Ordering) (error : TakeError) (after : Told) → test ≡ passes_form_limits told entry → test ≡ false
    → order ≡ compare_last compare_entries told.forms entry → ((t : Told) → IsAnswer {A = A} (if_rising order t) (Err error) t) → IsAnswer {A = B} (take_form_line told entry) (Err error) after
not_above A B told entry test order error after t e o r =
    refusal_moved A B (if_rising order (with_line told entry)) (take_form_line told entry) error (with_line told entry) after
    (within_limits told entry test t e ∙ ap (λ order. if_rising order (with_line told entry)) (sym o)) (r (with_line told entry))

pub taken_with : (kept told : Told) (lists new : List (List Form)) (entry : Entry) (test : Bool) (order : Ordering) → kept ≡ told → kept.forms ≡ entries_from 0 lists → AreLawful lists → entry.phase < length lists
    → test ≡ passes_form_limits told entry → test ≡ false → order ≡ compare_last compare_entries told.forms entry → ((t : Told) → if_rising order t ≡ Ok t) → new ≡ with_entry lists entry
    → take_form_line told entry ≡ Ok (record kept { last = lines.Form; forms = entries_from 0 new })
taken_with kept told lists new entry test order view forms lawful within t e o r n =
    let above : compare_last compare_entries (entries_from 0 lists) entry ≡ Less =
    ap (λ lines. compare_last compare_entries lines entry) (sym forms) ∙ above_last kept told entry order view o r in
    let more : kept.forms ++ entry ∷ [] ≡ entries_from 0 new = ap (λ lines. lines ++ entry ∷ []) forms ∙ sym (entries_with lists new entry lawful within above n) in
    within_limits told entry test t e ∙ ap (λ order. if_rising order (with_line told entry)) (sym o ∙ less_by order told (r told))
    ∙ ap (λ (told : Told). Ok (with_line told entry)) (sym view) ∙ ap (λ all. Ok (record kept { last = lines.Form; forms = all })) more
