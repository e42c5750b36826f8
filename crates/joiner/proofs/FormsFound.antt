-- A phase has a form exactly where its letters lead from the phase's root to a node with a delta: each form has an analysis, and
-- each analysis a delta.
use Rattle.std.proofs.Common.{◌≡◌, ◌≢◌, ℕ, ◌<◌, ◌↔◌, Bool, false, List, [], ◌∷◌, length, map, Some, None, inr, refl, sym, ◌∙◌, subst, arith}
use Rattle.std.specs.Prelude.{IsTrue, IsSome, slice_index, Contains}
use Rattle.std.specs.Cmp.{both_ways}
use Rattle.std.proofs.lemmas.Bool.{false_from_ne_true}
use Rattle.std.proofs.lemmas.List.{append-nil}
use Rattle.std.proofs.lemmas.List.Elements.{All-contains}
use Rattle.list_laws.proofs.Sorted.{Contains-first, not_Contains-nil}
use Rattle.list_laws.proofs.FirstOnes.{Contains-map, Contains-map_cases}
use Rattle.lexicon_definitions.specs.Analyses.{Analysis}
use Rattle.lexicon_definitions.specs.Deltas.{Delta}
use Rattle.lexicon_definitions.specs.Lexicons.{Form, IsFormEntry, IsPhase, forms_of}
use Rattle.lexicon_definitions.specs.Tries.{Row, Trie, IsNodeAfter, HasDelta, BeginsForm, row_of, walk}
use Rattle.annotated_trie.specs.Searched.{SearchedLexicon, IsSearchedLexicon}
use Rattle.search_frames.proofs.WalkDeltas.{delta_exists}
use Rattle.chain_definitions.specs.ChainReadings.{has_form}
use Rattle.chain_definitions.proofs.FormTests.{form_from_test, test_from_form}

-- a form with these letters
record HasLetters (forms : List Form) (letters : List ℕ) : Type 0 where
  form : Form
  among : Contains forms form
  is : form.letters ≡ letters

module _ (rows : List Row) (forms : List Form) (letters : List ℕ) (root : ℕ) (is : IsNodeAfter rows forms [] root) (phase : IsPhase forms) where
  found : Contains (map (λ (form : Form). form.letters) forms) letters → HasLetters forms letters
  found inside =
      let (form, among, gives) = Contains-map_cases (λ (f : Form). f.letters) forms letters inside in
      record { form = form; among = among; is = gives }

  -- a form has a delta
  some_delta : (form : Form) → Contains forms form → form.letters ≡ letters → (analyses : List Analysis) → form.analyses ≡ analyses
      → (delta : Delta) × HasDelta forms letters delta
  some_delta form among same [] none = absurd ((All-contains IsFormEntry forms form phase.each among).analyzed none)
  some_delta form among same (analysis ∷ analyses) are =
      let (delta, gives) = delta_exists letters analysis in (
        delta,
        record {
          form = form;
          is_among = among;
          has_letters = same;
          analysis = analysis;
          is_analyzed = subst (λ (list : List Analysis). Contains list analysis) (sym are) (Contains-first analysis analyses);
          is_delta = gives;
        },
      )

  -- where letters lead nowhere, no form has them
  none_there : walk rows root letters ≡ None → Contains (map (λ (form : Form). form.letters) forms) letters → ⊥
  none_there walked inside =
      let has = found inside in
      let begins : BeginsForm forms letters = record { form = has.form; is_among = has.among; rest = []; has_letters = has.is ∙ sym (append-nil letters) } in
      let walks : IsSome (walk rows root letters) = (is.walks letters).1 (inr begins) in
      absurd (cc)

  -- where they lead to a node with a delta, a form has them
  from_delta : (node : ℕ) (deltas : List Delta) → walk rows root letters ≡ Some node → (row_of rows node).deltas ≡ deltas → deltas ≢ []
      → Contains (map (λ (form : Form). form.letters) forms) letters
  from_delta node [] walked are some = absurd (some refl)
  from_delta node (delta ∷ deltas) walked are some =
      let has = (is.deltas letters node walked delta).0 (subst (λ (ds : List Delta). Contains ds delta) (sym are) (Contains-first delta deltas)) in
      subst (Contains (map (λ (form : Form). form.letters) forms)) has.has_letters (Contains-map (λ (f : Form). f.letters) forms has.form has.is_among)

  to_delta : (node : ℕ) → walk rows root letters ≡ Some node → Contains (map (λ (form : Form). form.letters) forms) letters → (row_of rows node).deltas ≢ []
  to_delta node walked inside none =
      let has = found inside in
      let (delta, is_one) = some_delta has.form has.among has.is has.form.analyses refl in
      not_Contains-nil delta (subst (λ (ds : List Delta). Contains ds delta) none ((is.deltas letters node walked delta).1 is_one))

module _ (searched : SearchedLexicon) (is : IsSearchedLexicon searched) (trie : Trie) (same : trie ≡ searched.tries.trie) (phase root : ℕ)
    (named : phase < length searched.lexicon.rules.names) (root_is : root ≡ slice_index trie.roots phase) (letters : List ℕ) where
  low : phase < length searched.lexicon.phases
  low = let count = is.lexicon.count in omega (arith, named, count)

  -- the root stands for the forms of the phase
  root_after : IsNodeAfter trie.rows (forms_of searched.lexicon phase) [] root
  root_after =
      subst (λ (r : ℕ). IsNodeAfter trie.rows (forms_of searched.lexicon phase) [] r) (sym root_is)
      (subst (λ (t : Trie). IsNodeAfter t.rows (forms_of searched.lexicon phase) [] (slice_index t.roots phase)) (sym same) (is.forms.each phase low))

  phase_is : IsPhase (forms_of searched.lexicon phase)
  phase_is = is.lexicon.phases phase [] low

  pub not_there : None ≡ walk trie.rows root letters → false ≡ has_form searched.lexicon phase letters
  not_there walked =
      sym (false_from_ne_true (has_form searched.lexicon phase letters)
      (λ h. none_there trie.rows (forms_of searched.lexicon phase) letters root root_after phase_is (sym walked)
      (form_from_test searched.lexicon phase letters h)))

  pub there : (node : ℕ) (accepts : Bool) → Some node ≡ walk trie.rows root letters → IsTrue accepts ↔ ((row_of trie.rows node).deltas ≢ [])
      → accepts ≡ has_form searched.lexicon phase letters
  there node accepts walked tells =
      both_ways accepts (has_form searched.lexicon phase letters)
      (λ h. test_from_form searched.lexicon phase letters
      (from_delta trie.rows (forms_of searched.lexicon phase) letters root root_after phase_is node (row_of trie.rows node).deltas (sym walked) refl (tells.0 h)))
      (λ h. tells.1 (to_delta trie.rows (forms_of searched.lexicon phase) letters root root_after phase_is node (sym walked)
      (form_from_test searched.lexicon phase letters h)))
