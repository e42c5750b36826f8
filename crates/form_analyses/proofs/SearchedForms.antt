-- The forms of a phase of a lexicon that is searched: the root of the phase's trie stands for them, so where the letters lead are
-- the deltas of the form.
use Rattle.std.proofs.Common.{◌≡◌, ℕ, ◌<◌, ◌≤◌, List, [], length, map, Some, None, sym, ap, subst, arith}
use Rattle.std.specs.Prelude.{All, slice_index}
use Rattle.std.proofs.lemmas.List.{length-map}
use Rattle.list_laws.specs.RisingSets.{with_elements}
use Rattle.lexicon_definitions.specs.Analyses.{compare_analyses}
use Rattle.lexicon_definitions.specs.Deltas.{Delta, analysis_by}
use Rattle.lexicon_definitions.specs.Lexicons.{RuleSet, IsPhase, forms_of}
use Rattle.lexicon_definitions.specs.Tries.{Trie, IsNodeAfter, row_of, walk}
use Rattle.annotated_trie.specs.Searched.{SearchedLexicon, IsSearchedLexicon}
use Rattle.session_definitions.specs.PrintedSummaries.{analyses_among}
use Rattle.form_analyses.proofs.PhaseAnalyses.{AreDeltasOf, deltas_at_node, cut_within, found_analyses, not_found}

-- a phase that has a name has forms
pub has_forms : {X : Type 0} (text : X → List ℕ) (texts : List X) (rules : RuleSet) (searched : SearchedLexicon) (phase : ℕ)
    → IsSearchedLexicon searched → map text texts ≡ rules.names → rules ≡ searched.lexicon.rules → phase < length texts
    → phase < length searched.lexicon.phases
has_forms text texts rules searched phase is names same low =
    let count = is.lexicon.count in
    let mapped = length-map texts text in
    omega (arith, low, mapped, ap length names, ap (λ (r : RuleSet). length r.names) same, count)

module _ (searched : SearchedLexicon) (is : IsSearchedLexicon searched) (trie : Trie) (same : trie ≡ searched.tries.trie)
    (phase root : ℕ) (low : phase < length searched.lexicon.phases) (root_is : root ≡ slice_index trie.roots phase) (letters : List ℕ) where
  -- the root stands for the forms of the phase
  root_after : IsNodeAfter trie.rows (forms_of searched.lexicon phase) [] root
  root_after =
      subst (λ (r : ℕ). IsNodeAfter trie.rows (forms_of searched.lexicon phase) [] r) (sym root_is)
      (subst (λ (t : Trie). IsNodeAfter t.rows (forms_of searched.lexicon phase) [] (slice_index t.roots phase)) (sym same) (is.forms.each phase low))

  phase_is : IsPhase (forms_of searched.lexicon phase)
  phase_is = is.lexicon.phases phase [] low

  -- a form that leads nowhere has no analyses
  pub none_found : None ≡ walk trie.rows root letters → analyses_among (forms_of searched.lexicon phase) letters ≡ []
  none_found walked = not_found trie.rows (forms_of searched.lexicon phase) letters root root_after (sym walked)

  module _ (node : ℕ) (walked : Some node ≡ walk trie.rows root letters) (deltas : List Delta) (deltas_are : deltas ≡ (row_of trie.rows node).deltas) where
    are_deltas : AreDeltasOf (forms_of searched.lexicon phase) letters deltas
    are_deltas =
        subst (AreDeltasOf (forms_of searched.lexicon phase) letters) (sym deltas_are)
        (deltas_at_node trie.rows (forms_of searched.lexicon phase) letters root node root_after (sym walked))

    -- the deltas cut no more than the form has
    pub found_within : All (λ (delta : Delta). delta.cut ≤ length letters) deltas
    found_within = cut_within (forms_of searched.lexicon phase) letters deltas are_deltas

    -- they give the form's analyses
    pub all_found : with_elements compare_analyses [] (map (analysis_by letters) deltas) ≡ analyses_among (forms_of searched.lexicon phase) letters
    all_found = found_analyses (forms_of searched.lexicon phase) letters deltas phase_is are_deltas
