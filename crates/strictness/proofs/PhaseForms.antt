-- What is below the root of a phase are the overlaps of the phase: its forms are the words that lead from the root to where a form ends.
use Rattle.std.proofs.Common.{◌≡◌, ℕ, ◌<◌, Result, Ok, Err, List, [], length, get_or, map, refl, sym, ap, subst, ◌∙◌}
use Rattle.std.specs.Result.{OnOk}
use Rattle.std.specs.List.{Contains}
use Rattle.std.proofs.lemmas.List.Elements.{All-contains, Contains-get_or}
use Rattle.list_laws.proofs.FirstOnes.{Contains-map, Contains-map_cases}
use Rattle.lexicon_definitions.specs.Lexicons.{Lexicon, RuleSet, Form, IsForm}
use Rattle.lexicon_definitions.specs.Tries.{Trie, IsTrie}
use Rattle.lexicon_definitions.proofs.FirstPlaces.{mapped_at}
use Rattle.trie_text_definitions.specs.NodeValues.{suffixes_of}
use Rattle.trie_text_definitions.specs.TrieForms.{form_of_suffix, forms_of_root, phases_of}
use Rattle.trie_text_definitions.proofs.SuffixLaws.{suffix_by, suffix_there}
use Rattle.phoneme.specs.declared.memory.Memory.{Memory}
use Rattle.strictness.specs.Walks.{LeadsToForm, IsBelow}
use Rattle.strictness.specs.Appending.{AppendsFirst}
use Rattle.strictness.specs.declared.found.Found.{Found}
use Rattle.strictness.proofs.AppendedFirsts.{appends_with}
use Rattle.strictness.proofs.FormOverlaps.{IsOfPhase, overlap_from, in_form_from}

module _ (rules : RuleSet) (trie : Trie) (is : IsTrie trie) (phase root : ℕ) (within : phase < length trie.roots) (here : root ≡ get_or trie.roots phase root) where
  abbrev lexicon : Lexicon
  lexicon = record { rules = rules; phases = phases_of trie }

  forms_are : get_or (phases_of trie) phase [] ≡ forms_of_root trie.rows root
  forms_are = mapped_at (forms_of_root trie.rows) trie.roots phase root [] within here

  low : root < length trie.rows
  low = All-contains (λ n. n < length trie.rows) trie.roots root is.roots (subst (Contains trie.roots) (sym here) (Contains-get_or trie.roots phase root within))

  form_leads : (word : List ℕ) → IsForm lexicon phase word → LeadsToForm trie.rows root word
  form_leads word m =
      let inside = subst (λ (forms : List Form). Contains (map (λ (form : Form). form.letters) forms) word) forms_are m in
      let (form, among, same) = Contains-map_cases (λ (form : Form). form.letters) (forms_of_root trie.rows root) word inside in
      let (suffix, there, made) = Contains-map_cases form_of_suffix (suffixes_of trie.rows root) form among in
      let found = suffix_by trie.rows is.rows root low suffix there in
      let word_is : suffix.word ≡ word = ap (λ (f : Form). f.letters) made ∙ same in
      subst (LeadsToForm trie.rows root) word_is (record { reached = found.reached; walked = found.walked; ends = λ none. found.some (found.is_deltas ∙ none) })

  leads_form : (word : List ℕ) → LeadsToForm trie.rows root word → IsForm lexicon phase word
  leads_form word l =
      let there = suffix_there trie.rows is.rows word root l.reached _ low l.walked refl l.ends in
      let form = Contains-map form_of_suffix (suffixes_of trie.rows root) _ there in
      subst (λ (forms : List Form). Contains (map (λ (form : Form). form.letters) forms) word) (sym forms_are)
      (Contains-map (λ (form : Form). form.letters) (forms_of_root trie.rows root) _ form)

  pub of_phase : (old new : Found) → AppendsFirst (IsBelow rules trie.rows phase [] root) old new
      → AppendsFirst (IsOfPhase lexicon phase) old new
  of_phase old new appends =
      appends_with (IsBelow rules trie.rows phase [] root) (IsOfPhase lexicon phase) old new
      (λ x h. (overlap_from lexicon phase x.form x (leads_form x.form (subst (LeadsToForm trie.rows root) (sym h.form_is) h.leads)) h.in_form, h.in_form.phase_is))
      (λ x h. record {
        rest = x.form;
        form_is = refl;
        leads = form_leads x.form (subst (λ n. IsForm lexicon n x.form) h.1 h.0.of_phase);
        in_form = in_form_from lexicon x phase x.form h.1 refl h.0;
      })
      appends

  pub phase_appended : (old new : Found) (result : Result (Unit {0}) Memory) → OnOk result (AppendsFirst (IsBelow rules trie.rows phase [] root) old new)
      → OnOk result (AppendsFirst (IsOfPhase lexicon phase) old new)
  phase_appended old new (Ok done) appends = of_phase old new appends
  phase_appended old new (Err error) appends = tt
