-- One form of a walk is written, and what is left are the forms after it; and the deltas of a form of a store that is the trie of its own
-- phases cut no more letters than the form has, since they are those of its analyses.
use Rattle.std.proofs.Common.{◌≡◌, ℕ, ◌<◌, ◌≤◌, List, [], ◌∷◌, ◌++◌, length, map, drop, get_or, sym, ◌∙◌, ap, subst, arith}
use Rattle.std.specs.Prelude.{All, Contains}
use Rattle.std.proofs.lemmas.List.{get_or-map, length-map}
use Rattle.std.proofs.lemmas.List.Elements.{All-get_or, All-head, All-tail}
use Rattle.std.proofs.lemmas.Grind.{flat_map-append}
use Rattle.list_laws.proofs.Elements.{append_regrouped}
use Rattle.list_laws.proofs.Sorted.{All-from_Contains}
use Rattle.lexicon_definitions.specs.Deltas.{Delta}
use Rattle.lexicon_definitions.specs.Lexicons.{Form}
use Rattle.lexicon_definitions.specs.Tries.{Trie, IsNodeAfter, IsTrieOf}
use Rattle.lexicon_text_definitions.specs.LexiconTexts.{text_of_lines, form_line, phase_forms_lines}
use Rattle.trie_text_definitions.specs.NodeValues.{Suffix, suffixes_of}
use Rattle.trie_text_definitions.specs.TrieForms.{analyses_by, form_of_suffix, forms_of_root, phases_of}
use Rattle.trie_text_definitions.proofs.SuffixLaws.{suffix_by}

-- no delta of the suffix cuts more letters than it has
abbrev pub IsCutWithin : Suffix → Type 0
IsCutWithin suffix = All (λ (delta : Delta). delta.cut ≤ length suffix.word) suffix.deltas

-- what is left to write of a walk, and its deltas
pub record AreLeft (name old all : List ℕ) (walk : List Suffix) : Type 0 where
  pub text : old ++ text_of_lines (phase_forms_lines name (map form_of_suffix walk)) ≡ all
  pub within : All IsCutWithin walk

module _ (trie : Trie) (is : IsTrieOf trie (phases_of trie)) (phase root : ℕ) (below : phase < length trie.roots) (here : root ≡ get_or trie.roots phase 0) where
  phase_is : get_or (phases_of trie) phase [] ≡ forms_of_root trie.rows root
  phase_is = get_or-map (forms_of_root trie.rows) trie.roots phase 0 [] below ∙ ap (forms_of_root trie.rows) (sym here)

  low : root < length trie.rows
  low = subst (λ (n : ℕ). n < length trie.rows) (sym here) (All-get_or (λ (n : ℕ). n < length trie.rows) trie.roots phase 0 below is.is_trie.roots)

  node : IsNodeAfter trie.rows (get_or (phases_of trie) phase []) [] root
  node =
      let long = length-map trie.roots (forms_of_root trie.rows) in
      subst (IsNodeAfter trie.rows (get_or (phases_of trie) phase []) []) (sym here) (is.each phase (omega (arith, below, long)))

  cut_within : (suffix : Suffix) → Contains (suffixes_of trie.rows root) suffix → IsCutWithin suffix
  cut_within suffix m =
      let found = suffix_by trie.rows is.is_trie.rows root low suffix m in
      All-from_Contains (λ (delta : Delta). delta.cut ≤ length suffix.word) suffix.deltas (λ delta among.
      ((node.deltas suffix.word found.reached found.walked delta).0 (subst (λ (ds : List Delta). Contains ds delta) found.is_deltas among)).is_delta.within)

  -- at the first form of a root all is left
  pub all_left : (name old : List ℕ) (walk : List Suffix) → walk ≡ suffixes_of trie.rows root
      → AreLeft name old (old ++ text_of_lines (phase_forms_lines name (get_or (phases_of trie) phase []))) walk
  all_left name old walk e = record {
    text = ap (λ (suffixes : List Suffix). old ++ text_of_lines (phase_forms_lines name (map form_of_suffix suffixes))) e
        ∙ ap (λ (forms : List Form). old ++ text_of_lines (phase_forms_lines name forms)) (sym phase_is);
    within = All-from_Contains IsCutWithin walk (λ suffix m. cut_within suffix (subst (λ (suffixes : List Suffix). Contains suffixes suffix) e m));
  }

-- the lines of a form and of those after it
one_form : (name : List ℕ) (form : Form) (forms : List Form) (old : List ℕ)
    → old ++ text_of_lines (phase_forms_lines name (form ∷ forms))
    ≡ (old ++ text_of_lines (map (form_line name form.letters) form.analyses)) ++ text_of_lines (phase_forms_lines name forms)
one_form name form forms old =
    ap (λ text. old ++ text) (flat_map-append _ (map (form_line name form.letters) form.analyses) (phase_forms_lines name forms))
    ∙ append_regrouped old (text_of_lines (map (form_line name form.letters) form.analyses)) (text_of_lines (phase_forms_lines name forms))

-- a form's deltas cut no more letters than it has
pub first_within : (name old all : List ℕ) (walk left : List Suffix) (suffix : Suffix) → walk ≡ suffix ∷ left → AreLeft name old all walk → IsCutWithin suffix
first_within name old all walk left suffix e are = All-head IsCutWithin suffix left (subst (All IsCutWithin) e are.within)

-- a form more is written
pub form_pushed : (name old new all : List ℕ) (walk next left : List Suffix) (suffix : Suffix) → walk ≡ suffix ∷ left → next ≡ drop 1 walk
    → new ≡ old ++ text_of_lines (map (form_line name suffix.word) (analyses_by suffix.word suffix.deltas))
    → AreLeft name old all walk → AreLeft name new all next
form_pushed name old new all walk next left suffix e f wrote are =
    let left_is : next ≡ left = f ∙ ap (drop 1) e in
    record {
      text =
          ap (λ (suffixes : List Suffix). new ++ text_of_lines (phase_forms_lines name (map form_of_suffix suffixes))) left_is
          ∙ ap (λ (text : List ℕ). text ++ text_of_lines (phase_forms_lines name (map form_of_suffix left))) wrote
          ∙ sym (one_form name (form_of_suffix suffix) (map form_of_suffix left) old)
          ∙ ap (λ (suffixes : List Suffix). old ++ text_of_lines (phase_forms_lines name (map form_of_suffix suffixes))) (sym e)
          ∙ are.text;
      within = subst (All IsCutWithin) (sym left_is) (All-tail IsCutWithin suffix left (subst (All IsCutWithin) e are.within));
    }
