-- Deltas that are read by their numbers, and the list of some of them, sorted.
use Rattle.std.proofs.Common.{◌≡◌, ◌≢◌, inl, inr, ℕ, ◌-◌, ◌<◌, ◌≤◌, ◌↔◌, List, [], ◌++◌, length, map, take, drop, get_or, sym, ◌∙◌, ap, subst, arith}
use Rattle.std.specs.Prelude.{All, AllPairs, Contains, IsPermutation, IsSortedByKey, slice_range}
use Rattle.std.proofs.lemmas.List.{get_or-map, get_or-take, get_or_append_left, length-append, length-drop, length-take-le, take-append-drop, take_all}
use Rattle.std.proofs.lemmas.Bool.{cases_lt}
use Rattle.form_tags.specs.declared.delta.Delta.{Delta}
use Rattle.form_tags.specs.Analyses.{text_delta}
use Rattle.lexicon_definitions.specs.Analyses.{Analysis}
use Rattle.lexicon_definitions.specs.Deltas.{Delta as TextDelta, IsDelta, compare_deltas}
use Rattle.shared_trie.specs.DeltaNumbers.{IsListFor, delta_of}
use Rattle.shared_trie.specs.PackedDeltas.{delta_in}
use Rattle.shared_trie.specs.declared.delta_numbers.DeltaParts.{DeltaParts}
use Rattle.shared_trie.proofs.DeltaLists.{Contains-moved, texts_rise}

-- the delta that is read at a number
pub delta_read : (letters : List ℕ) (deltas : List DeltaParts) (shown : List TextDelta) (number : ℕ) (parts : DeltaParts) → map (delta_in letters) deltas ≡ shown
    → parts ≡ get_or deltas number parts → number < length deltas → delta_of shown number ≡ delta_in letters parts
delta_read letters deltas shown number parts view read low =
    ap (λ (ds : List TextDelta). delta_of ds number) (sym view) ∙ get_or-map (delta_in letters) deltas number parts (record { cut = 0; append = []; tag = [] }) low
    ∙ ap (delta_in letters) (sym read)

-- different deltas that are sorted are the list of their numbers
pub sorted_list : (shown : List TextDelta) (numbers : List ℕ) (old new : List Delta) → map text_delta old ≡ map (delta_of shown) numbers
    → All (λ number. number < length shown) numbers → AllPairs (λ a b. a ≢ b) (map (delta_of shown) numbers)
    → IsPermutation old new → IsSortedByKey text_delta compare_deltas new → IsListFor shown numbers (map text_delta new)
sorted_list shown numbers old new same within apart moved sorted =
    record {
      within = within;
      rising = texts_rise old new moved (subst (AllPairs (λ a b. a ≢ b)) (sym same) apart) sorted;
      among = λ delta.
          subst (λ (ds : List TextDelta). Contains (map text_delta new) delta ↔ Contains ds delta) same (Contains-moved old new delta moved);
    }

-- the delta that keeps just what the form and the stem share is that of the analysis
pub least_delta : (form stem tag : List ℕ) (shared : ℕ) → shared ≤ length form → shared ≤ length stem → take shared form ≡ take shared stem
    → (shared < length form → shared < length stem → get_or form shared 0 ≢ get_or stem shared 0)
    → IsDelta form (record { stem = stem; tag = tag }) (record { cut = length form - shared; append = slice_range stem shared (length stem); tag = tag })
least_delta form stem tag shared in_form in_stem same differ =
    let kept : length form - (length form - shared) ≡ shared = omega (arith, in_form) in
    let left = length-drop shared stem in
    let rest : slice_range stem shared (length stem) ≡ drop shared stem = take_all (length stem - shared) (drop shared stem) (omega (arith, left)) in
    let whole : take (length form - (length form - shared)) form ++ slice_range stem shared (length stem) ≡ stem =
    (λ i. take (kept i) form ++ rest i) ∙ ap (λ (ls : List ℕ). ls ++ drop shared stem) same ∙ take-append-drop shared stem in
    record {
      within = omega arith;
      gives = λ i. record { stem = whole i; tag = tag };
      least = λ other within e.
          elim (cases_lt shared (length form - other.cut)) [
            | inl more ↦
                let k = length form - other.cut in
                let front = take k form in
                let long : length front ≡ k = length-take-le k form (omega arith) in
                let there : take k form ++ other.append ≡ stem = ap (λ (a : Analysis). a.stem) e in
                let longer = length-append front other.append in
                let size = ap length there in
                absurd (differ (omega (arith, more)) (omega (arith, more, long, longer, size))
                (sym (get_or-take k form shared 0 more) ∙ sym (get_or_append_left front other.append 0 shared (omega (arith, more, long)))
                ∙ ap (λ (ls : List ℕ). get_or ls shared 0) there))
            | inr less ↦ omega (arith, less, within)
          ];
    }
