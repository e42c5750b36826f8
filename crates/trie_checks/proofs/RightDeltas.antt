-- A delta is right for a form where the form has the letters that it needs, the stem is not too long, and no letter is put back. For the
-- smaller cut that leaves one letter more gives the same stem where this letter is the first one that is appended, and any other smaller cut
-- leaves this letter too: by induction on the form.
use Rattle.std.proofs.Common.{◌≡◌, ℕ, zero, suc, ◌+◌, ◌-◌, ◌<◌, ◌≤◌, inl, inr, true, leb, List, [], ◌∷◌, ◌++◌, length, take, drop, sym, ◌∙◌, ap, arith}
use Rattle.std.specs.Prelude.{Contains}
use Rattle.std.specs.List.{list_any, range_with_len}
use Rattle.std.proofs.lemmas.Bool.{and_from, and_parts, not_from_false, false_from_ne_true, leb-true, le-leb, cases_lt}
use Rattle.std.proofs.lemmas.List.{length-append, length-take}
use Rattle.std.proofs.lemmas.List.Folds.{Any-from_list_any}
use Rattle.list_laws.proofs.Sorted.{Contains-cons_cases, not_Contains-nil}
use Rattle.lexicon_definitions.specs.declared.limits.TheConstants.{MOST_FORM_LETTERS}
use Rattle.lexicon_definitions.specs.Deltas.{Delta, replace_end, analysis_by}
use Rattle.trie_text_definitions.specs.TrieForms.{is_stem_length, is_right_delta, may_cut}
use Rattle.trie_text_definitions.proofs.RootNodes.{right_is_delta}
use Rattle.trie_text_definitions.proofs.TrieLexicons.{stem_parts}
use Rattle.trie_checks.specs.NodeDepths.{letters_needed, letters_end}
use Rattle.trie_checks.specs.PutBack.{PutsBack}

abbrev stem_of : List ℕ → Delta → List ℕ
stem_of form delta = replace_end form delta.cut delta.append

-- what is asked of a delta
pub record IsRight (form : List ℕ) (delta : Delta) : Type 0 where
  pub letters : letters_needed delta ≤ length form
  pub short : length form < letters_end delta
  pub none_back : PutsBack form delta → ⊥

-- ---- lengths

length-stem : (form : List ℕ) (delta : Delta) → delta.cut ≤ length form → length (stem_of form delta) ≡ length form - delta.cut + length delta.append
length-stem form delta within =
    let long = length-append (take (length form - delta.cut) form) delta.append in
    let short = length-take (length form - delta.cut) form in
    omega (arith, long, short, within)

stem_is_lawful : (form : List ℕ) (delta : Delta) → letters_needed delta ≤ length form → length form < letters_end delta → is_stem_length (stem_of form delta) ≡ true
stem_is_lawful form delta enough short =
    let within : delta.cut ≤ length form = omega (arith, enough) in
    let long = length-stem form delta within in
    and_from _ _ (le-leb 1 (length (stem_of form delta)) (omega (arith, long, enough))) (le-leb (length (stem_of form delta)) MOST_FORM_LETTERS (omega (arith, long, short, within)))

lengths_of_stem : (form : List ℕ) (delta : Delta) → delta.cut ≤ length form → is_stem_length (stem_of form delta) ≡ true
    → (letters_needed delta ≤ length form) × (length form < letters_end delta)
lengths_of_stem form delta within lawful =
    let tests = and_parts (leb 1 (length (stem_of form delta))) (leb (length (stem_of form delta)) MOST_FORM_LETTERS) lawful in
    let least = leb-true 1 (length (stem_of form delta)) tests.0 in
    let most = leb-true (length (stem_of form delta)) MOST_FORM_LETTERS tests.1 in
    let long = length-stem form delta within in
    (omega (arith, long, least, within), omega (arith, long, most, within))

-- ---- smaller cuts

-- a smaller cut gives the same stem
record HasSmallerCut (form : List ℕ) (delta : Delta) : Type 0 where
  smaller : ℕ
  less : smaller < delta.cut
  rest : List ℕ
  same : take (length form - smaller) form ++ rest ≡ stem_of form delta

-- one letter more in front of what is kept
longer_stem : (letter : ℕ) (word append : List ℕ) (cut : ℕ) → cut ≤ length word
    → take (length (letter ∷ word) - cut) (letter ∷ word) ++ append ≡ letter ∷ take (length word - cut) word ++ append
longer_stem letter word append cut within =
    let more : length (letter ∷ word) - cut ≡ suc (length word - cut) = omega (arith, within) in
    ap (λ n. take n (letter ∷ word) ++ append) more

-- nothing is kept
no_stem : (form append : List ℕ) (cut : ℕ) → length form ≤ cut → take (length form - cut) form ++ append ≡ append
no_stem form append cut all =
    let none : length form - cut ≡ zero = omega (arith, all) in
    ap (λ n. take n form ++ append) none

smaller_from_back : (form : List ℕ) (delta : Delta) → PutsBack form delta → (delta.cut ≤ length form) × HasSmallerCut form delta
smaller_from_back [] delta puts = absurd puts
smaller_from_back (letter ∷ word) delta puts =
    elim puts [
      | inl here ↦
          let cut = here.cut in
          let kept = longer_stem letter word here.rest (length word) (omega arith) in
          let nothing = no_stem word here.rest (length word) (omega arith) in (
            omega (arith, cut),
            record {
              smaller = length word;
              less = omega (arith, cut);
              rest = here.rest;
              same = kept ∙ ap (◌∷◌ letter) nothing ∙ sym here.begins ∙ sym (no_stem (letter ∷ word) delta.append delta.cut (omega (arith, cut)));
            },
          )
      | inr later ↦
          let (within, found) = smaller_from_back word delta later in
          let less = found.less in (
            omega (arith, within),
            record {
              smaller = found.smaller;
              less = less;
              rest = found.rest;
              same = longer_stem letter word found.rest found.smaller (omega (arith, less, within)) ∙ ap (◌∷◌ letter) found.same ∙ sym (longer_stem letter word delta.append delta.cut within);
            },
          )
    ]

back_from_smaller : (form : List ℕ) (delta : Delta) → delta.cut ≤ length form → (smaller : ℕ) → smaller < delta.cut → (rest : List ℕ)
    → take (length form - smaller) form ++ rest ≡ stem_of form delta → PutsBack form delta
back_from_smaller [] delta within smaller less rest same = absurd (omega (arith, within, less))
back_from_smaller (letter ∷ word) delta within smaller less rest same =
    elim (cases_lt (length word) delta.cut) [
      | inl whole ↦
          let kept = longer_stem letter word rest smaller (omega (arith, within, less)) in
          let nothing = no_stem (letter ∷ word) delta.append delta.cut (omega (arith, whole)) in
          inl (record { cut = omega (arith, whole, within); rest = take (length word - smaller) word ++ rest; begins = sym nothing ∙ sym same ∙ kept })
      | inr more ↦
          let kept = longer_stem letter word rest smaller (omega (arith, more, less)) in
          let stem = longer_stem letter word delta.append delta.cut more in
          let both : letter ∷ take (length word - smaller) word ++ rest ≡ letter ∷ stem_of word delta = sym kept ∙ same ∙ stem in
          let inside : take (length word - smaller) word ++ rest ≡ stem_of word delta = cc in
          inr (back_from_smaller word delta more smaller less rest inside)
    ]

-- ---- right deltas

pub range_below : (from count k : ℕ) → Contains (range_with_len from count) k → k < from + count
range_below from zero k m = absurd (not_Contains-nil k m)
range_below from (suc count) k m =
    elim (Contains-cons_cases from (range_with_len (from + 1) count) k m) [
      | inl same ↦ omega (arith, same)
      | inr later ↦ let below = range_below (from + 1) count k later in omega (arith, below)
    ]

pub right_passes : (form : List ℕ) (delta : Delta) → IsRight form delta → is_right_delta form delta ≡ true
right_passes form delta is =
    let stem = stem_of form delta in
    let enough = is.letters in
    let within : delta.cut ≤ length form = omega (arith, enough) in
    let none = false_from_ne_true (list_any (may_cut form stem) (range_with_len 0 delta.cut)) (λ some.
    let (k, smaller, below, at, may) = Any-from_list_any (may_cut form stem) (range_with_len 0 delta.cut) some in
    let less = range_below 0 delta.cut smaller (k, below, at) in
    let front = take (length form - smaller) form in
    is.none_back (back_from_smaller form delta within smaller (omega (arith, less)) (drop (length front) stem) (stem_parts stem front may)))
    in
    and_from _ _ (and_from _ _ (le-leb delta.cut (length form) within) (stem_is_lawful form delta enough is.short)) (not_from_false (list_any (may_cut form stem) (range_with_len 0 delta.cut)) none)

pub right_from : (form : List ℕ) (delta : Delta) → is_right_delta form delta ≡ true → IsRight form delta
right_from form delta passes =
    let is = right_is_delta form delta passes in
    let first = (and_parts _ _ passes).0 in
    let lawful = (and_parts (leb delta.cut (length form)) (is_stem_length (stem_of form delta)) first).1 in
    let lengths = lengths_of_stem form delta is.within lawful in
    record {
      letters = lengths.0;
      short = lengths.1;
      none_back = λ puts.
          let (within, found) = smaller_from_back form delta puts in
          let less = found.less in
          let other : Delta = record { cut = found.smaller; append = found.rest; tag = delta.tag } in
          let gives : analysis_by form other ≡ analysis_by form delta = λ i. record { stem = found.same i; tag = delta.tag } in
          let most = is.least other (omega (arith, less, within)) gives in
          absurd (omega (arith, most, less));
    }
