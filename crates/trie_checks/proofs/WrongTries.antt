-- A trie has no wrong delta where for each suffix of a root, which is a form, each delta is right.
use Rattle.std.proofs.Common.{◌≡◌, ◌≢◌, ℕ, ◌<◌, ◌^◌, inl, inr, Bool, true, false, Result, Ok, Err, List, [], length, refl, sym, ◌∙◌, subst, arith}
use Rattle.std.specs.Prelude.{Contains, All, IsTrue, IfOk, ◌↔◌}
use Rattle.std.specs.List.{list_all}
use Rattle.std.proofs.lemmas.Bool.{not_from_true, not-false, true_from_ne_false, cases_Bool}
use Rattle.std.proofs.lemmas.List.Elements.{All-contains}
use Rattle.std.proofs.lemmas.List.Sums.{list_all-from_AllPass}
use Rattle.list_laws.proofs.Sorted.{not_Contains-nil, All-from_Contains}
use Rattle.lexicon_definitions.specs.Deltas.{Delta}
use Rattle.lexicon_definitions.specs.Tries.{Row, Trie, IsTrie, HasSuffix, row_of}
use Rattle.trie_text_definitions.specs.NodeValues.{Suffix, suffixes_of}
use Rattle.trie_text_definitions.specs.TrieForms.{is_right_delta, has_right_deltas, has_wrong_delta}
use Rattle.trie_text_definitions.proofs.RootForms.{passes_all}
use Rattle.trie_text_definitions.proofs.SuffixLaws.{suffix_by, suffix_there}
use Rattle.trie_checks.specs.Bounds.{HasOne}
use Rattle.trie_checks.specs.NodeDepths.{AreDepths, MayBegin, HasLettersAfter, HasShortStemsAfter}
use Rattle.trie_checks.specs.PutBack.{IsPutBack}
use Rattle.trie_checks.proofs.RightDeltas.{IsRight, right_passes, right_from}

-- all deltas below a root are right
pub record IsRightRoot (rows : List Row) (root : ℕ) : Type 0 where
  pub letters : HasLettersAfter rows root 0
  pub short : HasShortStemsAfter rows root 0
  pub none_back : IsPutBack rows root → ⊥

module _ (trie : Trie) (is : IsTrie trie) where
  abbrev rows : List Row
  rows = trie.rows

  abbrev all_right : ℕ → Bool
  all_right root = list_all has_right_deltas (suffixes_of rows root)

  right_by : (root : ℕ) → IsRightRoot rows root → (word : List ℕ) (delta : Delta) → HasSuffix rows root word delta → is_right_delta word delta ≡ true
  right_by root right word delta has =
      let needs = right.letters word delta has in
      let ends = right.short word delta has in
      right_passes word delta (record {
        letters = omega (arith, needs);
        short = omega (arith, ends);
        none_back = λ puts. right.none_back (record { word = word; delta = delta; has = has; puts_back = puts });
      })

  low_root : (root : ℕ) → Contains trie.roots root → root < length rows
  low_root root m = All-contains (λ (r : ℕ). r < length rows) trie.roots root is.roots m

  -- where all roots are right, no delta is wrong
  pub none_wrong : ((root : ℕ) → Contains trie.roots root → IsRightRoot rows root) → has_wrong_delta trie ≡ false
  none_wrong right =
      not_from_true (list_all all_right trie.roots)
      (list_all-from_AllPass all_right trie.roots (All-from_Contains (λ root. all_right root ≡ true) trie.roots (λ root m.
      list_all-from_AllPass has_right_deltas (suffixes_of rows root) (All-from_Contains (λ (s : Suffix). has_right_deltas s ≡ true) (suffixes_of rows root) (λ suffix n.
      let found = suffix_by rows is.rows root (low_root root m) suffix n in
      list_all-from_AllPass (is_right_delta suffix.word) suffix.deltas (All-from_Contains (λ (d : Delta). is_right_delta suffix.word d ≡ true) suffix.deltas (λ delta k.
      right_by root (right root m) suffix.word delta (record {
        reached = found.reached;
        walked = found.walked;
        has_delta = subst (λ (ds : List Delta). Contains ds delta) found.is_deltas k;
      }))))))))

  -- and the other way
  pub right_root : has_wrong_delta trie ≡ false → (root : ℕ) → Contains trie.roots root → IsRightRoot rows root
  right_root none root m =
      let passes = passes_all all_right trie.roots root (not-false (list_all all_right trie.roots) none) m in
      let each : (word : List ℕ) (delta : Delta) → HasSuffix rows root word delta → IsRight word delta =
      λ word delta has.
      let deltas = (row_of rows has.reached).deltas in
      let some : deltas ≢ [] = λ e. not_Contains-nil delta (subst (λ (ds : List Delta). Contains ds delta) e has.has_delta) in
      let there = suffix_there rows is.rows word root has.reached deltas (low_root root m) has.walked refl some in
      right_from word delta (passes_all (is_right_delta word) deltas delta (passes_all has_right_deltas (suffixes_of rows root) (record { word = word; deltas = deltas }) passes there) has.has_delta)
      in
      record {
        letters = λ word delta has. let needs = (each word delta has).letters in omega (arith, needs);
        short = λ word delta has. let ends = (each word delta has).short in omega (arith, ends);
        none_back = λ back. (each back.word back.delta back.has).none_back back.puts_back;
      }

  -- where some root is not right, a delta is wrong
  pub one_wrong : (root : ℕ) → Contains trie.roots root → (IsRightRoot rows root → ⊥) → has_wrong_delta trie ≡ true
  one_wrong root m wrong = true_from_ne_false (has_wrong_delta trie) (λ none. wrong (right_root none root m))

  -- whether a letter is put back decides, where all else is right
  pub told_by_back : (found : Bool) → ((root : ℕ) → Contains trie.roots root → HasLettersAfter rows root 0 × HasShortStemsAfter rows root 0)
      → IsTrue found ↔ HasOne (IsPutBack rows) trie.roots → found ≡ has_wrong_delta trie
  told_by_back found right told =
      elim (cases_Bool found) [
        | inl holds ↦ let h = told.0 holds in holds ∙ sym (one_wrong h.0 h.1 (λ right_one. right_one.none_back h.2))
        | inr lacks ↦
            lacks ∙ sym (none_wrong (λ root m. let lengths = right root m in record {
              letters = lengths.0;
              short = lengths.1;
              none_back = λ back. let holds = told.1 (root, m, back) in absurd (cc);
            }))
      ]

  pub told_by_answer : {E : Type 0} (answer : Result Bool E) → ((root : ℕ) → Contains trie.roots root → HasLettersAfter rows root 0 × HasShortStemsAfter rows root 0)
      → IfOk answer (λ found. IsTrue found ↔ HasOne (IsPutBack rows) trie.roots) → IfOk answer (λ wrong. wrong ≡ has_wrong_delta trie)
  told_by_answer (Ok found) right told = told_by_back found right told
  told_by_answer (Err e) right told = tt

  module _ (few : length rows < 2 ^ 32) (least ends : List ℕ) (known : AreDepths rows (length rows) least ends) where
    -- where the roots may stand after no letters, the lengths are right
    pub lengths_right : All (MayBegin least ends) trie.roots → (root : ℕ) → Contains trie.roots root → HasLettersAfter rows root 0 × HasShortStemsAfter rows root 0
    lengths_right begin root m =
        let low = low_root root m in
        let is_depth = known.each root low in
        let (none, some) = All-contains (MayBegin least ends) trie.roots root begin m in
        ((is_depth.from_least 0).0 (omega (arith, none)), (is_depth.below_end 0 (omega (arith, low, few))).0 some)

    -- where one may not, a delta is wrong
    pub wrong_by_lengths : (All (MayBegin least ends) trie.roots → ⊥) → has_wrong_delta trie ≡ true
    wrong_by_lengths not_all =
        true_from_ne_false (has_wrong_delta trie) (λ none. not_all (All-from_Contains (MayBegin least ends) trie.roots (λ root m.
        let low = low_root root m in
        let is_depth = known.each root low in
        let right = right_root none root m in
        let first = (is_depth.from_least 0).1 right.letters in
        (omega (arith, first), (is_depth.below_end 0 (omega (arith, low, few))).1 right.short))))
