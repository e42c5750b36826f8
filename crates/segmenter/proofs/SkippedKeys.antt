-- What comes after the first keys of a path, as many as a depth, is what comes after the path and has other first keys: by
-- recursion on the keys, since no path begins with another.
use Rattle.std.proofs.Common.{◌≡◌, ◌≢◌, ℕ, zero, suc, ◌≤◌, inl, inr, List, [], ◌∷◌, length, take, min, refl, sym, ap, ◌∙◌, subst, arith}
use Rattle.std.specs.declared.cmp.Ordering.TheVariants.{Less}
use Rattle.std.specs.Cmp.Lexicographic.{slice_cmp}
use Rattle.std.proofs.lemmas.Cmp.{tied_itself}
use Rattle.text_definitions.specs.Lines.{Line}
use Rattle.segmentation_definitions.specs.Items.{Choice}
use Rattle.segmentation_definitions.specs.Listings.{Key, compare_keys}
use Rattle.segmentation_definitions.proofs.KeyLists.{compare_keys_total, compare_keys_exact, same_cons}
use Rattle.listing_laws.specs.Ways.{IsPath}
use Rattle.annotated_trie.specs.Searched.{SearchedLexicon}
use Rattle.search_frames.specs.Configurations.{NumberedConfiguration, after, ways_in}
use Rattle.segmenter.specs.Chains.{ComesAfter}
use Rattle.segmenter.proofs.StandingAnswers.{less_if_after}
use Rattle.search_frames.proofs.ConfigurationRanks.{not_both}
use Rattle.segmenter.proofs.PathsFound.{first_of_path}
use Rattle.list_laws.proofs.Orderings.{less_then_cases}

-- ---- what comes after the first keys

-- it comes after all of them
later_than_first : (n : ℕ) (here keys : List Key) → ComesAfter (take n here) keys → ComesAfter here keys
later_than_first zero here keys later = absurd later
later_than_first (suc n) [] keys later = later
later_than_first (suc n) (first ∷ here) [] later = later
later_than_first (suc n) (first ∷ here) (key ∷ keys) (inl less) = inl less
later_than_first (suc n) (first ∷ here) (key ∷ keys) (inr (same, later)) = inr (same, later_than_first n here keys later)

pub greater_than_first : (n : ℕ) (here keys : List Key) → ComesAfter (take n here) keys → slice_cmp compare_keys here keys ≡ Less
greater_than_first n here keys later = less_if_after here keys (later_than_first n here keys later)

-- and has others
pub others_than_first : (n depth : ℕ) (here keys : List Key) → n ≤ depth → ComesAfter (take n here) keys → take depth keys ≢ take depth here
others_than_first zero depth here keys le later same = later
others_than_first (suc n) depth [] keys le later same = later
others_than_first (suc n) depth (first ∷ here) [] le later same = later
others_than_first (suc n) zero (first ∷ here) (key ∷ keys) le later same = omega (arith, le)
others_than_first (suc n) (suc depth) (first ∷ here) (key ∷ keys) le (inl less) same =
    let equal = tied_itself compare_keys_total first in
    let key_is : key ≡ first = (same_cons key first (take depth keys) (take depth here) same).0 in
    let less_itself = subst (λ key. compare_keys first key ≡ Less) key_is less in
    absurd (cc (equal, less_itself))
others_than_first (suc n) (suc depth) (first ∷ here) (key ∷ keys) le (inr (key_is, later)) same =
    others_than_first n depth here keys (omega (arith, le)) later (same_cons key first (take depth keys) (take depth here) same).1

-- ---- what comes after a path and has other first keys

module _ (searched : SearchedLexicon) (line : Line) (choices : List Choice) where
  pub after_first_keys : (depth n : ℕ) (here keys : List Key) (at : NumberedConfiguration) → n ≡ min depth (length here)
      → IsPath (ways_in searched line choices) at here → IsPath (ways_in searched line choices) at keys
      → slice_cmp compare_keys here keys ≡ Less → take depth keys ≢ take depth here → ComesAfter (take n here) keys
  after_first_keys zero n here keys at count path other less others = absurd (others refl)
  after_first_keys (suc depth) n [] keys at count path other less others = absurd path
  after_first_keys (suc depth) n (first ∷ here) [] at count path other less others = absurd other
  after_first_keys (suc depth) zero (first ∷ here) (key ∷ keys) at count path other less others = absurd (omega (arith, count))
  after_first_keys (suc depth) (suc n) (first ∷ here) (key ∷ keys) at count path other less others =
      elim (less_then_cases (compare_keys first key) (slice_cmp compare_keys here keys) less) [
        | inl before ↦ inl before
        | inr (equal, rest) ↦
            let same : first ≡ key = compare_keys_exact first key equal in
            let other_first : IsPath (ways_in searched line choices) at (first ∷ keys) =
            subst (λ key. IsPath (ways_in searched line choices) at (key ∷ keys)) (sym same) other in
            inr (
              same,
              elim (first_of_path searched line choices at first here path) [
                | inl ends ↦ elim (first_of_path searched line choices at first keys other_first) [
                  | inl alone ↦ absurd (not_less here keys ends.1 alone.1 rest)
                  | inr goes ↦ absurd (not_both searched line choices at first ends.0 goes.leads)
                ]
                | inr leads ↦ elim (first_of_path searched line choices at first keys other_first) [
                  | inl alone ↦ absurd (not_both searched line choices at first alone.0 leads.leads)
                  | inr goes ↦ after_first_keys depth n here keys (after searched line at first) (omega (arith, count)) leads.path goes.path rest
                      (λ taken. others (ap (λ keys. key ∷ keys) taken ∙ ap (λ key. key ∷ take depth here) (sym same)))
                ]
              ],
            )
      ]
    where
      not_less : (here keys : List Key) → here ≡ [] → keys ≡ [] → slice_cmp compare_keys here keys ≡ Less → ⊥
      not_less [] [] none nothing less = cc
      not_less [] (key ∷ keys) none nothing less = absurd (cc)
      not_less (first ∷ here) keys none nothing less = absurd (cc)
