-- Two lists place by place: put after others, with one element changed, at one place. So for what was listed of parts: at first there is
-- nothing, then one part more is listed, and what others listed is put beside it.
use Rattle.std.proofs.Common.{◌≡◌, ℕ, zero, suc, ◌+◌, ◌<◌, List, Option, Some, None, [], ◌∷◌, ◌++◌, length, get_or, slice_set, take, sym, ap, ◌∙◌, subst, refl, arith, add-one}
use Rattle.std.specs.List.{AllZip}
use Rattle.std.specs.Option.{option_or}
use Rattle.std.proofs.Math.Seq.{take-suc}
use Rattle.std.proofs.lemmas.Option.{same_Some}
use Rattle.text_definitions.specs.Lines.{Line}
use Rattle.segmentation_definitions.specs.Items.{Choice}
use Rattle.annotated_trie.specs.Searched.{SearchedLexicon}
use Rattle.search_split.specs.declared.start.Start.{Start}
use Rattle.search_split.specs.declared.listing.Listed.{Listed}
use Rattle.search_split.specs.Starts.{front_from}
use Rattle.search_split.specs.Listing.{IsListed, IsFoundFor, AreFound}

module _ {A B : Type 0} (R : A → B → Type 0) where
  zip_together : (front back : List A) (earlier later : List B) → AllZip R front earlier → AllZip R back later → AllZip R (front ++ back) (earlier ++ later)
  zip_together [] back [] later holds rest = rest
  zip_together [] back (y ∷ earlier) later holds rest = absurd holds
  zip_together (x ∷ front) back [] later holds rest = absurd holds
  zip_together (x ∷ front) back (y ∷ earlier) later holds rest = (holds.0, zip_together front back earlier later holds.1 rest)

  zip_set : (xs : List A) (ys : List B) (place : ℕ) (x : A) (y : B) → AllZip R xs ys → place < length xs → R (get_or xs place x) y → AllZip R xs (slice_set ys place y)
  zip_set [] ys place x y holds low here = absurd (omega (arith, low))
  zip_set (first ∷ xs) [] place x y holds low here = absurd holds
  zip_set (first ∷ xs) (old ∷ ys) zero x y holds low here = (here, holds.1)
  zip_set (first ∷ xs) (old ∷ ys) (suc place) x y holds low here = (holds.0, zip_set xs ys place x y holds.1 (omega (arith, low)) here)

  zip_at : (xs : List A) (ys : List B) (place : ℕ) (x : A) (y : B) → AllZip R xs ys → place < length xs → R (get_or xs place x) (get_or ys place y)
  zip_at [] ys place x y holds low = absurd (omega (arith, low))
  zip_at (first ∷ xs) [] place x y holds low = absurd holds
  zip_at (first ∷ xs) (old ∷ ys) zero x y holds low = holds.0
  zip_at (first ∷ xs) (old ∷ ys) (suc place) x y holds low = zip_at xs ys place x y holds.1 (omega (arith, low))

  pub zip_length : (xs : List A) (ys : List B) → AllZip R xs ys → length ys ≡ length xs
  zip_length [] [] holds = refl
  zip_length [] (y ∷ ys) holds = absurd holds
  zip_length (x ∷ xs) [] holds = absurd holds
  zip_length (x ∷ xs) (y ∷ ys) holds = ap suc (zip_length xs ys holds.1)

module _ (searched : SearchedLexicon) (line : Line) (choices : List Choice) (depth : ℕ) (starts : List Start) where
  abbrev Is : Start → Option Listed → Type 0
  Is = IsFoundFor searched line choices depth

  abbrev Are : List (Option Listed) → Type 0
  Are = AreFound searched line choices depth starts

  -- a part, where there is one
  some_start : (xs : List Start) (place : ℕ) → place < length xs → Start
  some_start [] place low = absurd (omega (arith, low))
  some_start (x ∷ xs) place low = x

  pub found_count : (found : List (Option Listed)) → Are found → length found ≡ length starts
  found_count found are = zip_length Is starts found are

  -- one place more, where nothing is listed
  pub none_more : (place : ℕ) (start : Start) (before : List (Option Listed)) → place < length starts → start ≡ get_or starts place start
      → AreFound searched line choices depth (take place starts) before
      → AreFound searched line choices depth (take (place + 1) starts) (before ++ None ∷ [])
  none_more place start before within same found =
      let shorter = take-suc starts place start within in
      let front = ap (λ (last : Start). take place starts ++ last ∷ []) same ∙ sym shorter ∙ ap (λ (n : ℕ). take n starts) (sym (add-one place)) in
      subst (λ whole. AreFound searched line choices depth whole (before ++ None ∷ [])) front
      (zip_together Is (take place starts) (start ∷ []) before (None ∷ []) found ((λ listed none. absurd (cc (none))), tt))

  -- a part is listed
  pub one_listed : (found : List (Option Listed)) (place : ℕ) (start : Start) (listed : Listed) → Are found → place < length starts
      → IsListed searched line choices depth (front_from depth (get_or starts place start)) listed → Are (slice_set found place (Some listed))
  one_listed found place start listed are low is =
      zip_set Is starts found place start (Some listed) are low
      (λ other same. subst (IsListed searched line choices depth (front_from depth (get_or starts place start))) (same_Some listed other same) is)

  -- nothing is left at a place
  pub taken_out : (found : List (Option Listed)) (place : ℕ) → Are found → place < length starts → Are (slice_set found place None)
  taken_out found place are low = zip_set Is starts found place (some_start starts place low) None are low (λ listed none. absurd (cc (none)))

  either : (start : Start) (own other : Option Listed) → Is start own → Is start other → Is start (option_or own other)
  either start None other own_is other_is = other_is
  either start (Some listed) other own_is other_is = own_is

  -- what was listed at a place in one of two lists, where it was taken out
  pub either_found : (found others : List (Option Listed)) (place : ℕ) → Are found → Are others → place < length starts
      → Are (slice_set (slice_set found place None) place (option_or (get_or found place None) (get_or others place None)))
  either_found found others place are other low =
      let start = some_start starts place low in
      zip_set Is starts (slice_set found place None) place start (option_or (get_or found place None) (get_or others place None))
      (taken_out found place are low) low
      (either (get_or starts place start) (get_or found place None) (get_or others place None)
      (zip_at Is starts found place start None are low) (zip_at Is starts others place start None other low))

  -- what was listed at a place is right
  pub found_at : (found : List (Option Listed)) (place : ℕ) (start : Start) → Are found → place < length starts
      → Is (get_or starts place start) (get_or found place None)
  found_at found place start are low = zip_at Is starts found place start None are low
