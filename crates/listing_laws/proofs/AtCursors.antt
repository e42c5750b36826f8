-- A list above a path either makes a later branch than one of the branches at its front, or has that front too: by induction
-- on the frames. Where the front is the whole path the latter is that path, and for a skip it is left out.
use Rattle.std.proofs.Common.{◌≡◌, ◌≢◌, ◌⊎◌, ◌↔◌, inl, inr, List, [], ◌∷◌, ◌++◌, refl, sym, ap, subst}
use Rattle.std.specs.Cmp.Lexicographic.{slice_cmp}
use Rattle.std.specs.declared.cmp.Ordering.{Ordering}
use Rattle.std.specs.declared.cmp.Ordering.TheVariants.{Less, Equal, Greater}
use Rattle.std.proofs.lemmas.Cmp.{lists_total, tied_itself}
use Rattle.list_laws.specs.Firsts.{AreAll}
use Rattle.list_laws.proofs.FirstOnes.{none_at_all, one_in_all, all_with, all_of_both}
use Rattle.listing_laws.specs.Ways.{Ways, AreOrderly, IsBranch, IsPath}
use Rattle.listing_laws.specs.Cursors.{Cursor, BeforeFirst, AtPath, PastLast, IsAbove, IsFirst, IsListingAbove}
use Rattle.listing_laws.specs.Stacks.{Frame, taken_in, LeadTo, From, After, Nothing, IsToCome, StandsFor}
use Rattle.listing_laws.proofs.Paths.{path_from_next, path_from_end, path_from_top, first_of_path, same_path}
use Rattle.listing_laws.proofs.ToCome.{above_taken}
use Rattle.list_laws.proofs.Orderings.{less_then_cases}

-- a path that is not above another is that one or comes before it
first_or_later : {Configuration Branch : Type 0} {ways : Ways Configuration Branch} → AreOrderly ways → (start : Configuration) (path other : List Branch)
    → IsPath ways start path → IsPath ways start other → slice_cmp ways.compare path other ≢ Greater
    → (path ≡ other) ⊎ (slice_cmp ways.compare path other ≡ Less)
first_or_later {ways = ways} orderly start path other is is_other not_greater = cases (slice_cmp ways.compare path other) refl
  where
    cases : (order : Ordering) → slice_cmp ways.compare path other ≡ order → (path ≡ other) ⊎ (slice_cmp ways.compare path other ≡ Less)
    cases Less e = inr e
    cases Equal e = inl (same_path orderly start path other is is_other e)
    cases Greater e = absurd (not_greater e)

-- what comes after a path above a cursor is above it
above_is_upward : {Configuration Branch : Type 0} {ways : Ways Configuration Branch} → AreOrderly ways → (cursor : Cursor Branch)
    (path other : List Branch) → IsAbove ways.compare cursor path → slice_cmp ways.compare path other ≡ Less
    → IsAbove ways.compare cursor other
above_is_upward orderly BeforeFirst path other above less = tt
above_is_upward orderly (AtPath here) path other above less = (lists_total orderly.total).trans here path other above less
above_is_upward orderly PastLast path other above less = above

module _ {Configuration Branch : Type 0} {ways : Ways Configuration Branch} (orderly : AreOrderly ways) where
  -- a path that comes after one through these frames with this last branch makes a later branch, or goes on so too, and
  -- then what is after that comes after what is after it there
  pub above_cases : (start : Configuration) (frames : List (Frame Configuration Branch)) (top : Configuration) (last : Branch) (more path : List Branch)
      → LeadTo ways start frames top → IsBranch ways top last → IsPath ways start path
      → slice_cmp ways.compare (taken_in frames ++ last ∷ more) path ≡ Less
      → IsToCome ways.compare (taken_in frames) (After ways.compare last) path
      ⊎ ((rest : List Branch) × (path ≡ taken_in frames ++ last ∷ rest) × (slice_cmp ways.compare more rest ≡ Less))
  above_cases start frames top last more [] leads branch is less = absurd is
  above_cases start [] top last more (c ∷ path) same branch is less =
      elim (less_then_cases (ways.compare last c) (slice_cmp ways.compare more path) less) [
        | inl before ↦ inl before
        | inr (tied, later) ↦
            let here : last ≡ c = orderly.same top last c branch (subst (λ at. IsBranch ways at c) same (first_of_path orderly start c path is)) tied in
            inr (path, ap (λ d. d ∷ path) (sym here), later)
      ]
  above_cases start (frame ∷ frames) top last more (c ∷ path) (same, next, leads, leads') branch is less =
      elim (less_then_cases (ways.compare frame.taken c) (slice_cmp ways.compare (taken_in frames ++ last ∷ more) path) less) [
        | inl before ↦ inl (inl before)
        | inr (tied, later) ↦
            let from_start = subst (λ at. ways.leads at frame.taken next) same leads in
            let here : frame.taken ≡ c = orderly.same start frame.taken c (inr (next, from_start)) (first_of_path orderly start c path is) tied in
            let onward = (path_from_next orderly start c next path (subst (λ d. ways.leads start d next) here from_start)).0 is in
            elim (above_cases next frames top last more path leads' branch onward later) [
              | inl before ↦ inl (inr (here, before))
              | inr (rest, e, above) ↦ inr (rest, cc, above)
            ]
      ]

  -- a stack whose next branch ends, after that branch: it stands for the paths above the path that ends there
  pub stands_at_path : (start : Configuration) (frames : List (Frame Configuration Branch)) (top : Configuration) (last : Branch)
      → LeadTo ways start frames top → ways.ends top last
      → StandsFor ways start (IsAbove ways.compare (AtPath (taken_in frames ++ last ∷ []))) frames top (After ways.compare last)
  stands_at_path start frames top last leads ends = record {
    leads = leads;
    to_come = λ path is. (
      λ come. above_taken ways.compare (tied_itself orderly.total) (taken_in frames) last [] path come,
      λ less. elim (above_cases start frames top last [] path leads (inl ends) is less) [
        | inl before ↦ before
        | inr (rest, e, above) ↦
            let nothing_more = (path_from_end orderly top last rest ends).0
            ((path_from_top orderly start frames top (last ∷ rest) leads).0 (subst (IsPath ways start) e is)) in
            absurd (cc)
      ],
    );
  }

  -- where the first branch left ends, the stack after it stands for the paths above the path that ends there
  pub stands_at_found : {start : Configuration} {IsWanted : List Branch → Type 0} {frames : List (Frame Configuration Branch)} {top : Configuration}
      (branch : Branch) → ways.ends top branch → StandsFor ways start IsWanted frames top (From ways.compare branch)
      → StandsFor ways start (IsAbove ways.compare (AtPath (taken_in frames ++ branch ∷ []))) frames top (After ways.compare branch)
  stands_at_found {start = start} {frames = frames} {top = top} branch ends stands =
      stands_at_path start frames top branch stands.leads ends

  -- the first path above a cursor and the listing above that path are together the listing above the cursor
  pub listing_goes_on : (start : Configuration) (cursor : Cursor Branch) (path : List Branch) (rest : List (List Branch))
      → IsFirst ways start (IsAbove ways.compare cursor) path → IsListingAbove ways start (AtPath path) rest
      → IsListingAbove ways start cursor (path ∷ rest)
  listing_goes_on start cursor path rest first later =
      let above : (other : List Branch) → IsPath ways start other → IsAbove ways.compare cursor other
      → (path ≡ other) ⊎ (slice_cmp ways.compare path other ≡ Less) =
      λ other is wanted. first_or_later orderly start path other first.path is (first.least other is wanted) in
      all_with (slice_cmp ways.compare)
      (λ other. (path ≡ other) ⊎ (IsPath ways start other × IsAbove ways.compare (AtPath path) other))
      (λ other. IsPath ways start other × IsAbove ways.compare cursor other) (path ∷ rest)
      (λ other h. elim h [
        | inl same ↦ subst (λ p. IsPath ways start p × IsAbove ways.compare cursor p) same (first.path, first.wanted)
        | inr (is, less) ↦ (is, above_is_upward orderly cursor path other first.wanted less)
      ])
      (λ other (is, wanted). elim (above other is wanted) [ inl same ↦ inl same | inr less ↦ inr (is, less) ])
      (all_of_both (slice_cmp ways.compare) (λ other. path ≡ other) (λ other. IsPath ways start other × IsAbove ways.compare (AtPath path) other)
      (path ∷ []) rest (one_in_all (slice_cmp ways.compare) (λ other. path ≡ other) path refl (λ other same. sym same)) later
      (λ x y same (is, less). subst (λ p. slice_cmp ways.compare p y ≡ Less) same less))

-- a stack with nothing left stands for what is past the last path
pub stands_past_last : {Configuration Branch : Type 0} (ways : Ways Configuration Branch) (start : Configuration)
    → StandsFor ways start (IsAbove ways.compare PastLast) [] start Nothing
stands_past_last ways start = record { leads = refl; to_come = nothing_to_come }
  where
    nothing_to_come : (path : List _) → IsPath ways start path → IsToCome ways.compare [] Nothing path ↔ ⊥
    nothing_to_come [] is = absurd is
    nothing_to_come (c ∷ path) is = (λ come. come, λ wanted. wanted)

-- where no path is above a cursor, the listing there is empty
pub listing_ends : {Configuration Branch : Type 0} (ways : Ways Configuration Branch) (start : Configuration) (cursor : Cursor Branch)
    → ((path : List Branch) → IsPath ways start path → IsAbove ways.compare cursor path → ⊥)
    → IsListingAbove ways start cursor []
listing_ends ways start cursor none =
    none_at_all (slice_cmp ways.compare) (λ path. IsPath ways start path × IsAbove ways.compare cursor path) (λ path (is, above). none path is above)

-- what is to come on a stack, listed, is the listing above the cursor for which it stands
pub listing_of_stack : {Configuration Branch : Type 0} {ways : Ways Configuration Branch} {start : Configuration}
    {frames : List (Frame Configuration Branch)} {top : Configuration} {IsLeft : Branch → Type 0} (cursor : Cursor Branch) (paths : List (List Branch))
    → StandsFor ways start (IsAbove ways.compare cursor) frames top IsLeft
    → AreAll (slice_cmp ways.compare) (λ path. IsPath ways start path × IsToCome ways.compare (taken_in frames) IsLeft path) paths
    → IsListingAbove ways start cursor paths
listing_of_stack {ways = ways} {start = start} {frames = frames} {IsLeft = IsLeft} cursor paths stands all =
    all_with (slice_cmp ways.compare) (λ path. IsPath ways start path × IsToCome ways.compare (taken_in frames) IsLeft path)
    (λ path. IsPath ways start path × IsAbove ways.compare cursor path) paths
    (λ path (is, come). (is, (stands.to_come path is).0 come)) (λ path (is, above). (is, (stands.to_come path is).1 above)) all
