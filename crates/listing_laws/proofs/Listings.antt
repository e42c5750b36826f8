-- The paths that begin with one edge are listed by those from where it leads; edges rise, so the lists of one edge after
-- another are together a rising list; and by induction on the depth all paths are listed.
use Rattle.std.proofs.Common.{◌≡◌, ◌⊎◌, ℕ, zero, suc, ◌+◌, ◌<◌, ◌≤◌, false, inl, inr, List, [], ◌∷◌, ◌++◌, Option, Some, None, refl, sym, ap, subst, arith}
use Rattle.std.specs.List.{Contains, flat_map}
use Rattle.std.specs.List.Sorted.{IsStrictlySortedBy}
use Rattle.std.specs.Option.{MatchOption, option_map}
use Rattle.std.specs.Ordering.{on, ordering_then}
use Rattle.std.specs.Cmp.Lexicographic.{slice_cmp}
use Rattle.std.specs.declared.cmp.Ordering.TheVariants.{Less}
use Rattle.std.proofs.lemmas.Cmp.{tied_itself, on_total}
use Rattle.std.proofs.lemmas.Map.Keys.{sorted_tail}
use Rattle.list_laws.specs.Firsts.{AreAll}
use Rattle.list_laws.proofs.Sorted.{Contains-first, Contains-later, Contains-cons_cases, not_Contains-nil, Less-from_later}
use Rattle.list_laws.proofs.FirstOnes.{none_at_all, one_in_all, all_with, all_of_both, first_images, first_from_all, all_from_first}
use Rattle.listing_laws.specs.Ways.{Ways, AreOrderly, AreRanked, IsPath}
use Rattle.listing_laws.specs.Listings.{Edge, IsEdge, AreEdges, paths_with, listing}
use Rattle.listing_laws.proofs.Paths.{path_from_next, path_from_end}

module _ {Configuration Branch : Type 0} (ways : Ways Configuration Branch) where
  -- the rest is what is after a branch that leads there
  abbrev IsRest : Option Configuration → List Branch → Type 0
  IsRest next rest = MatchOption next (rest ≡ []) (λ at. IsPath ways at rest)

  -- the path begins with the edge
  abbrev BeginsWith : Edge Configuration Branch → List Branch → Type 0
  BeginsWith edge [] = ⊥
  BeginsWith edge (branch ∷ rest) = (edge.branch ≡ branch) × IsRest edge.next rest

  -- the path begins with one of the edges
  abbrev BeginsWithOne : List (Edge Configuration Branch) → List Branch → Type 0
  BeginsWithOne edges path = (edge : Edge Configuration Branch) × Contains edges edge × BeginsWith edge path

  -- a path begins with a edge
  turn_of_path : (at : Configuration) (path : List Branch) → IsPath ways at path
      → (edge : Edge Configuration Branch) × IsEdge ways at edge × BeginsWith edge path
  turn_of_path at [] none = absurd none
  turn_of_path at (branch ∷ []) ends = (record { branch = branch; next = None }, ends, (refl, refl))
  turn_of_path at (branch ∷ later ∷ path) (next, leads, is) = (record { branch = branch; next = Some next }, leads, (refl, is))

  -- what begins with a edge of the configuration is a path from it
  path_of_turn : AreOrderly ways → (at : Configuration) (branch : Branch) (next : Option Configuration) (rest : List Branch)
      → IsEdge ways at (record { branch = branch; next = next }) → IsRest next rest → IsPath ways at (branch ∷ rest)
  path_of_turn orderly at branch None rest ends e = (path_from_end orderly at branch rest ends).1 e
  path_of_turn orderly at branch (Some next) rest leads is = (path_from_next orderly at branch next rest leads).1 is

  path_with_turn : AreOrderly ways → (at : Configuration) (edge : Edge Configuration Branch) (path : List Branch)
      → IsEdge ways at edge → BeginsWith edge path → IsPath ways at path
  path_with_turn orderly at edge [] is none = none
  path_with_turn orderly at edge (branch ∷ rest) is (same, h) =
      subst (λ c. IsPath ways at (c ∷ rest)) same (path_of_turn orderly at edge.branch edge.next rest is h)

  -- the smaller edge's paths come first
  edges_apart : (left right : Edge Configuration Branch) → ways.compare left.branch right.branch ≡ Less → (x y : List Branch)
      → BeginsWith left x → BeginsWith right y → slice_cmp ways.compare x y ≡ Less
  edges_apart left right less [] y p q = absurd p
  edges_apart left right less (c ∷ x) [] p q = absurd q
  edges_apart left right less (c ∷ x) (d ∷ y) (same, p) (same', q) =
      let here : ways.compare c d ≡ Less = subst (λ e. ways.compare e d ≡ Less) same (subst (λ e. ways.compare left.branch e ≡ Less) same' less) in
      ap (λ order. ordering_then order (slice_cmp ways.compare x y)) here

  -- where the paths are listed from where a edge leads, those that begin with it are listed
  list_of_turn : AreOrderly ways → (list : Configuration → List (List Branch)) (branch : Branch) (next : Option Configuration)
      → ((at : Configuration) → next ≡ Some at → AreAll (slice_cmp ways.compare) (IsPath ways at) (list at))
      → AreAll (slice_cmp ways.compare) (BeginsWith (record { branch = branch; next = next })) (paths_with branch (option_map list next))
  list_of_turn orderly list branch None all = one_in_all (slice_cmp ways.compare) _ (branch ∷ []) (refl, refl) only
    where
      only : (path : List Branch) → BeginsWith (record { branch = branch; next = None }) path → path ≡ branch ∷ []
      only [] none = absurd none
      only (c ∷ rest) (same, e) = cc
  list_of_turn orderly list branch (Some at) all =
      all_from_first (slice_cmp ways.compare) _ _
      (first_images (slice_cmp ways.compare) (slice_cmp ways.compare) (λ path. branch ∷ path) (IsPath ways at)
      (λ x y p q less. rw (tied_itself orderly.total branch) less)
      (BeginsWith (record { branch = branch; next = Some at })) (list at) false
      (λ path is. (refl, is)) image (first_from_all (slice_cmp ways.compare) (IsPath ways at) (list at) (all at refl)))
    where
      image : (path : List Branch) → BeginsWith (record { branch = branch; next = Some at }) path
          → (rest : List Branch) × IsPath ways at rest × (branch ∷ rest ≡ path)
      image [] none = absurd none
      image (c ∷ rest) (same, is) = (rest, is, ap (λ d. d ∷ rest) same)

  -- one edge after another
  list_of_turns : AreOrderly ways → (list : Edge Configuration Branch → List (List Branch)) (edges : List (Edge Configuration Branch))
      → IsStrictlySortedBy (on (λ edge. edge.branch) ways.compare) edges
      → ((edge : Edge Configuration Branch) → Contains edges edge → AreAll (slice_cmp ways.compare) (BeginsWith edge) (list edge))
      → AreAll (slice_cmp ways.compare) (BeginsWithOne edges) (flat_map list edges)
  list_of_turns orderly list [] rising all =
      none_at_all (slice_cmp ways.compare) (BeginsWithOne []) (λ path (edge, m, begins). not_Contains-nil edge m)
  list_of_turns orderly list (first ∷ edges) rising all =
      let total = on_total (λ (edge : Edge Configuration Branch). edge.branch) orderly.total in
      let later = list_of_turns orderly list edges (sorted_tail (on (λ edge. edge.branch) ways.compare) first edges rising)
      (λ edge m. all edge (Contains-later first edges edge m)) in
      all_with (slice_cmp ways.compare) (λ path. BeginsWith first path ⊎ BeginsWithOne edges path) (BeginsWithOne (first ∷ edges))
      (list first ++ flat_map list edges)
      (λ path h. elim h [
        | inl begins ↦ (first, Contains-first first edges, begins)
        | inr (edge, m, begins) ↦ (edge, Contains-later first edges edge m, begins)
      ])
      (λ path (edge, m, begins). elim (Contains-cons_cases first edges edge m) [
        | inl same ↦ inl (subst (λ t. BeginsWith t path) (sym same) begins)
        | inr n ↦ inr (edge, n, begins)
      ])
      (all_of_both (slice_cmp ways.compare) (BeginsWith first) (BeginsWithOne edges) (list first) (flat_map list edges)
      (all first (Contains-first first edges)) later
      (λ x y p (edge, m, q). edges_apart first edge (Less-from_later total first edges edge rising m) x y p q))

-- the depth-first listing is the strictly rising list that has every path and nothing else, where it is deep enough
pub listing_has_all : {Configuration Branch : Type 0} {ways : Ways Configuration Branch} {rank : Configuration → ℕ} {bound : ℕ}
    {edges : Configuration → List (Edge Configuration Branch)} → AreOrderly ways → AreRanked ways rank bound → AreEdges ways edges
    → (deep : ℕ) (at : Configuration) → rank at ≤ bound → bound < deep + rank at
    → AreAll (slice_cmp ways.compare) (IsPath ways at) (listing edges deep at)
listing_has_all orderly ranked written zero at within enough = absurd (omega arith)
listing_has_all {ways = ways} {rank = rank} {edges = edges} orderly ranked written (suc deep) at within enough =
    let list = λ (edge : Edge _ _). paths_with edge.branch (option_map (listing edges deep) edge.next) in
    all_with (slice_cmp ways.compare) (BeginsWithOne ways (edges at)) (IsPath ways at) (listing edges (suc deep) at)
    (λ path (edge, m, begins). path_with_turn ways orderly at edge path ((written.members at edge).0 m) begins)
    (λ path is.
    let h = turn_of_path ways at path is in
    (h.0, (written.members at h.0).1 h.1, h.2))
    (list_of_turns ways orderly list (edges at) (written.rising at)
    (λ edge m. list_of_turn ways orderly (listing edges deep) edge.branch edge.next
    (λ next e.
    let leads : ways.leads at edge.branch next = subst (λ n. MatchOption n (ways.ends at edge.branch) (λ next. ways.leads at edge.branch next)) e
    ((written.members at edge).0 m) in
    let above = ranked.rises at edge.branch next leads in
    listing_has_all orderly ranked written deep next (ranked.within at edge.branch next leads) (omega arith))))
