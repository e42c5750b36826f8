-- Paths are taken apart at their first branch: where it leads on, what is after it is a path from there, and where it ends,
-- nothing is after it. All else is by induction on the branches taken.
use Rattle.std.proofs.Common.{◌≡◌, ◌↔◌, inl, inr, List, [], ◌∷◌, ◌++◌, refl, sym, subst}
use Rattle.std.specs.Cmp.Lexicographic.{slice_cmp}
use Rattle.std.specs.declared.cmp.Ordering.TheVariants.{Equal}
use Rattle.std.proofs.lemmas.List.{map-append}
use Rattle.listing_laws.specs.Ways.{Ways, AreOrderly, IsBranch, IsPath}
use Rattle.listing_laws.specs.Stacks.{Frame, taken_in, LeadTo}
use Rattle.list_laws.proofs.Orderings.{equal_then_both}

module _ {Configuration Branch : Type 0} {ways : Ways Configuration Branch} (orderly : AreOrderly ways) where
  -- a path begins with a branch of its configuration
  pub first_of_path : (at : Configuration) (branch : Branch) (path : List Branch) → IsPath ways at (branch ∷ path) → IsBranch ways at branch
  first_of_path at branch [] ends = inl ends
  first_of_path at branch (later ∷ path) (next, leads, is) = inr (next, leads)

  -- after a branch that leads on, a path goes on from where it leads
  pub path_from_next : (at : Configuration) (branch : Branch) (next : Configuration) (path : List Branch)
      → ways.leads at branch next → IsPath ways at (branch ∷ path) ↔ IsPath ways next path
  path_from_next at branch next [] leads = (λ ends. absurd (orderly.not_both at branch next ends leads), λ none. absurd none)
  path_from_next at branch next (later ∷ path) leads = (
    λ (other, leads', is). subst (λ place. IsPath ways place (later ∷ path)) (orderly.one_way at branch other next leads' leads) is,
    λ is. (next, leads, is),
  )

  -- after a branch that ends, a path has no branch
  pub path_from_end : (at : Configuration) (branch : Branch) (path : List Branch) → ways.ends at branch
      → IsPath ways at (branch ∷ path) ↔ (path ≡ [])
  path_from_end at branch [] ends = (λ is. refl, λ e. ends)
  path_from_end at branch (later ∷ path) ends = (
    λ (next, leads, is). absurd (orderly.not_both at branch next ends leads),
    λ e. absurd (cc),
  )

  -- from the top of a stack exactly the rests of paths are paths
  pub path_from_top : (start : Configuration) (frames : List (Frame Configuration Branch)) (top : Configuration) (rest : List Branch)
      → LeadTo ways start frames top → IsPath ways start (taken_in frames ++ rest) ↔ IsPath ways top rest
  path_from_top start [] top rest same = (
    λ is. subst (λ place. IsPath ways place rest) same is,
    λ is. subst (λ place. IsPath ways place rest) (sym same) is,
  )
  path_from_top start (frame ∷ frames) top rest (same, next, leads, later) =
      let leads' = subst (λ place. ways.leads place frame.taken next) same leads in
      let here = path_from_next start frame.taken next (taken_in frames ++ rest) leads' in
      let there = path_from_top next frames top rest later in
      (λ is. there.0 (here.0 is), λ is. here.1 (there.1 is))

  -- a path is no proper front of another
  pub no_front : (at : Configuration) (path more : List Branch) → IsPath ways at path → IsPath ways at (path ++ more) → more ≡ []
  no_front at [] more is longer = absurd is
  no_front at (branch ∷ []) more is longer = (path_from_end at branch more is).0 longer
  no_front at (branch ∷ later ∷ path) more (next, leads, is) longer =
      no_front next (later ∷ path) more is ((path_from_next at branch next (later ∷ path ++ more) leads).0 longer)

  -- paths that compare as equal are the same
  pub same_path : (at : Configuration) (left right : List Branch) → IsPath ways at left → IsPath ways at right
      → slice_cmp ways.compare left right ≡ Equal → left ≡ right
  same_path at [] right p q e = absurd p
  same_path at (x ∷ left) [] p q e = absurd q
  same_path at (x ∷ []) (y ∷ right) p q e =
      let both = equal_then_both (ways.compare x y) (slice_cmp ways.compare [] right) e in
      let here : x ≡ y = orderly.same at x y (inl p) (first_of_path at y right q) both.0 in
      let rest : right ≡ [] = (path_from_end at y right (subst (ways.ends at) here p)).0 q in
      cc
  same_path at (x ∷ z ∷ left) (y ∷ right) (next, leads, p) q e =
      let both = equal_then_both (ways.compare x y) (slice_cmp ways.compare (z ∷ left) right) e in
      let here : x ≡ y = orderly.same at x y (inr (next, leads)) (first_of_path at y right q) both.0 in
      let q' = (path_from_next at y next right (subst (λ branch. ways.leads at branch next) here leads)).0 q in
      let rest : z ∷ left ≡ right = same_path next (z ∷ left) right p q' both.1 in
      cc

  -- a branch that leads on from the top makes a frame
  pub frame_pushed : (start : Configuration) (frames : List (Frame Configuration Branch)) (top : Configuration) (branch : Branch) (next : Configuration)
      → LeadTo ways start frames top → ways.leads top branch next
      → LeadTo ways start (frames ++ record { at = top; taken = branch } ∷ []) next
  frame_pushed start [] top branch next same leads = (sym same, next, leads, refl)
  frame_pushed start (frame ∷ frames) top branch next (same, place, taken, later) leads =
      (same, place, taken, frame_pushed place frames top branch next later leads)

  -- where the last frame is taken off, its configuration is the top
  pub frame_popped : (start : Configuration) (frames : List (Frame Configuration Branch)) (frame : Frame Configuration Branch) (top : Configuration)
      → LeadTo ways start (frames ++ frame ∷ []) top → LeadTo ways start frames frame.at × ways.leads frame.at frame.taken top
  frame_popped start [] frame top (same, next, leads, here) = (sym same, subst (ways.leads frame.at frame.taken) here leads)
  frame_popped start (first ∷ frames) frame top (same, next, leads, later) =
      let rest = frame_popped next frames frame top later in
      ((same, next, leads, rest.0), rest.1)

-- one more branch is taken
pub taken_pushed : {Configuration Branch : Type 0} (frames : List (Frame Configuration Branch)) (frame : Frame Configuration Branch)
    → taken_in (frames ++ frame ∷ []) ≡ taken_in frames ++ frame.taken ∷ []
taken_pushed frames frame = map-append (λ frame. frame.taken) frames (frame ∷ [])
