-- The first branches of a path are those of the frames that are kept and the one taken at the last of them. A path with these
-- first branches makes no later one there; and a path that comes after and makes no later one there has them.
use Rattle.std.proofs.Common.{◌≡◌, ◌≢◌, ℕ, suc, min, inl, inr, List, [], ◌∷◌, ◌++◌, length, take, refl, sym, ap, subst, ◌∙◌, arith}
use Rattle.std.specs.Cmp.Lexicographic.{slice_cmp}
use Rattle.std.specs.declared.cmp.Ordering.{Ordering}
use Rattle.std.specs.declared.cmp.Ordering.TheVariants.{Less, Equal}
use Rattle.std.proofs.lemmas.Bool.{cases_lt}
use Rattle.std.proofs.lemmas.Cmp.{tied_itself}
use Rattle.std.proofs.lemmas.List.{append_assoc, length-map, length-append, take_at, take-take, nil_from_length}
use Rattle.listing_laws.specs.Ways.{Ways, AreOrderly, IsBranch, IsPath}
use Rattle.listing_laws.specs.Cursors.{IsPast}
use Rattle.listing_laws.specs.Stacks.{Frame, taken_in, LeadTo, After, IsToCome, StandsFor}
use Rattle.listing_laws.proofs.Paths.{no_front}
use Rattle.listing_laws.proofs.ToCome.{above_taken}
use Rattle.listing_laws.proofs.AtCursors.{above_cases}

-- the first branches, up to one
first_branches : {Branch : Type 0} (taken : List Branch) (last : Branch) (rest : List Branch) (count : ℕ) → count ≡ suc (length taken)
    → take count (taken ++ last ∷ rest) ≡ taken ++ last ∷ []
first_branches taken last rest count e =
    ap (take count) (sym (append_assoc taken (last ∷ []) rest))
    ∙ take_at (taken ++ last ∷ []) rest count (omega (arith, length-append taken (last ∷ [])))

-- what makes a later branch than one of these does not have them
not_first_branches : {Branch : Type 0} (compare : Branch → Branch → Ordering) → ((branch : Branch) → compare branch branch ≡ Equal)
    → (taken : List Branch) (last : Branch) (path : List Branch) → IsToCome compare taken (After compare last) path
    → take (suc (length taken)) path ≡ taken ++ last ∷ [] → ⊥
not_first_branches compare tied [] last [] none e = none
not_first_branches compare tied [] last (branch ∷ path) less e =
    let here : branch ≡ last = cc in
    let equal = tied last in
    cc
not_first_branches compare tied (first ∷ taken) last [] none e = none
not_first_branches compare tied (first ∷ taken) last (branch ∷ path) (inl less) e =
    let here : branch ≡ first = cc in
    let equal = tied first in
    cc
not_first_branches compare tied (first ∷ taken) last (branch ∷ path) (inr (same, later)) e =
    not_first_branches compare tied taken last path later (cc)

module _ {Configuration Branch : Type 0} {ways : Ways Configuration Branch} (orderly : AreOrderly ways) where
  -- a path that comes after one and has its first branches, as many as depth or all, makes no later branch at these
  same_first_branches : (start : Configuration) (path taken : List Branch) (last : Branch) (rest rest' : List Branch) (depth : ℕ)
      → IsPath ways start (taken ++ last ∷ rest) → IsPath ways start path → suc (length taken) ≡ min depth (length (taken ++ last ∷ rest))
      → path ≡ taken ++ last ∷ rest' → slice_cmp ways.compare rest rest' ≡ Less
      → take depth path ≢ take depth (taken ++ last ∷ rest) → ⊥
  same_first_branches start path taken last rest rest' depth is other count e above differ =
      elim (cases_lt (length (taken ++ last ∷ rest)) depth) [
        | inl short ↦
            let long = length-append taken (last ∷ rest) in
            let ended : rest ≡ [] = nil_from_length rest (omega arith) in
            let longer : path ≡ (taken ++ last ∷ rest) ++ rest' = e ∙ sym (append_assoc taken (last ∷ []) rest')
            ∙ ap (λ ts. (taken ++ last ∷ ts) ++ rest') (sym ended) in
            let nothing_more : rest' ≡ [] = no_front orderly start (taken ++ last ∷ rest) rest' is (subst (IsPath ways start) longer other) in
            let equal : slice_cmp ways.compare rest rest' ≡ Equal = rw (ended, nothing_more) in
            cc
        | inr enough ↦
            let whole : depth ≡ suc (length taken) = omega arith in
            differ (ap (take depth) e ∙ first_branches taken last rest' depth whole ∙ sym (first_branches taken last rest depth whole))
      ]

  -- a stack whose frames past a depth are dropped: after the branch taken at that depth it stands for the paths that come
  -- after the one through all frames and have other first branches
  pub skips : (start : Configuration) (frames : List (Frame Configuration Branch)) (at : Configuration) (last : Branch) (rest here : List Branch) (depth : ℕ)
      → LeadTo ways start frames at → IsBranch ways at last → IsPath ways start here → here ≡ taken_in frames ++ last ∷ rest
      → suc (length frames) ≡ min depth (length here)
      → StandsFor ways start (IsPast ways.compare depth here) frames at (After ways.compare last)
  skips start frames at last rest here depth leads branch is e count =
      let taken = taken_in frames in
      let tied = tied_itself orderly.total in
      let long : length taken ≡ length frames = length-map frames (λ frame. frame.taken) in
      let count' : suc (length taken) ≡ min depth (length here) = omega arith in
      let front : take (suc (length taken)) here ≡ taken ++ last ∷ [] = ap (take (suc (length taken))) e ∙ first_branches taken last rest _ refl in
      record {
        leads = leads;
        to_come = λ path is_path. (
          λ come. (
            subst (λ other. slice_cmp ways.compare other path ≡ Less) (sym e) (above_taken ways.compare tied taken last rest path come),
            λ same.
                let same_front = sym (take-take (suc (length taken)) depth path (omega arith)) ∙ ap (take (suc (length taken))) same
                ∙ take-take (suc (length taken)) depth here (omega arith) ∙ front in
                not_first_branches ways.compare tied taken last path come same_front,
          ),
          λ (less, differ). elim (above_cases orderly start frames at last rest path leads branch is_path
              (subst (λ other. slice_cmp ways.compare other path ≡ Less) e less)) [
                | inl before ↦ before
                | inr (rest', e', above) ↦ absurd (same_first_branches start path taken last rest rest' depth (subst (IsPath ways start) e is) is_path
                    (subst (λ other. suc (length taken) ≡ min depth (length other)) e count') e' above
                    (subst (λ other. take depth path ≢ take depth other) e differ))
              ],
        );
      }

  -- the frames of a path up to one lead to that one's configuration, and what was taken there is a branch
  pub frames_lead : (start : Configuration) (frames later : List (Frame Configuration Branch)) (frame : Frame Configuration Branch) (top : Configuration)
      → LeadTo ways start (frames ++ frame ∷ later) top → LeadTo ways start frames frame.at × IsBranch ways frame.at frame.taken
  frames_lead start [] later frame top (same, next, leads, rest) = (sym same, inr (next, leads))
  frames_lead start (first ∷ frames) later frame top (same, next, leads, rest) =
      let onward = frames_lead next frames later frame top rest in
      ((same, next, leads, onward.0), onward.1)
