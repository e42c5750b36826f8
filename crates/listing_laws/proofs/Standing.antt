-- What a stack stands for changes only by what its frames, its top and the branches left there say: each law takes apart what
-- is to come at the last branch taken.
use Rattle.std.proofs.Common.{◌≡◌, ◌⊎◌, ◌↔◌, inl, inr, List, [], ◌∷◌, ◌++◌, refl, sym, ap, subst, ◌∙◌}
use Rattle.std.specs.Cmp.Lexicographic.{slice_cmp}
use Rattle.std.specs.declared.cmp.Ordering.TheVariants.{Less}
use Rattle.std.proofs.lemmas.Cmp.{lists_total, tied_itself}
use Rattle.std.proofs.lemmas.List.{append_assoc}
use Rattle.listing_laws.specs.Ways.{Ways, AreOrderly, IsPath}
use Rattle.listing_laws.specs.Cursors.{IsFirst}
use Rattle.listing_laws.specs.Stacks.{Frame, taken_in, LeadTo, Every, From, After, IsToCome, HasPathLeft, StandsFor}
use Rattle.listing_laws.proofs.Paths.{path_from_next, path_from_end, path_from_top, frame_pushed, frame_popped, taken_pushed}
use Rattle.listing_laws.proofs.ToCome.{change_left, last_cases, to_come_before, to_come_onward, from_cases, above_taken}

-- at the start every path is still to come
pub stands_at_start : {Configuration Branch : Type 0} (ways : Ways Configuration Branch) (start : Configuration)
    → StandsFor ways start (λ path. Unit {0}) [] start Every
stands_at_start ways start = record { leads = refl; to_come = to_come }
  where
    to_come : (path : List _) → IsPath ways start path → IsToCome ways.compare [] Every path ↔ Unit {0}
    to_come [] is = absurd is
    to_come (branch ∷ path) is = (λ left. tt, λ wanted. tt)

-- where the rest is a path, the branches taken and it are still to come
extended : {Configuration Branch : Type 0} (ways : Ways Configuration Branch) (next : Configuration) (taken : List Branch) (branch : Branch) (rest : List Branch)
    → IsPath ways next rest → IsToCome ways.compare (taken ++ branch ∷ []) Every (taken ++ branch ∷ rest)
extended ways next taken branch [] none = absurd none
extended ways next taken branch (later ∷ rest) is =
    subst (IsToCome ways.compare (taken ++ branch ∷ []) Every) (append_assoc taken (branch ∷ []) (later ∷ rest))
    (to_come_onward ways.compare (taken ++ branch ∷ []) Every later rest tt)

-- nothing is to come at a start where no branch that is left begins a path
none_to_come : {Configuration Branch : Type 0} (ways : Ways Configuration Branch) (start top : Configuration) (IsLeft : Branch → Type 0) (path : List Branch)
    → start ≡ top → (HasPathLeft ways top IsLeft → ⊥)
    → IsPath ways start path → IsToCome ways.compare [] IsLeft path → ⊥
none_to_come ways start top IsLeft [] same none is come = come
none_to_come ways start top IsLeft (branch ∷ rest) same none is come =
    none (branch, rest, subst (λ place. IsPath ways place (branch ∷ rest)) same is, come)

module _ {Configuration Branch : Type 0} {ways : Ways Configuration Branch} (orderly : AreOrderly ways) where
  -- the same stack stands for whatever is the same of paths
  pub stands_for_same : {start : Configuration} {IsWanted : List Branch → Type 0} {frames : List (Frame Configuration Branch)}
      {top : Configuration} {IsLeft : Branch → Type 0} (Others : List Branch → Type 0)
      → ((path : List Branch) → IsPath ways start path → IsWanted path ↔ Others path)
      → StandsFor ways start IsWanted frames top IsLeft → StandsFor ways start Others frames top IsLeft
  stands_for_same Others same stands = record {
    leads = stands.leads;
    to_come = λ path is.
        let here = stands.to_come path is in
        let there = same path is in
        (λ come. there.0 (here.0 come), λ other. here.1 (there.1 other));
  }

  -- only the branches that begin a path from the top matter
  pub passes_over : {start : Configuration} {IsWanted : List Branch → Type 0} {frames : List (Frame Configuration Branch)}
      {top : Configuration} {IsLeft : Branch → Type 0} (Others : Branch → Type 0)
      → ((branch : Branch) (rest : List Branch) → IsPath ways top (branch ∷ rest) → IsLeft branch ↔ Others branch)
      → StandsFor ways start IsWanted frames top IsLeft → StandsFor ways start IsWanted frames top Others
  passes_over {start = start} {frames = frames} {top = top} {IsLeft = IsLeft} Others same stands = record {
    leads = stands.leads;
    to_come = λ path is.
        let from_top = λ (branch : Branch) (rest : List Branch) (e : path ≡ taken_in frames ++ branch ∷ rest).
        same branch rest ((path_from_top orderly start frames top (branch ∷ rest) stands.leads).0 (subst (IsPath ways start) e is)) in
        let here = stands.to_come path is in (
          λ come. here.0 (change_left ways.compare (taken_in frames) Others IsLeft path (λ branch rest e. (from_top branch rest e).1) come),
          λ wanted. change_left ways.compare (taken_in frames) IsLeft Others path (λ branch rest e. (from_top branch rest e).0) (here.1 wanted),
        );
  }

  -- the first candidate is the least of the branches that begin a path
  pub comes_to_first : {start : Configuration} {IsWanted : List Branch → Type 0} {frames : List (Frame Configuration Branch)} {top : Configuration}
      (first : Branch) → ((branch : Branch) (rest : List Branch) → IsPath ways top (branch ∷ rest) → From ways.compare first branch)
      → StandsFor ways start IsWanted frames top Every → StandsFor ways start IsWanted frames top (From ways.compare first)
  comes_to_first first least stands = passes_over (From ways.compare first) (λ branch rest is. (λ any. least branch rest is, λ from. tt)) stands

  -- a candidate that begins no path is passed over
  pub passes_one : {start : Configuration} {IsWanted : List Branch → Type 0} {frames : List (Frame Configuration Branch)} {top : Configuration}
      (candidate : Branch) → ((rest : List Branch) → IsPath ways top (candidate ∷ rest) → ⊥)
      → StandsFor ways start IsWanted frames top (From ways.compare candidate)
      → StandsFor ways start IsWanted frames top (After ways.compare candidate)
  passes_one {top = top} candidate none stands =
      passes_over (After ways.compare candidate)
      (λ branch rest is. (
        λ from. elim from [ inl same ↦ absurd (none rest (subst (λ c. IsPath ways top (c ∷ rest)) (sym same) is)) | inr less ↦ less ],
        λ less. inr less,
      ))
      stands

  -- the next candidate is the least of the later branches that begin a path
  pub comes_to_next : {start : Configuration} {IsWanted : List Branch → Type 0} {frames : List (Frame Configuration Branch)} {top : Configuration}
      (last next : Branch) → ways.compare last next ≡ Less
      → ((branch : Branch) (rest : List Branch) → IsPath ways top (branch ∷ rest) → ways.compare last branch ≡ Less → From ways.compare next branch)
      → StandsFor ways start IsWanted frames top (After ways.compare last)
      → StandsFor ways start IsWanted frames top (From ways.compare next)
  comes_to_next last next less least stands =
      passes_over (From ways.compare next)
      (λ branch rest is. (
        λ later. least branch rest is later,
        λ from. elim from [ inl same ↦ subst (λ c. ways.compare last c ≡ Less) same less | inr above ↦ orderly.total.trans last next branch less above ],
      ))
      stands

  -- the first branch left leads on: it is taken, and every branch is left where it leads
  pub enters : {start : Configuration} {IsWanted : List Branch → Type 0} {frames : List (Frame Configuration Branch)} {top : Configuration}
      (branch : Branch) (next : Configuration) → ways.leads top branch next
      → StandsFor ways start IsWanted frames top (From ways.compare branch)
      → StandsFor ways start IsWanted (frames ++ record { at = top; taken = branch } ∷ []) next Every
  enters {start = start} {frames = frames} {top = top} branch next leads stands = record {
    leads = frame_pushed orderly start frames top branch next stands.leads leads;
    to_come = λ path is.
        let here = stands.to_come path is in
        let taken = taken_in frames in
        let pushed = taken_pushed frames (record { at = top; taken = branch }) in
        let onward = λ (rest : List Branch) (e : path ≡ taken ++ branch ∷ rest).
        (path_from_next orderly top branch next rest leads).0
        ((path_from_top orderly start frames top (branch ∷ rest) stands.leads).0 (subst (IsPath ways start) e is)) in (
          λ come. here.0 (elim (last_cases ways.compare taken branch Every path (subst (λ ts. IsToCome ways.compare ts Every path) pushed come)) [
            | inl before ↦ change_left ways.compare taken (After ways.compare branch) (From ways.compare branch) path (λ c rest e less. inr less) before
            | inr (later, rest, e, left) ↦ subst (IsToCome ways.compare taken (From ways.compare branch)) (sym e)
                (to_come_onward ways.compare taken (From ways.compare branch) branch (later ∷ rest) (inl refl))
          ]),
          λ wanted. subst (λ ts. IsToCome ways.compare ts Every path) (sym pushed)
              (elim (from_cases ways.compare taken branch path (here.1 wanted)) [
                | inl before ↦ to_come_before ways.compare taken branch Every path before
                | inr (rest, e) ↦ subst (IsToCome ways.compare (taken ++ branch ∷ []) Every) (sym e) (extended ways next taken branch rest (onward rest e))
              ]),
        );
  }

  -- no branch that is left begins a path: the last frame is taken off, and the branches after the one taken there are left
  pub leaves : {start : Configuration} {IsWanted : List Branch → Type 0} {frames : List (Frame Configuration Branch)} {frame : Frame Configuration Branch}
      {top : Configuration} {IsLeft : Branch → Type 0}
      → (HasPathLeft ways top IsLeft → ⊥)
      → StandsFor ways start IsWanted (frames ++ frame ∷ []) top IsLeft
      → StandsFor ways start IsWanted frames frame.at (After ways.compare frame.taken)
  leaves {start = start} {frames = frames} {frame = frame} {top = top} {IsLeft = IsLeft} none stands = record {
    leads = (frame_popped orderly start frames frame top stands.leads).0;
    to_come = λ path is.
        let here = stands.to_come path is in
        let taken = taken_in frames in
        let pushed = taken_pushed frames frame in
        let parted = λ (branch : Branch) (rest : List Branch). append_assoc taken (frame.taken ∷ []) (branch ∷ rest) in
        let onward = λ (branch : Branch) (rest : List Branch) (e : path ≡ taken ++ frame.taken ∷ branch ∷ rest).
        (path_from_top orderly start (frames ++ frame ∷ []) top (branch ∷ rest) stands.leads).0
        (subst (IsPath ways start) (e ∙ sym (parted branch rest) ∙ ap (λ ts. ts ++ branch ∷ rest) (sym pushed)) is) in (
          λ come. here.0 (subst (λ ts. IsToCome ways.compare ts IsLeft path) (sym pushed)
              (to_come_before ways.compare taken frame.taken IsLeft path come)),
          λ wanted. elim (last_cases ways.compare taken frame.taken IsLeft path
              (subst (λ ts. IsToCome ways.compare ts IsLeft path) pushed (here.1 wanted))) [
                | inl before ↦ before
                | inr (branch, rest, e, left) ↦ absurd (none (branch, rest, onward branch rest e, left))
              ],
        );
  }

  -- without a frame, where no branch that is left begins a path, no path is wanted
  pub exhausted : {start : Configuration} {IsWanted : List Branch → Type 0} {top : Configuration} {IsLeft : Branch → Type 0}
      → (HasPathLeft ways top IsLeft → ⊥)
      → StandsFor ways start IsWanted [] top IsLeft
      → (path : List Branch) → IsPath ways start path → IsWanted path → ⊥
  exhausted {start = start} {top = top} {IsLeft = IsLeft} none stands path is wanted =
      none_to_come ways start top IsLeft path stands.leads none is ((stands.to_come path is).1 wanted)

  -- what is to come from a branch on that ends comes after the path that ends there, or is that path
  found_cases : (start : Configuration) (frames : List (Frame Configuration Branch)) (top : Configuration) (branch : Branch)
      → LeadTo ways start frames top → ways.ends top branch → (path : List Branch) → IsPath ways start path
      → IsToCome ways.compare (taken_in frames) (From ways.compare branch) path
      → IsToCome ways.compare (taken_in frames) (After ways.compare branch) path ⊎ (path ≡ taken_in frames ++ branch ∷ [])
  found_cases start frames top branch leads ends path is come =
      elim (from_cases ways.compare (taken_in frames) branch path come) [
        | inl before ↦ inl before
        | inr (rest, e) ↦
            let nothing_more = (path_from_end orderly top branch rest ends).0
            ((path_from_top orderly start frames top (branch ∷ rest) leads).0 (subst (IsPath ways start) e is)) in
            inr (e ∙ ap (λ more. taken_in frames ++ branch ∷ more) nothing_more)
      ]

  -- the first branch left ends: the path that ends there is the first of those wanted
  pub finds : {start : Configuration} {IsWanted : List Branch → Type 0} {frames : List (Frame Configuration Branch)} {top : Configuration}
      (branch : Branch) → ways.ends top branch → StandsFor ways start IsWanted frames top (From ways.compare branch)
      → IsFirst ways start IsWanted (taken_in frames ++ branch ∷ [])
  finds {start = start} {frames = frames} {top = top} branch ends stands =
      let taken = taken_in frames in
      let found = (path_from_top orderly start frames top (branch ∷ []) stands.leads).1 ends in
      record {
        path = found;
        wanted = (stands.to_come (taken ++ branch ∷ []) found).0 (to_come_onward ways.compare taken (From ways.compare branch) branch [] (inl refl));
        least = λ other is wanted greater. elim (found_cases start frames top branch stands.leads ends other is ((stands.to_come other is).1 wanted)) [
          | inl before ↦ let less = above_taken ways.compare (tied_itself orderly.total) taken branch [] other before in cc
          | inr e ↦ let equal = tied_itself (lists_total orderly.total) other in cc
        ];
      }

  -- after that, the stack stands for the wanted paths that come after it
  pub goes_on_after : {start : Configuration} {IsWanted : List Branch → Type 0} {frames : List (Frame Configuration Branch)} {top : Configuration}
      (branch : Branch) → ways.ends top branch → StandsFor ways start IsWanted frames top (From ways.compare branch)
      → StandsFor ways start (λ path. IsWanted path × (slice_cmp ways.compare (taken_in frames ++ branch ∷ []) path ≡ Less)) frames top
      (After ways.compare branch)
  goes_on_after {start = start} {frames = frames} {top = top} branch ends stands =
      let taken = taken_in frames in
      record {
        leads = stands.leads;
        to_come = λ path is. (
          λ come. (
            (stands.to_come path is).0 (change_left ways.compare taken (After ways.compare branch) (From ways.compare branch) path (λ c rest e less. inr less) come),
            above_taken ways.compare (tied_itself orderly.total) taken branch [] path come,
          ),
          λ (wanted, less). elim (found_cases start frames top branch stands.leads ends path is ((stands.to_come path is).1 wanted)) [
            | inl before ↦ before
            | inr e ↦ let equal = tied_itself (lists_total orderly.total) path in absurd (cc)
          ],
        );
      }
