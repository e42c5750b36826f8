-- What two calls in a row do to told bytes: by cases on whether they are told, and the laws of `++`.
use Rattle.std.proofs.Common.{◌≡◌, ℕ, ◌+◌, List, ◌++◌, length, take, drop, refl, ap, sym, ◌∙◌, append_assoc, take-append-drop}
use Rattle.std.specs.Prelude.{Option, None, Some}
use Rattle.std.proofs.Math.Seq.{take-add, take-append-add, take-append_seam, take-length}
use Rattle.outside.specs.Told.{bytes_after, bytes_before, GrowsByPrefix}

-- two writes in a row are one
pub bytes_after-bytes_after : (told : Option (List ℕ)) (first next : List ℕ) → bytes_after (bytes_after told first) next ≡ bytes_after told (first ++ next)
bytes_after-bytes_after None first next = refl
bytes_after-bytes_after (Some told) first next = ap Some (append_assoc told first next)

-- a write of the next n bytes after the first `taken` of them
pub bytes_after-taken : (old middle new : Option (List ℕ)) (bytes : List ℕ) (taken n : ℕ) → middle ≡ bytes_after old (take taken bytes) → new ≡ bytes_after middle (take n (drop taken bytes)) → new ≡ bytes_after old (take (taken + n) bytes)
bytes_after-taken old middle new bytes taken n before now =
    now ∙ ap (λ told. bytes_after told (take n (drop taken bytes))) before
    ∙ bytes_after-bytes_after old (take taken bytes) (take n (drop taken bytes))
    ∙ ap (λ all. bytes_after old all) (sym (take-add taken n bytes))

-- two reads in a row are one
pub bytes_before-bytes_before : (first next : List ℕ) (told : Option (List ℕ)) → bytes_before first (bytes_before next told) ≡ bytes_before (first ++ next) told
bytes_before-bytes_before first next None = refl
bytes_before-bytes_before first next (Some told) = ap Some (sym (append_assoc first next told))

-- all of the first bytes and then a prefix of the next is a prefix of both together
pub GrowsByPrefix-after : (old middle new : Option (List ℕ)) (first next : List ℕ) → middle ≡ bytes_after old first → GrowsByPrefix middle new next → GrowsByPrefix old new (first ++ next)
GrowsByPrefix-after old middle new first next before grows = record {
  count = length first + grows.count;
  grown =
      grows.grown
      ∙ ap (λ told. bytes_after told (take grows.count next)) before
      ∙ bytes_after-bytes_after old first (take grows.count next)
      ∙ ap (λ all. bytes_after old all) (sym (take-append-add first next grows.count));
}

-- a prefix of the first bytes is a prefix of them with more after them
pub GrowsByPrefix-more : (old new : Option (List ℕ)) (first next : List ℕ) → GrowsByPrefix old new first → GrowsByPrefix old new (first ++ next)
GrowsByPrefix-more old new first next grows =
    let part = take grows.count first in
    let whole : first ++ next ≡ part ++ (drop grows.count first ++ next) =
    ap (λ all. all ++ next) (sym (take-append-drop grows.count first)) ∙ append_assoc part (drop grows.count first) next in
    record {
      count = length part;
      grown =
          grows.grown
          ∙ ap (λ all. bytes_after old all) (sym (ap (take (length part)) whole ∙ take-append_seam part (drop grows.count first ++ next)));
    }

-- all bytes is a prefix too
pub GrowsByPrefix-all : (old new : Option (List ℕ)) (bytes : List ℕ) → new ≡ bytes_after old bytes → GrowsByPrefix old new bytes
GrowsByPrefix-all old new bytes grown = record {
  count = length bytes;
  grown = grown ∙ ap (λ all. bytes_after old all) (sym (take-length bytes));
}

-- what a list of writes leaves, where the last may have failed
pub ruleset prefixes = (GrowsByPrefix-after, GrowsByPrefix-more, GrowsByPrefix-all, bytes_after-bytes_after)
