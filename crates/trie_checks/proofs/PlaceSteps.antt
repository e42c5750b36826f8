-- The places before a node at which letters are put: one letter nearer than before a child, or where a delta of its own begins to cut.
use Rattle.std.proofs.Common.{◌≡◌, ℕ, ◌+◌, ◌<◌, ◌≤◌, ◌⊎◌, ◌↔◌, inl, inr, List, [], ◌∷◌, ◌++◌, length, get_or, sym, subst, arith}
use Rattle.std.proofs.lemmas.Bool.{cases_lt}
use Rattle.std.proofs.lemmas.List.{get_or_append_left, get_or_push, length_push}
use Rattle.lexicon_definitions.specs.Deltas.{Delta}
use Rattle.lexicon_definitions.specs.Tries.{Row, AreRows, row_of}
use Rattle.trie_checks.specs.Bounds.{HasOne}
use Rattle.trie_checks.specs.NumberSets.{HasNumber}
use Rattle.trie_checks.specs.LettersPut.{IsPut, AllowsAll, ArePlaces, NonePutAbove}
use Rattle.trie_checks.proofs.SuffixSteps.{child_before}
use Rattle.trie_checks.proofs.PutSteps.{put_parts}

-- where no letter is put farther than so many letters before a node, none is put farther than more letters
pub none_farther : (rows : List Row) (farthest more : ℕ) → farthest ≤ more → NonePutAbove rows farthest → NonePutAbove rows more
none_farther rows farthest more le h = record { none = λ node before letter low above is. h.none node before letter low (omega (arith, le, above)) is }

-- one node more
pub places_next : (rows : List Row) (node : ℕ) (places : List ℕ) (own below new : ℕ) → AreRows rows → NonePutAbove rows 64 → node < length rows → ArePlaces rows node places
    → ((place : ℕ) → place < 64 → HasOne (λ (delta : Delta). delta.cut ≡ place + 1) (row_of rows node).deltas → HasNumber own place)
    → ((place : ℕ) → HasOne (λ (child : ℕ × ℕ). HasNumber (get_or places child.1 0) (place + 1)) (row_of rows node).children → HasNumber below place)
    → ((n : ℕ) → HasNumber new n ↔ (HasNumber below n ⊎ HasNumber own n)) → ArePlaces rows (node + 1) (places ++ new ∷ [])
places_next rows node places own below new are none low known of_deltas of_children both =
    let many = known.length_is in
    let near : (n place letter : ℕ) → n < length rows → IsPut rows n (place + 1) letter → place < 64 = λ n place letter within is.
    elim (cases_lt place 64) [ inl less ↦ less | inr far ↦ absurd (none.none n (place + 1) letter within (omega (arith, far)) is) ] in
    let allows : AllowsAll rows node new = λ place letter is.
    inr ((both place).1 (elim (put_parts rows are node low (place + 1) letter is) [
      | inl h ↦ inr (of_deltas place (near node place letter low is) (h.0, h.1, h.2.cut))
      | inr h ↦
          let less = child_before rows are node low h.0 h.1 in
          let near_child = near h.0.1 (place + 1) letter (omega (arith, less, low)) h.2 in
          inl (of_children place (h.0, h.1, elim (known.each h.0.1 less (place + 1) letter h.2) [ inl far ↦ absurd (omega (arith, near_child, far)) | inr has ↦ has ]))
    ]))
    in
    record {
      length_is = let long = length_push places new in omega (arith, long, many);
      each = λ n less.
          elim (cases_lt n node) [
            | inl before ↦
                let same = get_or_append_left places (new ∷ []) 0 n (omega (arith, before, many)) in
                subst (AllowsAll rows n) (sym same) (known.each n before)
            | inr here ↦
                let is : node ≡ n = omega (arith, less, here) in
                let at = get_or_push places new 0 node many in
                subst (λ k. AllowsAll rows k (get_or (places ++ new ∷ []) k 0)) is (subst (AllowsAll rows node) (sym at) allows)
          ];
    }
