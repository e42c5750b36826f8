-- Phases that are listed one after another are those that the field names: by induction on its names, from any phases that were
-- listed before them.
use Rattle.std.proofs.Common.{◌≡◌, ℕ, ◌+◌, ◌^◌, eqb, Bool, true, false, cond, not, ◌&&◌, nat_lt, Option, Some, None, List, [], ◌∷◌, ◌++◌, length, map, refl, sym, ◌∙◌, ap, arith}
use Rattle.std.specs.Prelude.{bit_or, option_map, option_and_then}
use Rattle.std.specs.List.{position, slice_split}
use Rattle.std.specs.Str.{bytes_eq}
use Rattle.std.specs.Ordering.{is_lt, nat_cmp}
use Rattle.std.proofs.lemmas.Bool.Decides.{nat_tests}
use Rattle.std.proofs.lemmas.Nat.Bits.{bit_at_or, bit_at-zero, same_from_bits}
use Rattle.std.proofs.lemmas.List.{map_push}
use Rattle.trie_text_definitions.specs.LimitedRules.{rises, set_of, set_within, phases_named}
use Rattle.phase_sets.specs.ListedPhases.{Listed, nothing_listed, listed_then, listed_with, set_listed}

-- ---- sets

or_assoc : (a b c : ℕ) → bit_or (bit_or a b) c ≡ bit_or a (bit_or b c)
or_assoc a b c = same_from_bits (bit_or (bit_or a b) c) (bit_or a (bit_or b c)) λ i.
    let first = bit_at_or (bit_or a b) c i in
    let inner = bit_at_or a b i in
    let second = bit_at_or a (bit_or b c) i in
    let last = bit_at_or b c i in
    omega (arith, first, inner, second, last)

or_none : (a : ℕ) → bit_or a 0 ≡ a
or_none a = same_from_bits (bit_or a 0) a λ i. let is = bit_at_or a 0 i in let none = bit_at-zero i in omega (arith, is, none)

none_or : (a : ℕ) → bit_or 0 a ≡ a
none_or a = same_from_bits (bit_or 0 a) a λ i. let is = bit_at_or 0 a i in let none = bit_at-zero i in omega (arith, is, none)

-- ---- numbers that rise

-- each number is above the one before, and the first one is not below this one
abbrev rises_from : ℕ → List ℕ → Bool
rises_from low [] = true
rises_from low (phase ∷ phases) = not (nat_lt phase low) && rises_from (phase + 1) phases

below_next : (x y : ℕ) → is_lt (nat_cmp x y) ≡ not (nat_lt y (x + 1))
below_next x y = grind (arith, nat_tests)

rises_after : (phase : ℕ) (phases : List ℕ) → rises nat_cmp (phase ∷ phases) ≡ rises_from (phase + 1) phases
rises_after phase [] = refl
rises_after phase (next ∷ phases) = λ i. below_next phase next i && rises_after next phases i

rises_at_all : (phases : List ℕ) → rises_from 0 phases ≡ rises nat_cmp phases
rises_at_all [] = refl
rises_at_all (phase ∷ phases) =
    let above : nat_lt phase 0 ≡ false = grind (arith, nat_tests) in
    ap (λ test. not test && rises_from (phase + 1) phases) above ∙ sym (rises_after phase phases)

-- ---- names

module _ (names : List (List ℕ)) where
  -- the phases with those that have these names
  abbrev pub listed_on : Listed → List (List ℕ) → Option Listed
  listed_on listed [] = Some listed
  listed_on listed (name ∷ more) = option_and_then (λ next. listed_on next more) (listed_with names listed name)

  on_by : (made : Option Listed) (more others : List (List ℕ))
      → ((next : Listed) → listed_on next (more ++ others) ≡ option_and_then (λ last. listed_on last others) (listed_on next more))
      → option_and_then (λ next. listed_on next (more ++ others)) made
      ≡ option_and_then (λ last. listed_on last others) (option_and_then (λ next. listed_on next more) made)
  on_by None more others h = refl
  on_by (Some next) more others h = h next

  listed_on-append : (listed : Listed) (more others : List (List ℕ))
      → listed_on listed (more ++ others) ≡ option_and_then (λ last. listed_on last others) (listed_on listed more)
  listed_on-append listed [] others = refl
  listed_on-append listed (name ∷ more) others =
      on_by (listed_with names listed name) more others (λ next. listed_on-append next more others)

  -- with the next name
  pub one_more : (listed last : Listed) (more others : List (List ℕ)) (name : List ℕ) (made : Option Listed) → listed_on listed more ≡ Some last
      → made ≡ listed_with names last name → listed_on listed (more ++ name ∷ others) ≡ option_and_then (λ next. listed_on next others) made
  one_more listed last more others name made h e =
      listed_on-append listed more (name ∷ others) ∙ ap (option_and_then (λ last. listed_on last (name ∷ others))) h
      ∙ ap (option_and_then (λ next. listed_on next others)) (sym e)

  -- ---- the set of the phases that are listed

  -- the set, where there are not so many phases
  abbrev pub set_if_few : Listed → Option ℕ
  set_if_few listed = cond (nat_lt listed.count (length names)) (Some listed.set) None

  -- the set with these numbers, where they come after those that are listed, and are not too many with them
  abbrev set_with : Listed → List ℕ → Option ℕ
  set_with listed phases =
      cond (rises_from listed.next phases && nat_lt (listed.count + length phases) (length names)) (Some (bit_or listed.set (set_of phases))) None

  none_more : (listed : Listed) → set_if_few listed ≡ set_with listed []
  none_more listed =
      let same : listed.count + 0 ≡ listed.count = omega arith in
      λ i. cond (nat_lt (sym same i) (length names)) (Some (sym (or_none listed.set) i)) None

  past_by : (listed : Listed) (phase : ℕ) (phases : Option (List ℕ)) → nat_lt phase listed.next ≡ true
      → None ≡ option_and_then (set_with listed) (option_map (λ rest. phase ∷ rest) phases)
  past_by listed phase None t = refl
  past_by listed phase (Some phases) t =
      ap (λ test. cond ((not test && rises_from (phase + 1) phases) && nat_lt (listed.count + length (phase ∷ phases)) (length names)) (Some (bit_or listed.set (set_of (phase ∷ phases)))) None) (sym t)

  next_by : (listed : Listed) (phase : ℕ) (phases : Option (List ℕ)) → nat_lt phase listed.next ≡ false
      → option_and_then (set_with (record { set = bit_or listed.set (2 ^ phase); count = listed.count + 1; next = phase + 1 })) phases
      ≡ option_and_then (set_with listed) (option_map (λ rest. phase ∷ rest) phases)
  next_by listed phase None t = refl
  next_by listed phase (Some phases) t =
      let long : listed.count + 1 + length phases ≡ listed.count + length (phase ∷ phases) = omega arith in
      (λ i. cond (rises_from (phase + 1) phases && nat_lt (long i) (length names)) (Some (or_assoc listed.set (2 ^ phase) (set_of phases) i)) None)
      ∙ ap (λ test. cond ((not test && rises_from (phase + 1) phases) && nat_lt (listed.count + length (phase ∷ phases)) (length names)) (Some (bit_or listed.set (set_of (phase ∷ phases)))) None) (sym t)

  then_by : (listed : Listed) (phase : ℕ) (more : List (List ℕ)) (test : Bool) → nat_lt phase listed.next ≡ test
      → ((next : Listed) → option_and_then set_if_few (listed_on next more) ≡ option_and_then (set_with next) (phases_named names more))
      → option_and_then set_if_few (option_and_then (λ next. listed_on next more) (cond test None (Some (record { set = bit_or listed.set (2 ^ phase); count = listed.count + 1; next = phase + 1 }))))
      ≡ option_and_then (set_with listed) (option_map (λ rest. phase ∷ rest) (phases_named names more))
  then_by listed phase more true t h = past_by listed phase (phases_named names more) t
  then_by listed phase more false t h = h _ ∙ next_by listed phase (phases_named names more) t

  with_by : (listed : Listed) (found : Option ℕ) (more : List (List ℕ))
      → ((next : Listed) → option_and_then set_if_few (listed_on next more) ≡ option_and_then (set_with next) (phases_named names more))
      → option_and_then set_if_few (option_and_then (λ next. listed_on next more) (option_and_then (listed_then listed) found))
      ≡ option_and_then (set_with listed) (option_and_then (λ first. option_map (λ rest. first ∷ rest) (phases_named names more)) found)
  with_by listed None more h = refl
  with_by listed (Some phase) more h = then_by listed phase more (nat_lt phase listed.next) refl h

  set_from : (listed : Listed) (more : List (List ℕ)) → option_and_then set_if_few (listed_on listed more) ≡ option_and_then (set_with listed) (phases_named names more)
  set_from listed [] = none_more listed
  set_from listed (name ∷ more) = with_by listed (position (bytes_eq name) names) more (λ next. set_from next more)

  all_with : (phases : Option (List ℕ)) → option_and_then (set_with nothing_listed) phases ≡ option_and_then (set_within (length names)) phases
  all_with None = refl
  all_with (Some phases) =
      let long : 0 + length phases ≡ length phases = omega arith in
      λ i. cond (rises_at_all phases i && nat_lt (long i) (length names)) (Some (none_or (set_of phases) i)) None

  -- the set of the phases that all the names list
  all_listed : (parts : List (List ℕ)) → option_and_then set_if_few (listed_on nothing_listed parts) ≡ option_and_then (set_within (length names)) (phases_named names parts)
  all_listed parts = set_from nothing_listed parts ∙ all_with (phases_named names parts)

  -- ---- the turns of a loop over the parts of a field

  abbrev parts_of : List ℕ → List (List ℕ)
  parts_of field = slice_split (λ byte. eqb byte 44) field

  pub not_listed : (field : List ℕ) (passed more : List (List ℕ)) (name : List ℕ) (listed : Listed) → passed ++ name ∷ more ≡ parts_of field
      → listed_on nothing_listed passed ≡ Some listed → None ≡ listed_with names listed name → None ≡ set_listed names field
  not_listed field passed more name listed cut h e =
      sym (ap (option_and_then set_if_few) (one_more nothing_listed listed passed more name None h e))
      ∙ ap (λ parts. option_and_then set_if_few (listed_on nothing_listed parts)) cut ∙ all_listed (parts_of field)

  pub listed_next : {B : Type 0} (v : B → List ℕ) (passed : List B) (name : B) (listed next : Listed) → listed_on nothing_listed (map v passed) ≡ Some listed
      → Some next ≡ listed_with names listed (v name) → listed_on nothing_listed (map v (passed ++ name ∷ [])) ≡ Some next
  listed_next v passed name listed next h e =
      ap (listed_on nothing_listed) (map_push v passed name) ∙ one_more nothing_listed listed (map v passed) [] (v name) (Some next) h e

  pub set_at_end : (field : List ℕ) (passed : List (List ℕ)) (listed : Listed) (test : Bool) → passed ≡ parts_of field → listed_on nothing_listed passed ≡ Some listed
      → nat_lt listed.count (length names) ≡ test → cond test (Some listed.set) None ≡ set_listed names field
  set_at_end field passed listed test cut h t =
      ap (λ b. cond b (Some listed.set) None) (sym t) ∙ ap (option_and_then set_if_few) (sym h)
      ∙ ap (λ parts. option_and_then set_if_few (listed_on nothing_listed parts)) cut ∙ all_listed (parts_of field)
