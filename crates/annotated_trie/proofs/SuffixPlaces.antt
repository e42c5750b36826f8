-- Where a suffix is found in a list without repetitions: the first pair that is equal is the one that was stored.
use Rattle.std.proofs.Common.{◌≡◌, ℕ, ◌+◌, ◌⊎◌, ◌↔◌, inl, inr, Bool, true, cond, ◌&&◌, Some, None, List, [], ◌∷◌, ◌++◌, length, get_or, nat_eq, nat_lt, refl, sym, ◌∙◌, ap, subst, arith, true≢false}
use Rattle.std.specs.Prelude.{Contains, position}
use Rattle.std.specs.List.{IsDistinct, position_or_len}
use Rattle.std.proofs.lemmas.Bool.{eq-eqb, cases_order, lt-ltb}
use Rattle.std.proofs.lemmas.List.Elements.{Contains-append_left, Contains-push, Contains-push_cases}
use Rattle.std.proofs.lemmas.List.Quantifiers.{position-Some}
use Rattle.std.proofs.lemmas.List.Sums.{fails_before_first, passes_at_first}
use Rattle.std.proofs.lemmas.Map.Keys.{apart_from_distinct}
use Rattle.std.proofs.lemmas.Option.{slice_get_within, slice_get_read, get_or_from_slice_get}
use Rattle.annotated_trie.specs.Suffixes.{GoesOn, IsLonger}
use Rattle.annotated_trie.proofs.SuffixLaws.{same_pair}

-- whether two pairs are equal
abbrev pub pair_eq : ℕ × ℕ → ℕ × ℕ → Bool
pair_eq left right = nat_eq left.0 right.0 && nat_eq left.1 right.1

-- a pair is equal to itself
pair_itself : (pair : ℕ × ℕ) → pair_eq pair pair ≡ true
pair_itself pair =
    let first : nat_eq pair.0 pair.0 ≡ true = eq-eqb pair.0 pair.0 refl in
    let second : nat_eq pair.1 pair.1 ≡ true = eq-eqb pair.1 pair.1 refl in
    ap (λ (b : Bool). b && nat_eq pair.1 pair.1) first ∙ second

-- what is found is a suffix with the number after its place
pub IsLonger-found : (suffixes : List (ℕ × ℕ)) (letter rest place : ℕ) → position (pair_eq (letter, rest)) suffixes ≡ Some place
    → IsLonger suffixes letter rest (place + 1)
IsLonger-found suffixes letter rest place found =
    let pair : ℕ × ℕ = (letter, rest) in
    let (within, same, before) = position-Some (pair_eq pair) suffixes place pair found in
    record {
      place = place;
      follows = refl;
      stored = slice_get_read suffixes (length suffixes) place pair refl within (sym (same_pair letter rest (get_or suffixes place pair) same));
    }

-- a suffix is found at its place
pub found_longer : (suffixes : List (ℕ × ℕ)) (letter rest number : ℕ) → IsDistinct pair_eq suffixes → (is : IsLonger suffixes letter rest number)
    → position (pair_eq (letter, rest)) suffixes ≡ Some is.place
found_longer suffixes letter rest number distinct is =
    let pair : ℕ × ℕ = (letter, rest) in
    let test = pair_eq pair in
    let first = position_or_len test suffixes in
    let within = slice_get_within suffixes is.place pair is.stored in
    let here : get_or suffixes is.place pair ≡ pair = get_or_from_slice_get suffixes is.place pair pair is.stored in
    let passes : test (get_or suffixes is.place pair) ≡ true = ap test here ∙ pair_itself pair in
    let same : first ≡ is.place =
    elim (cases_order first is.place) [
      | inl e ↦ e
      | inr (inl l) ↦
          let found : get_or suffixes first pair ≡ pair = same_pair letter rest (get_or suffixes first pair) (passes_at_first test suffixes pair (omega (arith, l, within))) in
          let apart = apart_from_distinct pair_eq suffixes first is.place pair distinct l within in
          let equal : pair_eq (get_or suffixes first pair) (get_or suffixes is.place pair) ≡ true =
          ap (λ (p : ℕ × ℕ). pair_eq p (get_or suffixes is.place pair)) found ∙ ap (pair_eq pair) here ∙ pair_itself pair in
          absurd (true≢false (sym equal ∙ apart))
      | inr (inr l) ↦ absurd (true≢false (sym passes ∙ fails_before_first test suffixes is.place pair l))
    ]
    in
    let low : nat_lt first (length suffixes) ≡ true = lt-ltb first (length suffixes) (omega (arith, same, within)) in
    ap (λ (b : Bool). cond b (Some first) None) low ∙ ap Some same

-- one number more, which goes on
pub goes_on_found : (suffixes : List (ℕ × ℕ)) (letter rest place : ℕ) (rests first old new : List ℕ) → IsDistinct pair_eq suffixes
    → position (pair_eq (letter, rest)) suffixes ≡ Some place → new ≡ old ++ (place + 1) ∷ []
    → ((number : ℕ) → Contains old number ↔ (Contains first number ⊎ GoesOn suffixes letter rests number))
    → (number : ℕ) → Contains new number ↔ (Contains first number ⊎ GoesOn suffixes letter (rests ++ rest ∷ []) number)
goes_on_found suffixes letter rest place rests first old new distinct found e so_far number = (
  λ (has : Contains new number). elim (Contains-push_cases old (place + 1) number (subst (λ (xs : List ℕ). Contains xs number) e has)) [
    | inl before ↦ elim ((so_far number).0 before) [
      | inl f ↦ inl f
      | inr g ↦ inr (record { rest = g.rest; among = Contains-append_left rests (rest ∷ []) g.rest g.among; longer = g.longer })
    ]
    | inr same ↦ inr (record { rest = rest; among = Contains-push rests rest; longer = subst (IsLonger suffixes letter rest) same (IsLonger-found suffixes letter rest place found) })
  ],
  λ (goes : Contains first number ⊎ GoesOn suffixes letter (rests ++ rest ∷ []) number). subst (λ (xs : List ℕ). Contains xs number) (sym e) (elim goes [
    | inl f ↦ Contains-append_left old ((place + 1) ∷ []) number ((so_far number).1 (inl f))
    | inr g ↦ elim (Contains-push_cases rests rest g.rest g.among) [
      | inl before ↦ Contains-append_left old ((place + 1) ∷ []) number ((so_far number).1 (inr (record { rest = g.rest; among = before; longer = g.longer })))
      | inr same ↦
          let longer : IsLonger suffixes letter rest number = subst (λ (r : ℕ). IsLonger suffixes letter r number) (sym same) g.longer in
          let at : Some place ≡ Some longer.place = sym found ∙ found_longer suffixes letter rest number distinct longer in
          let follows = longer.follows in
          let one : place + 1 ≡ number = let p : place ≡ longer.place = cc in omega (arith, p, follows) in
          subst (Contains (old ++ (place + 1) ∷ [])) one (Contains-push old (place + 1))
    ]
  ]),
)

-- one number more, which does not go on
pub goes_on_nowhere : (suffixes : List (ℕ × ℕ)) (letter rest : ℕ) (rests first old : List ℕ) → IsDistinct pair_eq suffixes
    → position (pair_eq (letter, rest)) suffixes ≡ None
    → ((number : ℕ) → Contains old number ↔ (Contains first number ⊎ GoesOn suffixes letter rests number))
    → (number : ℕ) → Contains old number ↔ (Contains first number ⊎ GoesOn suffixes letter (rests ++ rest ∷ []) number)
goes_on_nowhere suffixes letter rest rests first old distinct none so_far number = (
  λ (has : Contains old number). elim ((so_far number).0 has) [
    | inl f ↦ inl f
    | inr g ↦ inr (record { rest = g.rest; among = Contains-append_left rests (rest ∷ []) g.rest g.among; longer = g.longer })
  ],
  elim [
    | inl f ↦ (so_far number).1 (inl f)
    | inr g ↦ elim (Contains-push_cases rests rest g.rest g.among) [
      | inl before ↦ (so_far number).1 (inr (record { rest = g.rest; among = before; longer = g.longer }))
      | inr same ↦
          let longer : IsLonger suffixes letter rest number = subst (λ (r : ℕ). IsLonger suffixes letter r number) (sym same) g.longer in
          let at : None ≡ Some longer.place = sym none ∙ found_longer suffixes letter rest number distinct longer in
          absurd cc
    ]
  ],
)
