-- Suffixes that are added leave the numbers of those before; a word's number is that of its first letter and the number of the
-- rest, by induction on the word.
use Rattle.std.proofs.Common.{◌≡◌, ℕ, ◌+◌, ◌-◌, ◌≤◌, Bool, true, false, ◌&&◌, inl, inr, Some, List, [], ◌∷◌, ◌++◌, length, take, drop, get_or, slice_get, nat_eq, if◌then◌else◌, refl, sym, ◌∙◌, ap, subst, arith, length-append, append-nil}
use Rattle.std.proofs.lemmas.Bool.{eqb-true, cases_lt, and_parts}
use Rattle.std.proofs.lemmas.List.{get_or_append_left, get_or_push, length_push, take_rest}
use Rattle.std.proofs.lemmas.Option.{slice_get_within, slice_get_read, get_or_from_slice_get}
use Rattle.lexicon_definitions.specs.Rules.{Rule}
use Rattle.annotated_trie.specs.Suffixes.{AddsSuffixes, AreNumbers, IsLonger, StandsFor}

-- pairs that are told to be equal are one
pub same_pair : (letter rest : ℕ) (pair : ℕ × ℕ) → (nat_eq letter pair.0 && nat_eq rest pair.1) ≡ true → pair ≡ (letter, rest)
same_pair letter rest pair e =
    let two = and_parts (nat_eq letter pair.0) (nat_eq rest pair.1) e in
    let first = sym (eqb-true letter pair.0 two.0) in
    let second = sym (eqb-true rest pair.1 two.1) in
    λ i. (first i, second i)

-- a suffix that was there
pub IsLonger-append : (suffixes more : List (ℕ × ℕ)) (letter rest number : ℕ) → IsLonger suffixes letter rest number
    → IsLonger (suffixes ++ more) letter rest number
IsLonger-append suffixes more letter rest number is =
    let pair : ℕ × ℕ = (letter, rest) in
    let within = slice_get_within suffixes is.place pair is.stored in
    let long = length-append suffixes more in
    record {
      place = is.place;
      follows = is.follows;
      stored = slice_get_read (suffixes ++ more) (length (suffixes ++ more)) is.place pair refl (omega (arith, within, long))
          (sym (get_or_append_left suffixes more pair is.place within ∙ get_or_from_slice_get suffixes is.place pair pair is.stored));
    }

-- a word that had a number
pub StandsFor-append : (suffixes more : List (ℕ × ℕ)) (word : List ℕ) (number : ℕ) → StandsFor suffixes number word → StandsFor (suffixes ++ more) number word
StandsFor-append suffixes more [] number stands = stands
StandsFor-append suffixes more (letter ∷ word) number (rest, longer, stands) =
    (rest, IsLonger-append suffixes more letter rest number longer, StandsFor-append suffixes more word rest stands)

-- what is stored at a place is a suffix with the number after it
pub IsLonger-stored : (suffixes : List (ℕ × ℕ)) (letter rest place : ℕ) → (pair : ℕ × ℕ) × (slice_get suffixes place ≡ Some pair) × ((nat_eq letter pair.0 && nat_eq rest pair.1) ≡ true)
    → IsLonger suffixes letter rest (place + 1)
IsLonger-stored suffixes letter rest place (pair, at, same) =
    record { place = place; follows = refl; stored = at ∙ ap Some (same_pair letter rest pair same) }

-- a key that is put in leaves the keys before
pub keys_go_on : (old new : List (ℕ × ℕ)) (pair : ℕ × ℕ) (b : Bool) → new ≡ (if b then old else old ++ pair ∷ []) → (more : List (ℕ × ℕ)) × (new ≡ old ++ more)
keys_go_on old new pair true e = ([], e ∙ sym (append-nil old))
keys_go_on old new pair false e = (pair ∷ [], e)

-- a word of one letter more has the number of what is stored with its first letter
pub StandsFor-longer : (old new more : List (ℕ × ℕ)) (letter rest place : ℕ) (word : List ℕ) → new ≡ old ++ more → StandsFor old rest word
    → (pair : ℕ × ℕ) × (slice_get new place ≡ Some pair) × ((nat_eq letter pair.0 && nat_eq rest pair.1) ≡ true) → StandsFor new (place + 1) (letter ∷ word)
StandsFor-longer old new more letter rest place word e stands stored =
    (rest, IsLonger-stored new letter rest place stored, subst (λ (keys : List (ℕ × ℕ)). StandsFor keys rest word) (sym e) (StandsFor-append old more word rest stands))

-- a word has the number of what is stored with its first letter and the number of the rest
pub StandsFor-first : (old new : List (ℕ × ℕ)) (letter rest place : ℕ) (b : Bool) (word : List ℕ) → new ≡ (if b then old else old ++ (letter, rest) ∷ [])
    → 1 ≤ length word → letter ≡ get_or word 0 letter → StandsFor old rest (take (length word - 1) (drop 1 word))
    → (pair : ℕ × ℕ) × (slice_get new place ≡ Some pair) × ((nat_eq letter pair.0 && nat_eq rest pair.1) ≡ true) → StandsFor new (place + 1) word
StandsFor-first old new letter rest place b [] keys some first stands stored = absurd (omega (arith, some))
StandsFor-first old new letter rest place b (head ∷ word) keys some first stands stored =
    let (more, e) = keys_go_on old new (letter, rest) b keys in
    let after : StandsFor old rest word = subst (StandsFor old rest) (take_rest (head ∷ word) 1) stands in
    subst (λ (l : ℕ). StandsFor new (place + 1) (l ∷ word)) first (StandsFor-longer old new more letter rest place word e after stored)

-- a number stands for one word at most
pub stands_for_one : (suffixes : List (ℕ × ℕ)) (one other : List ℕ) (number : ℕ) → StandsFor suffixes number one → StandsFor suffixes number other → one ≡ other
stands_for_one suffixes [] [] number here there = refl
stands_for_one suffixes [] (letter ∷ word) number here there =
    let after = there.1.follows in
    absurd (omega (arith, here, after))
stands_for_one suffixes (letter ∷ word) [] number here there =
    let after = here.1.follows in
    absurd (omega (arith, there, after))
stands_for_one suffixes (letter ∷ word) (head ∷ tail) number here there =
    let after = here.1.follows in
    let other_after = there.1.follows in
    let place : here.1.place ≡ there.1.place = omega (arith, after, other_after) in
    let pair : ℕ × ℕ = (letter, here.0) in
    let stored = get_or_from_slice_get suffixes here.1.place pair pair here.1.stored in
    let other_stored = get_or_from_slice_get suffixes there.1.place (head, there.0) pair there.1.stored in
    let same : pair ≡ (head, there.0) = sym stored ∙ ap (λ (n : ℕ). get_or suffixes n pair) place ∙ other_stored in
    let rest : here.0 ≡ there.0 = ap (λ (p : ℕ × ℕ). p.1) same in
    let words : word ≡ tail = stands_for_one suffixes word tail here.0 here.2 (subst (λ (n : ℕ). StandsFor suffixes n tail) (sym rest) there.2) in
    λ i. (same i).0 ∷ words i

-- one rule more
pub AreNumbers-push : (most : ℕ) (old new : List (ℕ × ℕ)) (rules : List Rule) (rule : Rule) (numbers : List ℕ) (number : ℕ) → AreNumbers old rules numbers → AddsSuffixes most old new
    → number ≤ length new → StandsFor new number rule.u → AreNumbers new (rules ++ rule ∷ []) (numbers ++ number ∷ [])
AreNumbers-push most old new rules rule numbers number are adds low stands =
    let count = are.count in
    let rules_long = length_push rules rule in
    let long = length_push numbers number in
    let more_long = length-append old adds.more in
    let new_long : length new ≡ length (old ++ adds.more) = ap (λ (keys : List (ℕ × ℕ)). length keys) adds.is in
    record {
      count = omega (arith, count, rules_long, long);
      low = λ k within. elim (cases_lt k (length numbers)) [
        | inl l ↦
            let before = are.low k l in
            let here = get_or_append_left numbers (number ∷ []) 0 k l in
            omega (arith, before, here, more_long, new_long)
        | inr g ↦
            let last : length numbers ≡ k = omega (arith, g, within, long) in
            let here = get_or_push numbers number 0 k last in
            omega (arith, here, low)
      ];
      each = λ k none within. elim (cases_lt k (length numbers)) [
        | inl l ↦
            let here = get_or_append_left numbers (number ∷ []) 0 k l in
            let rule_here : get_or (rules ++ rule ∷ []) k none ≡ get_or rules k none = get_or_append_left rules (rule ∷ []) none k (omega (arith, l, count)) in
            let grown : StandsFor new (get_or numbers k 0) (get_or rules k none).u = subst (λ (keys : List (ℕ × ℕ)). StandsFor keys (get_or numbers k 0) (get_or rules k none).u) (sym adds.is) (StandsFor-append old adds.more (get_or rules k none).u (get_or numbers k 0) (are.each k none l)) in
            subst (λ (n : ℕ). StandsFor new n (get_or (rules ++ rule ∷ []) k none).u) (sym here)
            (subst (λ (r : Rule). StandsFor new (get_or numbers k 0) r.u) (sym rule_here) grown)
        | inr g ↦
            let last : length numbers ≡ k = omega (arith, g, within, long) in
            let here = get_or_push numbers number 0 k last in
            let rule_here = get_or_push rules rule none k (sym count ∙ last) in
            subst (λ (n : ℕ). StandsFor new n (get_or (rules ++ rule ∷ []) k none).u) (sym here) (subst (λ (r : Rule). StandsFor new number r.u) (sym rule_here) stands)
      ];
    }
