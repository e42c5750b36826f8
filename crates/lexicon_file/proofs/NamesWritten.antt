-- Names one after another with commas between: the first stands alone, and each later one after a comma.
use Rattle.std.proofs.Common.{◌≡◌, ℕ, ◌+◌, ◌<◌, Bool, true, false, if◌then◌else◌, List, [], ◌∷◌, ◌++◌, length, map, drop, get_or, refl, sym, ◌∙◌, ap, add-one}
use Rattle.std.specs.List.{flat_map, join_with_byte}
use Rattle.std.proofs.lemmas.List.{append_assoc, append-nil}
use Rattle.std.proofs.Math.Seq.{drop-cons}
use Rattle.trie_text_definitions.specs.LimitedRules.{has_phase, names_from}

-- what is left to write, where no name was written yet, or some
abbrev pub left_to_write : Bool → List (List ℕ) → List ℕ
left_to_write true names = join_with_byte 44 names
left_to_write false names = flat_map (λ name. 44 ∷ name) names

-- a comma before each name after the first
joined : (name : List ℕ) (names : List (List ℕ)) → join_with_byte 44 (name ∷ names) ≡ name ++ left_to_write false names
joined name [] = sym (append-nil name)
joined name (next ∷ names) = ap (λ (rest : List ℕ). name ++ 44 ∷ rest) (joined next names)

-- one name is written
one_name : (is_first : Bool) (name : List ℕ) (names : List (List ℕ)) (old new : List ℕ)
    → (is_first ≡ true → new ≡ old ++ name) → (is_first ≡ false → new ≡ (old ++ 44 ∷ []) ++ name)
    → new ++ left_to_write false names ≡ old ++ left_to_write is_first (name ∷ names)
one_name true name names old new first later =
    ap (λ (text : List ℕ). text ++ left_to_write false names) (first refl) ∙ append_assoc old name (left_to_write false names)
    ∙ ap (λ (text : List ℕ). old ++ text) (sym (joined name names))
one_name false name names old new first later =
    ap (λ (text : List ℕ). text ++ left_to_write false names) (later refl) ∙ append_assoc (old ++ 44 ∷ []) name (left_to_write false names)
    ∙ append_assoc old (44 ∷ []) (name ++ left_to_write false names)

-- the first of those that are left
pub first_left : {X : Type 0} (xs : List X) (place : ℕ) (x : X) → place < length xs → x ≡ get_or xs place x → drop place xs ≡ x ∷ drop (place + 1) xs
first_left xs place x within this = rw add-one (drop-cons xs place x within) ∙ ap (λ first. first ∷ drop (place + 1) xs) (sym this)

-- the name of a phase in the set is written
pub name_pushed : {X : Type 0} (bytes : X → List ℕ) (is_first : Bool) (phases phase : ℕ) (names : List X) (name : X) (text old new all : List ℕ)
    → phase < length names → name ≡ get_or names phase name → has_phase phases phase ≡ true → text ≡ bytes name
    → (is_first ≡ true → new ≡ old ++ text) → (is_first ≡ false → new ≡ (old ++ 44 ∷ []) ++ text)
    → old ++ left_to_write is_first (names_from phases phase (map bytes (drop phase names))) ≡ all
    → new ++ left_to_write false (names_from phases (phase + 1) (map bytes (drop (phase + 1) names))) ≡ all
name_pushed {X} bytes is_first phases phase names name text old new all within this has same first later left =
    let rest = names_from phases (phase + 1) (map bytes (drop (phase + 1) names)) in
    let there : names_from phases phase (map bytes (drop phase names)) ≡ bytes name ∷ rest =
    ap (λ (xs : List X). names_from phases phase (map bytes xs)) (first_left names phase name within this)
    ∙ ap (λ (b : Bool). if b then bytes name ∷ rest else rest) has in
    one_name is_first text rest old new first later
    ∙ ap (λ (t : List ℕ). old ++ left_to_write is_first (t ∷ rest)) same
    ∙ ap (λ (ts : List (List ℕ)). old ++ left_to_write is_first ts) (sym there) ∙ left
