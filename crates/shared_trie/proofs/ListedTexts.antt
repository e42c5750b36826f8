-- What is appended one after another with commas between: one text more comes after a comma.
use Rattle.std.proofs.Common.{◌≡◌, ℕ, suc, ◌+◌, ◌<◌, ◌≤◌, List, [], ◌∷◌, ◌++◌, length, map, take, get_or, refl, sym, ◌∙◌, ap, subst, add-one, arith}
use Rattle.std.specs.Prelude.{All, Contains}
use Rattle.std.specs.List.{join_with_byte}
use Rattle.std.proofs.lemmas.List.{append_assoc, map_push, take_all, take_more}
use Rattle.std.proofs.lemmas.List.Elements.{All-nil, All-push}
use Rattle.list_laws.proofs.Sorted.{Contains-later}
use Rattle.trie_text_definitions.specs.NodeLines.{listed}

-- one text more
joined_push : (first : List ℕ) (texts : List (List ℕ)) (text : List ℕ)
    → join_with_byte 44 (first ∷ texts ++ text ∷ []) ≡ join_with_byte 44 (first ∷ texts) ++ 44 ∷ text
joined_push first [] text = refl
joined_push first (next ∷ texts) text =
    ap (λ (rest : List ℕ). first ++ 44 ∷ rest) (joined_push next texts text) ∙ sym (append_assoc first (44 ∷ join_with_byte 44 (next ∷ texts)) (44 ∷ text))

-- one of those after the first is there
pub other_there : {X : Type 0} (all others : List X) (first : X) (place : ℕ) (x : X) → all ≡ first ∷ others → place < length others → x ≡ get_or others place x → Contains all x
other_there {X} all others first place x e below here =
    subst (λ (xs : List X). Contains xs x) (sym e) (Contains-later first others x (place, below, sym here))

module _ {X Y : Type 0} (view : X → Y) (write : Y → List ℕ) (P : Y → Type 0) where
  -- the texts of these were appended, and each has the property
  pub record AreListed (old out : List ℕ) (xs : List X) : Type 0 where
    pub text : out ≡ old ++ listed (map write (map view xs))
    pub each : All P (map view xs)

  more : (old out new : List ℕ) (first : X) (xs : List X) (x : X) → AreListed old out (first ∷ xs) → new ≡ (out ++ 44 ∷ []) ++ write (view x) → P (view x)
      → AreListed old new (first ∷ xs ++ x ∷ [])
  more old out new first xs x is e p =
      let texts = map write (map view xs) in
      let all : map view (xs ++ x ∷ []) ≡ map view xs ++ view x ∷ [] = map_push view xs x in
      let all_texts : map write (map view (xs ++ x ∷ [])) ≡ texts ++ write (view x) ∷ [] = ap (map write) all ∙ map_push write (map view xs) (view x) in
      record {
        text =
            e ∙ append_assoc out (44 ∷ []) (write (view x)) ∙ ap (λ (text : List ℕ). text ++ 44 ∷ write (view x)) is.text
            ∙ append_assoc old (listed (write (view first) ∷ texts)) (44 ∷ write (view x))
            ∙ ap (λ (text : List ℕ). old ++ text) (sym (joined_push (write (view first)) texts (write (view x))))
            ∙ ap (λ (ts : List (List ℕ)). old ++ listed (write (view first) ∷ ts)) (sym all_texts);
        each = subst (λ (ys : List Y). All P (view first ∷ ys)) (sym all) (All-push P (view first ∷ map view xs) (view x) is.each p);
      }

  pub listed_more : (old out new : List ℕ) (all others : List X) (first : X) (place : ℕ) (x : X) → all ≡ first ∷ others → place < length others → x ≡ get_or others place x
      → AreListed old out (take (place + 1) all) → new ≡ (out ++ 44 ∷ []) ++ write (view x) → P (view x) → AreListed old new (take (place + 1 + 1) all)
  listed_more old out new all others first place x e below here is wrote p =
      let front : take (place + 1) all ≡ first ∷ take place others = rw add-one (ap (take (suc place)) e) in
      let next : take (place + 1 + 1) all ≡ first ∷ take place others ++ x ∷ [] =
      rw add-one (ap (take (suc (place + 1))) e ∙ ap (◌∷◌ first) (take_more others place x below ∙ ap (λ (y : X). take place others ++ y ∷ []) (sym here))) in
      subst (AreListed old new) (sym next) (more old out new first (take place others) x (subst (AreListed old out) front is) wrote p)

  -- the first text
  pub listed_first : (old out : List ℕ) (all others : List X) (first : X) → all ≡ first ∷ others → out ≡ old ++ write (view first) → P (view first) → AreListed old out (take (0 + 1) all)
  listed_first old out all others first e wrote p =
      let front : take (0 + 1) all ≡ first ∷ [] = ap (take 1) e in
      subst (AreListed old out) (sym front) record { text = wrote; each = All-push P [] (view first) (All-nil P) p }

  -- no text is left
  pub listed_whole : (old out : List ℕ) (all others : List X) (first : X) (place : ℕ) → all ≡ first ∷ others → length others ≤ place → AreListed old out (take (place + 1) all) → AreListed old out all
  listed_whole old out all others first place e low is =
      let size = ap length e in subst (AreListed old out) (take_all (place + 1) all (omega (arith, size, low))) is
