-- Parts that are appended one after another, and are not empty, are joined by `,`: by induction on the parts so far.
use Rattle.std.proofs.Common.{◌≡◌, ℕ, ◌+◌, ◌<◌, List, [], ◌∷◌, ◌++◌, length, get_or, take, map, refl, sym, ◌∙◌, ap, arith, append_assoc}
use Rattle.std.specs.List.{AllByRecursion, join_with_byte}
use Rattle.std.proofs.lemmas.List.{map-append, take_more}
use Rattle.derivation.specs.declared.step.Key.{Key as ProgramKey}
use Rattle.derivation.specs.Steps.{key_meant, keys_meant}
use Rattle.bookmark_definitions.specs.BookmarkTexts.{text_of_key}
use Rattle.bookmark_definitions.proofs.WrittenParts.{key_some}
use Rattle.bookmarks.specs.Parts.{with_part}
use Rattle.bookmark_definitions.proofs.JoinedTexts.{some_joined}

part_after : (list part : List ℕ) → 0 < length list → with_part list part ≡ list ++ 44 ∷ part
part_after [] part some = absurd (omega (arith, some))
part_after (byte ∷ list) part some = refl

joined_on : (first : List ℕ) (parts : List (List ℕ)) (part : List ℕ)
    → join_with_byte 44 (first ∷ parts) ++ 44 ∷ part ≡ join_with_byte 44 (first ∷ parts ++ part ∷ [])
joined_on first [] part = refl
joined_on first (next ∷ parts) part =
    append_assoc first (44 ∷ join_with_byte 44 (next ∷ parts)) (44 ∷ part)
    ∙ ap (λ (rest : List ℕ). first ++ 44 ∷ rest) (joined_on next parts part)

pub joined_more : (parts : List (List ℕ)) (part : List ℕ) → AllByRecursion (λ text. 0 < length text) parts
    → with_part (join_with_byte 44 parts) part ≡ join_with_byte 44 (parts ++ part ∷ [])
joined_more [] part some = refl
joined_more (first ∷ parts) part some =
    part_after (join_with_byte 44 (first ∷ parts)) part (some_joined first parts some.0) ∙ joined_on first parts part

module _ {X : Type 0} (text_of : X → List ℕ) (some : (x : X) → 0 < length (text_of x)) where
  all_some : (xs : List X) → AllByRecursion (λ text. 0 < length text) (map text_of xs)
  all_some [] = tt
  all_some (x ∷ xs) = (some x, all_some xs)

  -- one more of a list is printed
  pub part_printed : (xs : List X) (at : ℕ) (x d : X) (old new part : List ℕ) → at < length xs → x ≡ get_or xs at d → old ≡ join_with_byte 44 (map text_of (take at xs))
      → part ≡ text_of x → new ≡ with_part old part → new ≡ join_with_byte 44 (map text_of (take (at + 1) xs))
  part_printed xs at x d old new part inside is old_is part_is new_is =
      let taken : take (at + 1) xs ≡ take at xs ++ x ∷ [] = take_more xs at d inside ∙ (λ i. take at xs ++ sym is i ∷ []) in
      let texts : map text_of (take (at + 1) xs) ≡ map text_of (take at xs) ++ text_of x ∷ [] =
      ap (map text_of) taken ∙ map-append text_of (take at xs) (x ∷ []) in
      new_is ∙ (λ i. with_part (old_is i) (part_is i)) ∙ joined_more (map text_of (take at xs)) (text_of x) (all_some (take at xs))
      ∙ ap (join_with_byte 44) (sym texts)

-- the texts of keys are those of what the keys stand for
pub texts_of_keys : (keys : List ProgramKey) → map text_of_key (keys_meant keys) ≡ map (λ key. text_of_key (key_meant key)) keys
texts_of_keys [] = refl
texts_of_keys (key ∷ keys) = ap (λ (texts : List (List ℕ)). text_of_key (key_meant key) ∷ texts) (texts_of_keys keys)

-- one key more is printed
pub key_printed : (keys : List ProgramKey) (at : ℕ) (key d : ProgramKey) (old new part : List ℕ) → at < length keys → key ≡ get_or keys at d
    → old ≡ join_with_byte 44 (map text_of_key (keys_meant (take at keys))) → part ≡ text_of_key (key_meant key) → new ≡ with_part old part
    → new ≡ join_with_byte 44 (map text_of_key (keys_meant (take (at + 1) keys)))
key_printed keys at key d old new part inside is old_is part_is new_is =
    part_printed (λ key. text_of_key (key_meant key)) (λ key. key_some (key_meant key)) keys at key d old new part inside is
    (old_is ∙ ap (join_with_byte 44) (texts_of_keys (take at keys))) part_is new_is
    ∙ ap (join_with_byte 44) (sym (texts_of_keys (take (at + 1) keys)))
