-- Two lists place by place: put after others, with one element changed, at one place. So for the replies that were found: at first there
-- is no reply, then one more is found, and others are put beside them.
use Rattle.std.proofs.Common.{◌≡◌, ℕ, zero, suc, ◌+◌, ◌<◌, List, Vec, Global, Option, Some, None, [], ◌∷◌, ◌++◌, length, get_or, slice_set, take, sym, ap, ◌∙◌, subst, refl, arith, add-one}
use Rattle.std.specs.List.{AllZip}
use Rattle.std.specs.Option.{option_or}
use Rattle.std.proofs.Math.Seq.{take-suc}
use Rattle.std.proofs.lemmas.Option.{same_Some}
use Rattle.lexicon_definitions.specs.Lexicons.{Lexicon}
use Rattle.batch_reader.specs.Replies.{IsReplyTo, IsFound, AreFound}
use Rattle.batch_reader.specs.declared.asked.Asked.{Asked}

module _ {A B : Type 0} (R : A → B → Type 0) where
  pub zip_together : (front back : List A) (earlier later : List B) → AllZip R front earlier → AllZip R back later → AllZip R (front ++ back) (earlier ++ later)
  zip_together [] back [] later holds rest = rest
  zip_together [] back (y ∷ earlier) later holds rest = absurd holds
  zip_together (x ∷ front) back [] later holds rest = absurd holds
  zip_together (x ∷ front) back (y ∷ earlier) later holds rest = (holds.0, zip_together front back earlier later holds.1 rest)

  -- one element more of each
  pub zip_next : (xs : List A) (place : ℕ) (x : A) (ys : List B) (y : B) → place < length xs → x ≡ get_or xs place x → AllZip R (take place xs) ys
      → R x y → AllZip R (take (place + 1) xs) (ys ++ (y ∷ []))
  zip_next xs place x ys y low same holds here =
      subst (λ whole. AllZip R whole (ys ++ (y ∷ []))) front (zip_together (take place xs) (x ∷ []) ys (y ∷ []) holds (here, tt))
    where
      front : take place xs ++ (x ∷ []) ≡ take (place + 1) xs
      front = ap (λ (last : A). take place xs ++ (last ∷ [])) same ∙ sym (take-suc xs place x low) ∙ ap (λ (n : ℕ). take n xs) (sym (add-one place))

  zip_set : (xs : List A) (ys : List B) (place : ℕ) (x : A) (y : B) → AllZip R xs ys → place < length xs → R (get_or xs place x) y → AllZip R xs (slice_set ys place y)
  zip_set [] ys place x y holds low here = absurd (omega (arith, low))
  zip_set (first ∷ xs) [] place x y holds low here = absurd holds
  zip_set (first ∷ xs) (old ∷ ys) zero x y holds low here = (here, holds.1)
  zip_set (first ∷ xs) (old ∷ ys) (suc place) x y holds low here = (holds.0, zip_set xs ys place x y holds.1 (omega (arith, low)) here)

  zip_at : (xs : List A) (ys : List B) (place : ℕ) (x : A) (y : B) → AllZip R xs ys → place < length xs → R (get_or xs place x) (get_or ys place y)
  zip_at [] ys place x y holds low = absurd (omega (arith, low))
  zip_at (first ∷ xs) [] place x y holds low = absurd holds
  zip_at (first ∷ xs) (old ∷ ys) zero x y holds low = holds.0
  zip_at (first ∷ xs) (old ∷ ys) (suc place) x y holds low = zip_at xs ys place x y holds.1 (omega (arith, low))

  pub zip_length : (xs : List A) (ys : List B) → AllZip R xs ys → length ys ≡ length xs
  zip_length [] [] holds = refl
  zip_length [] (y ∷ ys) holds = absurd holds
  zip_length (x ∷ xs) [] holds = absurd holds
  zip_length (x ∷ xs) (y ∷ ys) holds = ap suc (zip_length xs ys holds.1)

-- there is a first one where there is one at a place
pub first_one : (asked : List Asked) (place : ℕ) → place < length asked → Asked
first_one [] place low = absurd (omega (arith, low))
first_one (first ∷ asked) place low = first

module _ (lexicon : Lexicon) (count : ℕ) (asked : List Asked) where
  -- one place more, where nothing was found
  pub none_more : (place : ℕ) (one : Asked) (before : List (Option (Vec ℕ Global))) → place < length asked → one ≡ get_or asked place one
      → AreFound lexicon count (take place asked) before → AreFound lexicon count (take (place + 1) asked) (before ++ (None ∷ []))
  none_more place one before low same found =
      zip_next (IsFound lexicon count) asked place one before None low same found (λ text none. absurd (cc (none)))

  -- a reply is found
  pub one_found : (found : List (Option (Vec ℕ Global))) (place : ℕ) (one : Asked) (text : Vec ℕ Global) → AreFound lexicon count asked found
      → place < length asked → IsReplyTo lexicon count (get_or asked place one) text.items → AreFound lexicon count asked (slice_set found place (Some text))
  one_found found place one text are low reply =
      zip_set (IsFound lexicon count) asked found place one (Some text) are low
      (λ other same. subst (λ (t : Vec ℕ Global). IsReplyTo lexicon count (get_or asked place one) t.items) (same_Some text other same) reply)

  -- nothing is left at a place
  pub taken_out : (found : List (Option (Vec ℕ Global))) (place : ℕ) (one : Asked) → AreFound lexicon count asked found → place < length asked
      → AreFound lexicon count asked (slice_set found place None)
  taken_out found place one are low = zip_set (IsFound lexicon count) asked found place one None are low (λ text none. absurd (cc (none)))

  either : (one : Asked) (own other : Option (Vec ℕ Global)) → IsFound lexicon count one own → IsFound lexicon count one other → IsFound lexicon count one (option_or own other)
  either one None other own_is other_is = other_is
  either one (Some text) other own_is other_is = own_is

  -- what was found at a place in one of two lists, where it was taken out
  pub either_found : (found others : List (Option (Vec ℕ Global))) (place : ℕ) → AreFound lexicon count asked found → AreFound lexicon count asked others
      → place < length asked → AreFound lexicon count asked (slice_set (slice_set found place None) place (option_or (get_or found place None) (get_or others place None)))
  either_found found others place are other low =
      let one = first_one asked place low in
      zip_set (IsFound lexicon count) asked (slice_set found place None) place one (option_or (get_or found place None) (get_or others place None))
      (taken_out found place one are low) low
      (either (get_or asked place one) (get_or found place None) (get_or others place None)
      (zip_at (IsFound lexicon count) asked found place one None are low) (zip_at (IsFound lexicon count) asked others place one None other low))

  -- what was found at a place is the reply
  pub reply_found : (found : List (Option (Vec ℕ Global))) (place : ℕ) (one : Asked) (text : Vec ℕ Global) → AreFound lexicon count asked found
      → place < length asked → get_or found place None ≡ Some text → IsReplyTo lexicon count (get_or asked place one) text.items
  reply_found found place one text are low is = zip_at (IsFound lexicon count) asked found place one None are low text is
