-- What is written piece by piece.
use Rattle.std.proofs.Common.{◌≡◌, ℕ, ◌+◌, ◌<◌, List, [], ◌∷◌, ◌++◌, length, drop, map, get_or, Option, Some, None, Vec, Global, refl, sym, ◌∙◌, ap, subst, append_assoc, append-nil, drop-cons, suc, add-one}
use Rattle.std.specs.List.{concat}
use Rattle.outside.specs.Told.{bytes_after, GrowsByPrefix}
use Rattle.outside.proofs.ToldLemmas.{bytes_after-bytes_after, GrowsByPrefix-after, GrowsByPrefix-more}

-- of all these bytes some were written, and the rest is to come
pub record HasWrittenSoFar (old now : Option (List ℕ)) (all rest : List ℕ) : Type 0 where
  pub written : List ℕ
  pub wrote : now ≡ bytes_after old written
  pub whole : all ≡ written ++ rest

-- the bytes of the pieces from this place on
abbrev pub bytes_from : ℕ → List (Vec ℕ Global) → List ℕ
bytes_from place pieces = concat (map (λ piece. piece.items) (drop place pieces))

module _ (old : Option (List ℕ)) (all : List ℕ) where
  -- nothing was
  pub none_written : HasWrittenSoFar old old all all
  none_written = record { written = []; wrote = nothing_more old; whole = refl }
    where
      nothing_more : (told : Option (List ℕ)) → told ≡ bytes_after told []
      nothing_more None = refl
      nothing_more (Some told) = ap Some (sym (append-nil told))

  -- all was
  pub all_written : (now : Option (List ℕ)) (rest : List ℕ) → HasWrittenSoFar old now all rest → rest ≡ [] → now ≡ bytes_after old all
  all_written now rest p none =
      p.wrote ∙ ap (bytes_after old) (sym (p.whole ∙ ap (λ (b : List ℕ). p.written ++ b) none ∙ append-nil p.written))

  module _ (now : Option (List ℕ)) (place : ℕ) (pieces : List (Vec ℕ Global)) (piece : Vec ℕ Global) (low : place < length pieces)
      (same : piece ≡ get_or pieces place piece) (p : HasWrittenSoFar old now all (bytes_from place pieces)) where
    rest_is : bytes_from place pieces ≡ piece.items ++ bytes_from (place + 1) pieces
    rest_is = ap (λ (ps : List (Vec ℕ Global)). concat (map (λ (one : Vec ℕ Global). one.items) ps)) cut
      where
        cut : drop place pieces ≡ piece ∷ drop (place + 1) pieces
        cut = rw add-one (drop-cons pieces place piece low ∙ ap (λ (x : Vec ℕ Global). x ∷ drop (suc place) pieces) (sym same))

    -- the next piece is written
    pub piece_written : (new : Option (List ℕ)) → new ≡ bytes_after now piece.items → HasWrittenSoFar old new all (bytes_from (place + 1) pieces)
    piece_written new wrote = record {
      written = p.written ++ piece.items;
      wrote =
          wrote ∙ ap (λ (told : Option (List ℕ)). bytes_after told piece.items) p.wrote ∙ bytes_after-bytes_after old p.written piece.items;
      whole =
          p.whole
          ∙ ap (λ (b : List ℕ). p.written ++ b) rest_is
          ∙ sym (append_assoc p.written piece.items (bytes_from (place + 1) pieces));
    }

    -- it stops while the next piece is written
    pub stopped_in_piece : (new : Option (List ℕ)) → GrowsByPrefix now new piece.items → GrowsByPrefix old new all
    stopped_in_piece new grown =
        subst (GrowsByPrefix old new) (sym (p.whole ∙ ap (λ (b : List ℕ). p.written ++ b) rest_is))
        (GrowsByPrefix-after old now new p.written (piece.items ++ bytes_from (place + 1) pieces) p.wrote
        (GrowsByPrefix-more now new piece.items (bytes_from (place + 1) pieces) grown))
