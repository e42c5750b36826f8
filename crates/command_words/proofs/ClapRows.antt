-- What is found under an id: one more value where the id gets one, and the same where another id does.
use Rattle.std.proofs.Common.{◌≡◌, Bool, true, false, List, [], ◌∷◌, ◌++◌, Option, Some, None, refl, sym, ap, ◌∙◌}
use Rattle.std.specs.Str.{bytes_eq}
use Rattle.std.proofs.lemmas.Slice.Eq.{bytes_eq-Decides}
use Rattle.clap.specs.Walk.{Row, Text, with_values}
use Rattle.clap.specs.declared.builder.value_parser.Reading.{Reading}
use Rattle.clap.specs.declared.parser.matches.ValueSource.{ValueSource}
use Rattle.command_words.specs.ClapLine.{values_of_id}

values_in : Option Row → List Text
values_in None = []
values_in (Some r) = r.values

pub found_own : (rows : List Row) (id : Text) (how : Reading) (source : ValueSource) (values : List Text)
    → values_of_id id (with_values id how source values rows) ≡ values_of_id id rows ++ values
found_own [] id how source values = rw ((bytes_eq-Decides id id).1 refl) refl
found_own (r ∷ rows) id how source values = go (bytes_eq r.id id) refl (found_own rows id how source values)
  where
    go : (b : Bool) → bytes_eq r.id id ≡ b → values_of_id id (with_values id how source values rows) ≡ values_of_id id rows ++ values
        → values_of_id id (with_values id how source values (r ∷ rows)) ≡ values_of_id id (r ∷ rows) ++ values
    go true e more = rw (e, e) refl
    go false e more = rw (e, e) more

pub found_other : (rows : List Row) (id other : Text) (how : Reading) (source : ValueSource) (values : List Text) → bytes_eq id other ≡ false
    → values_of_id other (with_values id how source values rows) ≡ values_of_id other rows
found_other [] id other how source values apart = rw apart refl
found_other (r ∷ rows) id other how source values apart = go (bytes_eq r.id id) (bytes_eq r.id other) refl refl (found_other rows id other how source values apart)
  where
    go : (a b : Bool) → bytes_eq r.id id ≡ a → bytes_eq r.id other ≡ b
        → values_of_id other (with_values id how source values rows) ≡ values_of_id other rows
        → values_of_id other (with_values id how source values (r ∷ rows)) ≡ values_of_id other (r ∷ rows)
    go true true e f more =
        let same : r.id ≡ id = (bytes_eq-Decides r.id id).0 e in
        let bad : true ≡ false = sym f ∙ ap (λ i. bytes_eq i other) same ∙ apart in absurd (cc (bad))
    go true false e f more = rw (e, f) refl
    go false true e f more = rw (e, f) refl
    go false false e f more = rw (e, f) more
