-- The fields of an entry, cut by cut: a text that is split at its blanks is cut at the first, and what comes after it is split.
use Rattle.std.proofs.Common.{◌≡◌, ℕ, Bool, true, false, cond, eqb, Option, Some, None, is_some, List, [], ◌∷◌, refl, ◌∙◌, ap}
use Rattle.std.specs.List.{slice_split, onto_first}
use Rattle.list_laws.specs.Cuts.{before_parts, cut}
use Rattle.rule_file_definitions.specs.EntryPhases.{fields_with, fields_of}

abbrev at_blanks : List ℕ → List (List ℕ)
at_blanks text = slice_split (λ byte. eqb byte 32) text

-- the pieces of a text that is cut so at the first blank
abbrev pieces : List ℕ → Option (List ℕ × List ℕ) → List (List ℕ)
pieces text None = text ∷ []
pieces text (Some parts) = parts.0 ∷ at_blanks parts.1

onto_pieces : (byte : ℕ) (text : List ℕ) (found : Option (List ℕ × List ℕ)) → onto_first byte (pieces text found) ≡ pieces (byte ∷ text) (before_parts byte found)
onto_pieces byte text None = refl
onto_pieces byte text (Some parts) = refl

split_at : (byte : ℕ) (text : List ℕ) (test : Bool) → at_blanks text ≡ pieces text (cut 32 text)
    → cond test ([] ∷ at_blanks text) (onto_first byte (at_blanks text)) ≡ pieces (byte ∷ text) (cond test (Some ([], text)) (before_parts byte (cut 32 text)))
split_at byte text true e = refl
split_at byte text false e = ap (onto_first byte) e ∙ onto_pieces byte text (cut 32 text)

split : (text : List ℕ) → at_blanks text ≡ pieces text (cut 32 text)
split [] = refl
split (byte ∷ text) = split_at byte text (eqb byte 32) (split text)

split_as : (text : List ℕ) (found : Option (List ℕ × List ℕ)) → cut 32 text ≡ found → at_blanks text ≡ pieces text found
split_as text found e = split text ∙ ap (pieces text) e

-- four fields or more
more_by : (notation before after text : List ℕ) (found : Option (List ℕ × List ℕ)) → fields_with (notation ∷ before ∷ after ∷ pieces text found) ≡ None
more_by notation before after text None = refl
more_by notation before after text (Some parts) = refl

last_by : (notation before after : List ℕ) (found : Option (List ℕ × List ℕ)) (test : Bool) → is_some found ≡ test
    → fields_with (notation ∷ before ∷ pieces after found) ≡ cond test None (Some (record { notation = notation; limits = Some (before, after) }))
last_by notation before after None true e = absurd (cc)
last_by notation before after None false e = refl
last_by notation before after (Some parts) true e =
    ap (λ more. fields_with (notation ∷ before ∷ parts.0 ∷ more)) (split parts.1) ∙ more_by notation before parts.0 parts.1 (cut 32 parts.1)
last_by notation before after (Some parts) false e = absurd (cc)

module _ (entry : List ℕ) where
  pub one_field : cut 32 entry ≡ None → fields_of entry ≡ Some (record { notation = entry; limits = None })
  unfolding fields_of
  one_field e = ap fields_with (split_as entry None e)

  pub two_fields : (notation rest : List ℕ) → cut 32 entry ≡ Some (notation, rest) → cut 32 rest ≡ None → fields_of entry ≡ None
  unfolding fields_of
  two_fields notation rest e f = ap fields_with (split_as entry _ e ∙ ap (◌∷◌ notation) (split_as rest _ f))

  pub three_fields : (notation rest before after : List ℕ) (test : Bool) → cut 32 entry ≡ Some (notation, rest) → cut 32 rest ≡ Some (before, after)
      → is_some (cut 32 after) ≡ test → fields_of entry ≡ cond test None (Some (record { notation = notation; limits = Some (before, after) }))
  unfolding fields_of
  three_fields notation rest before after test e f t =
      ap fields_with (split_as entry _ e ∙ ap (◌∷◌ notation) (split_as rest _ f ∙ ap (◌∷◌ before) (split after)))
      ∙ last_by notation before after (cut 32 after) test t
