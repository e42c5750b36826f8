-- What each mark of a text is in Latin letters: in the text before it is converted, and in the result. The check computes it, mark by mark.
use Rattle.std.proofs.Common.{◌≡◌, ℕ, ◌+◌, ◌<◌, Bool, true, false, List, [], ◌∷◌, ◌++◌, map, length, Option, Some, None, Ok, Err, cond, arith, refl}
use Rattle.std.specs.List.{AllByRecursion}
use Rattle.text_definitions.specs.LineTexts.{begins_with}
use Rattle.conversion_definitions.specs.AnySchemes.{AnyScheme}
use Rattle.conversion_definitions.specs.Marks.{Mark, latin_marks, devanagari_marks, marks_to_latin, marks_to_devanagari, marks_by, first_mark}
use Rattle.conversion_definitions.specs.Conversions.{parts_from}
use Rattle.conversion_definitions.proofs.MarkBytes.{mark_bytes}
use Rattle.conversion_laws.specs.Signs.{Byte, Signs, with_signs, signs_of_parts}

-- cut by this table, these bytes are read as the marks of these Latin bytes, whatever comes after them
abbrev pub AreRead : AnyScheme → List Mark → List ℕ → List ℕ → Type 0
AreRead scheme marks bytes latin =
    (place : ℕ) (rest : List ℕ) → (after : ℕ) × (signs_of_parts scheme (parts_from marks place 0 (bytes ++ rest)) ≡ with_signs (map Byte latin) (signs_of_parts scheme (parts_from marks after 0 rest)))

-- they begin with a mark of the table
abbrev pub Begin : List Mark → List ℕ → Type 0
Begin marks bytes = (rest : List ℕ) → (found : ℕ × List ℕ) × (first_mark marks (bytes ++ rest) ≡ Some found)

-- a mark and what it becomes are the same in Latin letters
pub record IsSame (from to : AnyScheme) (source result : List Mark) (mark : Mark) : Type 0 where
  pub latin : List ℕ
  pub source_read : AreRead from source mark.is latin
  pub source_begins : Begin source mark.is
  pub some : 0 < length mark.is
  pub result_read : AreRead to result mark.becomes latin
  pub result_begins : Begin result mark.becomes

twice : (x y : ℕ) (signs : Signs) → with_signs (Byte x ∷ []) (with_signs (Byte y ∷ []) signs) ≡ with_signs (Byte x ∷ Byte y ∷ []) signs
twice x y (Ok signs) = refl
twice x y (Err fault) = refl

latin_same : (from to : AnyScheme) → AllByRecursion (IsSame from to latin_marks latin_marks) latin_marks
unfolding mark_bytes
latin_same from to = (
  record { latin = 9 ∷ []; source_read = (λ p rest. (p + 1, refl)); source_begins = (λ rest. (_, refl)); some = omega arith; result_read = (λ p rest. (p + 1, refl)); result_begins = (λ rest. (_, refl)) },
  (
    record { latin = 10 ∷ []; source_read = (λ p rest. (p + 1, refl)); source_begins = (λ rest. (_, refl)); some = omega arith; result_read = (λ p rest. (p + 1, refl)); result_begins = (λ rest. (_, refl)) },
    (
      record { latin = 13 ∷ []; source_read = (λ p rest. (p + 1, refl)); source_begins = (λ rest. (_, refl)); some = omega arith; result_read = (λ p rest. (p + 1, refl)); result_begins = (λ rest. (_, refl)) },
      (
        record { latin = 32 ∷ []; source_read = (λ p rest. (p + 1, refl)); source_begins = (λ rest. (_, refl)); some = omega arith; result_read = (λ p rest. (p + 1, refl)); result_begins = (λ rest. (_, refl)) },
        (
          record { latin = 124 ∷ []; source_read = (λ p rest. (p + 1, refl)); source_begins = (λ rest. (_, refl)); some = omega arith; result_read = (λ p rest. (p + 1, refl)); result_begins = (λ rest. (_, refl)) },
          (
            record { latin = 48 ∷ []; source_read = (λ p rest. (p + 1, refl)); source_begins = (λ rest. (_, refl)); some = omega arith; result_read = (λ p rest. (p + 1, refl)); result_begins = (λ rest. (_, refl)) },
            (
              record { latin = 49 ∷ []; source_read = (λ p rest. (p + 1, refl)); source_begins = (λ rest. (_, refl)); some = omega arith; result_read = (λ p rest. (p + 1, refl)); result_begins = (λ rest. (_, refl)) },
              (
                record { latin = 50 ∷ []; source_read = (λ p rest. (p + 1, refl)); source_begins = (λ rest. (_, refl)); some = omega arith; result_read = (λ p rest. (p + 1, refl)); result_begins = (λ rest. (_, refl)) },
                (
                  record { latin = 51 ∷ []; source_read = (λ p rest. (p + 1, refl)); source_begins = (λ rest. (_, refl)); some = omega arith; result_read = (λ p rest. (p + 1, refl)); result_begins = (λ rest. (_, refl)) },
                  (
                    record { latin = 52 ∷ []; source_read = (λ p rest. (p + 1, refl)); source_begins = (λ rest. (_, refl)); some = omega arith; result_read = (λ p rest. (p + 1, refl)); result_begins = (λ rest. (_, refl)) },
                    (
                      record { latin = 53 ∷ []; source_read = (λ p rest. (p + 1, refl)); source_begins = (λ rest. (_, refl)); some = omega arith; result_read = (λ p rest. (p + 1, refl)); result_begins = (λ rest. (_, refl)) },
                      (
                        record { latin = 54 ∷ []; source_read = (λ p rest. (p + 1, refl)); source_begins = (λ rest. (_, refl)); some = omega arith; result_read = (λ p rest. (p + 1, refl)); result_begins = (λ rest. (_, refl)) },
                        (
                          record { latin = 55 ∷ []; source_read = (λ p rest. (p + 1, refl)); source_begins = (λ rest. (_, refl)); some = omega arith; result_read = (λ p rest. (p + 1, refl)); result_begins = (λ rest. (_, refl)) },
                          (
                            record { latin = 56 ∷ []; source_read = (λ p rest. (p + 1, refl)); source_begins = (λ rest. (_, refl)); some = omega arith; result_read = (λ p rest. (p + 1, refl)); result_begins = (λ rest. (_, refl)) },
                            (
                              record { latin = 57 ∷ []; source_read = (λ p rest. (p + 1, refl)); source_begins = (λ rest. (_, refl)); some = omega arith; result_read = (λ p rest. (p + 1, refl)); result_begins = (λ rest. (_, refl)) },
                              tt,
                            ),
                          ),
                        ),
                      ),
                    ),
                  ),
                ),
              ),
            ),
          ),
        ),
      ),
    ),
  ),
)

devanagari_same : (from to : AnyScheme) → AllByRecursion (IsSame from to marks_to_latin marks_to_latin) devanagari_marks
unfolding mark_bytes
devanagari_same from to = (
  record { latin = 9 ∷ []; source_read = (λ p rest. (p + 1, refl)); source_begins = (λ rest. (_, refl)); some = omega arith; result_read = (λ p rest. (p + 1, refl)); result_begins = (λ rest. (_, refl)) },
  (
    record { latin = 10 ∷ []; source_read = (λ p rest. (p + 1, refl)); source_begins = (λ rest. (_, refl)); some = omega arith; result_read = (λ p rest. (p + 1, refl)); result_begins = (λ rest. (_, refl)) },
    (
      record { latin = 13 ∷ []; source_read = (λ p rest. (p + 1, refl)); source_begins = (λ rest. (_, refl)); some = omega arith; result_read = (λ p rest. (p + 1, refl)); result_begins = (λ rest. (_, refl)) },
      (
        record { latin = 32 ∷ []; source_read = (λ p rest. (p + 1, refl)); source_begins = (λ rest. (_, refl)); some = omega arith; result_read = (λ p rest. (p + 1, refl)); result_begins = (λ rest. (_, refl)) },
        (
          record { latin = 124 ∷ []; source_read = (λ p rest. (p + 1, refl)); source_begins = (λ rest. (_, refl)); some = omega arith; result_read = (λ p rest. (p + 1, refl)); result_begins = (λ rest. (_, refl)) },
          (
            record { latin = 48 ∷ []; source_read = (λ p rest. (p + 1, refl)); source_begins = (λ rest. (_, refl)); some = omega arith; result_read = (λ p rest. (p + 1, refl)); result_begins = (λ rest. (_, refl)) },
            (
              record { latin = 49 ∷ []; source_read = (λ p rest. (p + 1, refl)); source_begins = (λ rest. (_, refl)); some = omega arith; result_read = (λ p rest. (p + 1, refl)); result_begins = (λ rest. (_, refl)) },
              (
                record { latin = 50 ∷ []; source_read = (λ p rest. (p + 1, refl)); source_begins = (λ rest. (_, refl)); some = omega arith; result_read = (λ p rest. (p + 1, refl)); result_begins = (λ rest. (_, refl)) },
                (
                  record { latin = 51 ∷ []; source_read = (λ p rest. (p + 1, refl)); source_begins = (λ rest. (_, refl)); some = omega arith; result_read = (λ p rest. (p + 1, refl)); result_begins = (λ rest. (_, refl)) },
                  (
                    record { latin = 52 ∷ []; source_read = (λ p rest. (p + 1, refl)); source_begins = (λ rest. (_, refl)); some = omega arith; result_read = (λ p rest. (p + 1, refl)); result_begins = (λ rest. (_, refl)) },
                    (
                      record { latin = 53 ∷ []; source_read = (λ p rest. (p + 1, refl)); source_begins = (λ rest. (_, refl)); some = omega arith; result_read = (λ p rest. (p + 1, refl)); result_begins = (λ rest. (_, refl)) },
                      (
                        record { latin = 54 ∷ []; source_read = (λ p rest. (p + 1, refl)); source_begins = (λ rest. (_, refl)); some = omega arith; result_read = (λ p rest. (p + 1, refl)); result_begins = (λ rest. (_, refl)) },
                        (
                          record { latin = 55 ∷ []; source_read = (λ p rest. (p + 1, refl)); source_begins = (λ rest. (_, refl)); some = omega arith; result_read = (λ p rest. (p + 1, refl)); result_begins = (λ rest. (_, refl)) },
                          (
                            record { latin = 56 ∷ []; source_read = (λ p rest. (p + 1, refl)); source_begins = (λ rest. (_, refl)); some = omega arith; result_read = (λ p rest. (p + 1, refl)); result_begins = (λ rest. (_, refl)) },
                            (
                              record { latin = 57 ∷ []; source_read = (λ p rest. (p + 1, refl)); source_begins = (λ rest. (_, refl)); some = omega arith; result_read = (λ p rest. (p + 1, refl)); result_begins = (λ rest. (_, refl)) },
                              (
                                record { latin = 124 ∷ []; source_read = (λ p rest. (p + 1 + 1 + 1, refl)); source_begins = (λ rest. (_, refl)); some = omega arith; result_read = (λ p rest. (p + 1 + 1 + 1, refl)); result_begins = (λ rest. (_, refl)) },
                                (
                                  record { latin = 124 ∷ 124 ∷ []; source_read = (λ p rest. (p + 1 + 1 + 1, refl)); source_begins = (λ rest. (_, refl)); some = omega arith; result_read = (λ p rest. (p + 1 + 1 + 1, refl)); result_begins = (λ rest. (_, refl)) },
                                  (
                                    record { latin = 48 ∷ []; source_read = (λ p rest. (p + 1 + 1 + 1, refl)); source_begins = (λ rest. (_, refl)); some = omega arith; result_read = (λ p rest. (p + 1 + 1 + 1, refl)); result_begins = (λ rest. (_, refl)) },
                                    (
                                      record { latin = 49 ∷ []; source_read = (λ p rest. (p + 1 + 1 + 1, refl)); source_begins = (λ rest. (_, refl)); some = omega arith; result_read = (λ p rest. (p + 1 + 1 + 1, refl)); result_begins = (λ rest. (_, refl)) },
                                      (
                                        record { latin = 50 ∷ []; source_read = (λ p rest. (p + 1 + 1 + 1, refl)); source_begins = (λ rest. (_, refl)); some = omega arith; result_read = (λ p rest. (p + 1 + 1 + 1, refl)); result_begins = (λ rest. (_, refl)) },
                                        (
                                          record { latin = 51 ∷ []; source_read = (λ p rest. (p + 1 + 1 + 1, refl)); source_begins = (λ rest. (_, refl)); some = omega arith; result_read = (λ p rest. (p + 1 + 1 + 1, refl)); result_begins = (λ rest. (_, refl)) },
                                          (
                                            record { latin = 52 ∷ []; source_read = (λ p rest. (p + 1 + 1 + 1, refl)); source_begins = (λ rest. (_, refl)); some = omega arith; result_read = (λ p rest. (p + 1 + 1 + 1, refl)); result_begins = (λ rest. (_, refl)) },
                                            (
                                              record { latin = 53 ∷ []; source_read = (λ p rest. (p + 1 + 1 + 1, refl)); source_begins = (λ rest. (_, refl)); some = omega arith; result_read = (λ p rest. (p + 1 + 1 + 1, refl)); result_begins = (λ rest. (_, refl)) },
                                              (
                                                record { latin = 54 ∷ []; source_read = (λ p rest. (p + 1 + 1 + 1, refl)); source_begins = (λ rest. (_, refl)); some = omega arith; result_read = (λ p rest. (p + 1 + 1 + 1, refl)); result_begins = (λ rest. (_, refl)) },
                                                (
                                                  record { latin = 55 ∷ []; source_read = (λ p rest. (p + 1 + 1 + 1, refl)); source_begins = (λ rest. (_, refl)); some = omega arith; result_read = (λ p rest. (p + 1 + 1 + 1, refl)); result_begins = (λ rest. (_, refl)) },
                                                  (
                                                    record { latin = 56 ∷ []; source_read = (λ p rest. (p + 1 + 1 + 1, refl)); source_begins = (λ rest. (_, refl)); some = omega arith; result_read = (λ p rest. (p + 1 + 1 + 1, refl)); result_begins = (λ rest. (_, refl)) },
                                                    (
                                                      record { latin = 57 ∷ []; source_read = (λ p rest. (p + 1 + 1 + 1, refl)); source_begins = (λ rest. (_, refl)); some = omega arith; result_read = (λ p rest. (p + 1 + 1 + 1, refl)); result_begins = (λ rest. (_, refl)) },
                                                      tt,
                                                    ),
                                                  ),
                                                ),
                                              ),
                                            ),
                                          ),
                                        ),
                                      ),
                                    ),
                                  ),
                                ),
                              ),
                            ),
                          ),
                        ),
                      ),
                    ),
                  ),
                ),
              ),
            ),
          ),
        ),
      ),
    ),
  ),
)

to_latin_same : (from to : AnyScheme) → AllByRecursion (IsSame from to marks_to_latin latin_marks) marks_to_latin
unfolding mark_bytes
to_latin_same from to = (
  record { latin = 9 ∷ []; source_read = (λ p rest. (p + 1, refl)); source_begins = (λ rest. (_, refl)); some = omega arith; result_read = (λ p rest. (p + 1, refl)); result_begins = (λ rest. (_, refl)) },
  (
    record { latin = 10 ∷ []; source_read = (λ p rest. (p + 1, refl)); source_begins = (λ rest. (_, refl)); some = omega arith; result_read = (λ p rest. (p + 1, refl)); result_begins = (λ rest. (_, refl)) },
    (
      record { latin = 13 ∷ []; source_read = (λ p rest. (p + 1, refl)); source_begins = (λ rest. (_, refl)); some = omega arith; result_read = (λ p rest. (p + 1, refl)); result_begins = (λ rest. (_, refl)) },
      (
        record { latin = 32 ∷ []; source_read = (λ p rest. (p + 1, refl)); source_begins = (λ rest. (_, refl)); some = omega arith; result_read = (λ p rest. (p + 1, refl)); result_begins = (λ rest. (_, refl)) },
        (
          record { latin = 124 ∷ []; source_read = (λ p rest. (p + 1, refl)); source_begins = (λ rest. (_, refl)); some = omega arith; result_read = (λ p rest. (p + 1, refl)); result_begins = (λ rest. (_, refl)) },
          (
            record { latin = 48 ∷ []; source_read = (λ p rest. (p + 1, refl)); source_begins = (λ rest. (_, refl)); some = omega arith; result_read = (λ p rest. (p + 1, refl)); result_begins = (λ rest. (_, refl)) },
            (
              record { latin = 49 ∷ []; source_read = (λ p rest. (p + 1, refl)); source_begins = (λ rest. (_, refl)); some = omega arith; result_read = (λ p rest. (p + 1, refl)); result_begins = (λ rest. (_, refl)) },
              (
                record { latin = 50 ∷ []; source_read = (λ p rest. (p + 1, refl)); source_begins = (λ rest. (_, refl)); some = omega arith; result_read = (λ p rest. (p + 1, refl)); result_begins = (λ rest. (_, refl)) },
                (
                  record { latin = 51 ∷ []; source_read = (λ p rest. (p + 1, refl)); source_begins = (λ rest. (_, refl)); some = omega arith; result_read = (λ p rest. (p + 1, refl)); result_begins = (λ rest. (_, refl)) },
                  (
                    record { latin = 52 ∷ []; source_read = (λ p rest. (p + 1, refl)); source_begins = (λ rest. (_, refl)); some = omega arith; result_read = (λ p rest. (p + 1, refl)); result_begins = (λ rest. (_, refl)) },
                    (
                      record { latin = 53 ∷ []; source_read = (λ p rest. (p + 1, refl)); source_begins = (λ rest. (_, refl)); some = omega arith; result_read = (λ p rest. (p + 1, refl)); result_begins = (λ rest. (_, refl)) },
                      (
                        record { latin = 54 ∷ []; source_read = (λ p rest. (p + 1, refl)); source_begins = (λ rest. (_, refl)); some = omega arith; result_read = (λ p rest. (p + 1, refl)); result_begins = (λ rest. (_, refl)) },
                        (
                          record { latin = 55 ∷ []; source_read = (λ p rest. (p + 1, refl)); source_begins = (λ rest. (_, refl)); some = omega arith; result_read = (λ p rest. (p + 1, refl)); result_begins = (λ rest. (_, refl)) },
                          (
                            record { latin = 56 ∷ []; source_read = (λ p rest. (p + 1, refl)); source_begins = (λ rest. (_, refl)); some = omega arith; result_read = (λ p rest. (p + 1, refl)); result_begins = (λ rest. (_, refl)) },
                            (
                              record { latin = 57 ∷ []; source_read = (λ p rest. (p + 1, refl)); source_begins = (λ rest. (_, refl)); some = omega arith; result_read = (λ p rest. (p + 1, refl)); result_begins = (λ rest. (_, refl)) },
                              (
                                record { latin = 124 ∷ []; source_read = (λ p rest. (p + 1 + 1 + 1, refl)); source_begins = (λ rest. (_, refl)); some = omega arith; result_read = (λ p rest. (p + 1, refl)); result_begins = (λ rest. (_, refl)) },
                                (
                                  record { latin = 124 ∷ 124 ∷ []; source_read = (λ p rest. (p + 1 + 1 + 1, refl)); source_begins = (λ rest. (_, refl)); some = omega arith; result_read = (λ p rest. (p + 1 + 1, twice 124 124 _)); result_begins = (λ rest. (_, refl)) },
                                  (
                                    record { latin = 48 ∷ []; source_read = (λ p rest. (p + 1 + 1 + 1, refl)); source_begins = (λ rest. (_, refl)); some = omega arith; result_read = (λ p rest. (p + 1, refl)); result_begins = (λ rest. (_, refl)) },
                                    (
                                      record { latin = 49 ∷ []; source_read = (λ p rest. (p + 1 + 1 + 1, refl)); source_begins = (λ rest. (_, refl)); some = omega arith; result_read = (λ p rest. (p + 1, refl)); result_begins = (λ rest. (_, refl)) },
                                      (
                                        record { latin = 50 ∷ []; source_read = (λ p rest. (p + 1 + 1 + 1, refl)); source_begins = (λ rest. (_, refl)); some = omega arith; result_read = (λ p rest. (p + 1, refl)); result_begins = (λ rest. (_, refl)) },
                                        (
                                          record { latin = 51 ∷ []; source_read = (λ p rest. (p + 1 + 1 + 1, refl)); source_begins = (λ rest. (_, refl)); some = omega arith; result_read = (λ p rest. (p + 1, refl)); result_begins = (λ rest. (_, refl)) },
                                          (
                                            record { latin = 52 ∷ []; source_read = (λ p rest. (p + 1 + 1 + 1, refl)); source_begins = (λ rest. (_, refl)); some = omega arith; result_read = (λ p rest. (p + 1, refl)); result_begins = (λ rest. (_, refl)) },
                                            (
                                              record { latin = 53 ∷ []; source_read = (λ p rest. (p + 1 + 1 + 1, refl)); source_begins = (λ rest. (_, refl)); some = omega arith; result_read = (λ p rest. (p + 1, refl)); result_begins = (λ rest. (_, refl)) },
                                              (
                                                record { latin = 54 ∷ []; source_read = (λ p rest. (p + 1 + 1 + 1, refl)); source_begins = (λ rest. (_, refl)); some = omega arith; result_read = (λ p rest. (p + 1, refl)); result_begins = (λ rest. (_, refl)) },
                                                (
                                                  record { latin = 55 ∷ []; source_read = (λ p rest. (p + 1 + 1 + 1, refl)); source_begins = (λ rest. (_, refl)); some = omega arith; result_read = (λ p rest. (p + 1, refl)); result_begins = (λ rest. (_, refl)) },
                                                  (
                                                    record { latin = 56 ∷ []; source_read = (λ p rest. (p + 1 + 1 + 1, refl)); source_begins = (λ rest. (_, refl)); some = omega arith; result_read = (λ p rest. (p + 1, refl)); result_begins = (λ rest. (_, refl)) },
                                                    (
                                                      record { latin = 57 ∷ []; source_read = (λ p rest. (p + 1 + 1 + 1, refl)); source_begins = (λ rest. (_, refl)); some = omega arith; result_read = (λ p rest. (p + 1, refl)); result_begins = (λ rest. (_, refl)) },
                                                      tt,
                                                    ),
                                                  ),
                                                ),
                                              ),
                                            ),
                                          ),
                                        ),
                                      ),
                                    ),
                                  ),
                                ),
                              ),
                            ),
                          ),
                        ),
                      ),
                    ),
                  ),
                ),
              ),
            ),
          ),
        ),
      ),
    ),
  ),
)

to_devanagari_same : (from to : AnyScheme) → AllByRecursion (IsSame from to latin_marks marks_to_latin) marks_to_devanagari
unfolding mark_bytes
to_devanagari_same from to = (
  record { latin = 124 ∷ 124 ∷ []; source_read = (λ p rest. (p + 1 + 1, twice 124 124 _)); source_begins = (λ rest. (_, refl)); some = omega arith; result_read = (λ p rest. (p + 1 + 1 + 1, refl)); result_begins = (λ rest. (_, refl)) },
  (
    record { latin = 124 ∷ []; source_read = (λ p rest. (p + 1, refl)); source_begins = (λ rest. (_, refl)); some = omega arith; result_read = (λ p rest. (p + 1 + 1 + 1, refl)); result_begins = (λ rest. (_, refl)) },
    (
      record { latin = 48 ∷ []; source_read = (λ p rest. (p + 1, refl)); source_begins = (λ rest. (_, refl)); some = omega arith; result_read = (λ p rest. (p + 1 + 1 + 1, refl)); result_begins = (λ rest. (_, refl)) },
      (
        record { latin = 49 ∷ []; source_read = (λ p rest. (p + 1, refl)); source_begins = (λ rest. (_, refl)); some = omega arith; result_read = (λ p rest. (p + 1 + 1 + 1, refl)); result_begins = (λ rest. (_, refl)) },
        (
          record { latin = 50 ∷ []; source_read = (λ p rest. (p + 1, refl)); source_begins = (λ rest. (_, refl)); some = omega arith; result_read = (λ p rest. (p + 1 + 1 + 1, refl)); result_begins = (λ rest. (_, refl)) },
          (
            record { latin = 51 ∷ []; source_read = (λ p rest. (p + 1, refl)); source_begins = (λ rest. (_, refl)); some = omega arith; result_read = (λ p rest. (p + 1 + 1 + 1, refl)); result_begins = (λ rest. (_, refl)) },
            (
              record { latin = 52 ∷ []; source_read = (λ p rest. (p + 1, refl)); source_begins = (λ rest. (_, refl)); some = omega arith; result_read = (λ p rest. (p + 1 + 1 + 1, refl)); result_begins = (λ rest. (_, refl)) },
              (
                record { latin = 53 ∷ []; source_read = (λ p rest. (p + 1, refl)); source_begins = (λ rest. (_, refl)); some = omega arith; result_read = (λ p rest. (p + 1 + 1 + 1, refl)); result_begins = (λ rest. (_, refl)) },
                (
                  record { latin = 54 ∷ []; source_read = (λ p rest. (p + 1, refl)); source_begins = (λ rest. (_, refl)); some = omega arith; result_read = (λ p rest. (p + 1 + 1 + 1, refl)); result_begins = (λ rest. (_, refl)) },
                  (
                    record { latin = 55 ∷ []; source_read = (λ p rest. (p + 1, refl)); source_begins = (λ rest. (_, refl)); some = omega arith; result_read = (λ p rest. (p + 1 + 1 + 1, refl)); result_begins = (λ rest. (_, refl)) },
                    (
                      record { latin = 56 ∷ []; source_read = (λ p rest. (p + 1, refl)); source_begins = (λ rest. (_, refl)); some = omega arith; result_read = (λ p rest. (p + 1 + 1 + 1, refl)); result_begins = (λ rest. (_, refl)) },
                      (
                        record { latin = 57 ∷ []; source_read = (λ p rest. (p + 1, refl)); source_begins = (λ rest. (_, refl)); some = omega arith; result_read = (λ p rest. (p + 1 + 1 + 1, refl)); result_begins = (λ rest. (_, refl)) },
                        (
                          record { latin = 9 ∷ []; source_read = (λ p rest. (p + 1, refl)); source_begins = (λ rest. (_, refl)); some = omega arith; result_read = (λ p rest. (p + 1, refl)); result_begins = (λ rest. (_, refl)) },
                          (
                            record { latin = 10 ∷ []; source_read = (λ p rest. (p + 1, refl)); source_begins = (λ rest. (_, refl)); some = omega arith; result_read = (λ p rest. (p + 1, refl)); result_begins = (λ rest. (_, refl)) },
                            (
                              record { latin = 13 ∷ []; source_read = (λ p rest. (p + 1, refl)); source_begins = (λ rest. (_, refl)); some = omega arith; result_read = (λ p rest. (p + 1, refl)); result_begins = (λ rest. (_, refl)) },
                              (
                                record { latin = 32 ∷ []; source_read = (λ p rest. (p + 1, refl)); source_begins = (λ rest. (_, refl)); some = omega arith; result_read = (λ p rest. (p + 1, refl)); result_begins = (λ rest. (_, refl)) },
                                tt,
                              ),
                            ),
                          ),
                        ),
                      ),
                    ),
                  ),
                ),
              ),
            ),
          ),
        ),
      ),
    ),
  ),
)

-- by whether the text is in Devanagari, and whether it is to be
pub marks_same : (source result : Bool) (from to : AnyScheme) → AllByRecursion (IsSame from to (marks_by source false) (marks_by result false)) (marks_by source result)
marks_same false false = latin_same
marks_same false true = to_devanagari_same
marks_same true false = to_latin_same
marks_same true true = devanagari_same

-- ---- where no mark begins

when_none : (b : Bool) (found : ℕ × List ℕ) (rest : Option (ℕ × List ℕ)) → cond b (Some found) rest ≡ None → (b ≡ false) × (rest ≡ None)
when_none true found rest h = absurd (cc (h))
when_none false found rest h = (refl, h)

-- no entry of the table begins the text
abbrev DoNotBegin : List ℕ → List Mark → Type 0
DoNotBegin text marks = AllByRecursion (λ mark. begins_with mark.is text ≡ false) marks

none_begins : (marks : List Mark) (text : List ℕ) → first_mark marks text ≡ None → DoNotBegin text marks
none_begins [] text h = tt
none_begins (mark ∷ marks) text h = let p = when_none (begins_with mark.is text) (length mark.is, mark.becomes) (first_mark marks text) h in (p.0, none_begins marks text p.1)

skip : (b : Bool) (found : ℕ × List ℕ) (rest : Option (ℕ × List ℕ)) → b ≡ false → rest ≡ None → cond b (Some found) rest ≡ None
skip true found rest h e = absurd (cc (h))
skip false found rest h e = e

none_from : (marks : List Mark) (text : List ℕ) → DoNotBegin text marks → first_mark marks text ≡ None
none_from [] text h = refl
none_from (mark ∷ marks) text h = skip (begins_with mark.is text) (length mark.is, mark.becomes) (first_mark marks text) h.0 (none_from marks text h.1)

devanagari_none : (text : List ℕ) → DoNotBegin text devanagari_marks → DoNotBegin text marks_to_latin
unfolding mark_bytes
devanagari_none text h = h

to_devanagari_none : (text : List ℕ) → DoNotBegin text marks_to_devanagari → DoNotBegin text latin_marks
unfolding mark_bytes
to_devanagari_none text h = (h.1.1.1.1.1.1.1.1.1.1.1.1.0, (h.1.1.1.1.1.1.1.1.1.1.1.1.1.0, (h.1.1.1.1.1.1.1.1.1.1.1.1.1.1.0, (h.1.1.1.1.1.1.1.1.1.1.1.1.1.1.1.0, (h.1.0, (h.1.1.0, (h.1.1.1.0, (h.1.1.1.1.0, (h.1.1.1.1.1.0, (h.1.1.1.1.1.1.0, (h.1.1.1.1.1.1.1.0, (h.1.1.1.1.1.1.1.1.0, (h.1.1.1.1.1.1.1.1.1.0, (h.1.1.1.1.1.1.1.1.1.1.0, (h.1.1.1.1.1.1.1.1.1.1.1.0, tt)))))))))))))))

-- where no mark that is converted begins, no mark of Latin letters does
pub none_same : (source result : Bool) (text : List ℕ) → first_mark (marks_by source result) text ≡ None → first_mark (marks_by source false) text ≡ None
none_same false false text h = h
none_same false true text h = none_from latin_marks text (to_devanagari_none text (none_begins marks_to_devanagari text h))
none_same true false text h = h
none_same true true text h = none_from marks_to_latin text (devanagari_none text (none_begins devanagari_marks text h))
