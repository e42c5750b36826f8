-- What is written in Devanagari and in IAST is UTF-8, and in IAST composition leaves it as it is: mark by mark, which the check computes,
-- and word by word. A letter of IAST is composed whatever stands beside it.
use Rattle.std.proofs.Common.{◌≡◌, ℕ, ◌-◌, ◌≤◌, Bool, true, false, cond, ◌&&◌, List, [], ◌∷◌, ◌++◌, slice_index, IsUtf8, eqb, encode_utf8_all, arith, ap, ◌∙◌, refl}
use Rattle.std.specs.List.{AllByRecursion, list_all}
use Rattle.std.specs.Str.{all_scalars}
use Rattle.std.proofs.lemmas.Bool.{and_parts}
use Rattle.std.proofs.lemmas.Bool.Decides.{nat_tests}
use Rattle.std.proofs.lemmas.Str.{encodes-append}
use Rattle.unicode_normalization.proofs.Computing.{unicode_normalization}
use Rattle.text_definitions.specs.Letters.{IsLetter}
use Rattle.text_definitions.specs.Devanagari.{devanagari_table, devanagari_signs, is_vowel, is_consonant, sign_of_vowel, points_of_letter, points_of_word, devanagari_of_word}
use Rattle.text_definitions.proofs.Tables.{passes_below, passes_at}
use Rattle.more_scheme_definitions.specs.Iast.{composed, iast_of_word}
use Rattle.more_scheme_definitions.proofs.ComposedSpellings.{is_kept, join_all, points_of_word as iast_points, word_spells, kept_scalars, spells_composed}
use Rattle.conversion_definitions.specs.Marks.{marks_by}
use Rattle.conversion_definitions.proofs.MarkBytes.{mark_bytes}

-- ---- UTF-8

-- the bytes are those of some characters
pub record IsEncoded (bytes : List ℕ) : Type 0 where
  pub points : List ℕ
  pub scalars : all_scalars points ≡ true
  pub bytes_are : encode_utf8_all points ≡ bytes

join_scalars : (xs ys : List ℕ) → all_scalars xs ≡ true → all_scalars ys ≡ true → all_scalars (xs ++ ys) ≡ true
join_scalars [] ys h k = k
join_scalars (x ∷ xs) ys h k = let p = and_parts _ _ h in ap (λ b. b && all_scalars (xs ++ ys)) p.0 ∙ join_scalars xs ys p.1 k

pub join_encoded : (xs ys : List ℕ) → IsEncoded xs → IsEncoded ys → IsEncoded (xs ++ ys)
join_encoded xs ys s t = record {
  points = s.points ++ t.points;
  scalars = join_scalars s.points t.points s.scalars t.scalars;
  bytes_are = encodes-append s.points t.points ∙ ap (λ l. l ++ encode_utf8_all t.points) s.bytes_are ∙ ap (λ r. xs ++ r) t.bytes_are;
}

pub encoded_utf8 : (bytes : List ℕ) → IsEncoded bytes → IsUtf8 bytes
encoded_utf8 bytes s = (s.points, (s.scalars, s.bytes_are))

letters_scalar : passes_below 50 (λ k. all_scalars (slice_index devanagari_table k ∷ [])) ≡ true
unfolding devanagari_table
letters_scalar = refl

signs_scalar : passes_below 12 (λ k. all_scalars (slice_index devanagari_signs k ∷ [])) ≡ true
unfolding devanagari_signs
signs_scalar = refl

letter_scalar : (n : ℕ) → IsLetter n → all_scalars (slice_index devanagari_table (n - 1) ∷ []) ≡ true
letter_scalar n l = passes_at 50 (λ k. all_scalars (slice_index devanagari_table k ∷ [])) letters_scalar (n - 1) (omega (arith, l.0, l.1))

vowel_from : (n : ℕ) → is_vowel n ≡ true → n ≤ 13
vowel_from n h = grind (arith, nat_tests)

sign_scalar : (n : ℕ) (a : Bool) → eqb n 1 ≡ a → IsLetter n → n ≤ 13 → all_scalars (cond a [] (slice_index devanagari_signs (n - 2) ∷ [])) ≡ true
sign_scalar n true e l vowel = refl
sign_scalar n false e l vowel =
    let two : 2 ≤ n = grind (arith, nat_tests) in
    passes_at 12 (λ k. all_scalars (slice_index devanagari_signs k ∷ [])) signs_scalar (n - 2) (omega (arith, two, vowel))

scalars_after : (n : ℕ) (vowel : Bool) → is_vowel n ≡ vowel → IsLetter n → all_scalars (cond vowel (sign_of_vowel n) (0x094D ∷ slice_index devanagari_table (n - 1) ∷ [])) ≡ true
scalars_after n true e l = sign_scalar n (eqb n 1) refl l (vowel_from n e)
scalars_after n false e l = letter_scalar n l

letter_scalars : (bare : Bool) (n : ℕ) → IsLetter n → all_scalars (points_of_letter bare n) ≡ true
letter_scalars false n l = letter_scalar n l
letter_scalars true n l = scalars_after n (is_vowel n) refl l

word_scalars : (bare : Bool) (word : List ℕ) → AllByRecursion IsLetter word → all_scalars (points_of_word bare word) ≡ true
word_scalars false [] ls = refl
word_scalars true [] ls = refl
word_scalars false (n ∷ word) ls = join_scalars (points_of_letter false n) (points_of_word (is_consonant n) word) (letter_scalars false n ls.0) (word_scalars (is_consonant n) word ls.1)
word_scalars true (n ∷ word) ls = join_scalars (points_of_letter true n) (points_of_word (is_consonant n) word) (letter_scalars true n ls.0) (word_scalars (is_consonant n) word ls.1)

pub devanagari_written : (word : List ℕ) → AllByRecursion IsLetter word → IsEncoded (devanagari_of_word word)
unfolding devanagari_of_word
devanagari_written word ls = record { points = points_of_word false word; scalars = word_scalars false word ls; bytes_are = refl }

-- ---- composition

-- the bytes are those of some characters that have a UTF-8 form and that composition keeps, whatever stands beside them
pub record IsKept (bytes : List ℕ) : Type 0 where
  pub points : List ℕ
  pub kept : list_all is_kept points ≡ true
  pub bytes_are : encode_utf8_all points ≡ bytes

pub join_kept : (xs ys : List ℕ) → IsKept xs → IsKept ys → IsKept (xs ++ ys)
join_kept xs ys s t = record {
  points = s.points ++ t.points;
  kept = join_all s.points t.points s.kept t.kept;
  bytes_are = encodes-append s.points t.points ∙ ap (λ l. l ++ encode_utf8_all t.points) s.bytes_are ∙ ap (λ r. xs ++ r) t.bytes_are;
}

pub nothing_kept : IsKept []
nothing_kept = record { points = []; kept = refl; bytes_are = refl }

pub iast_written : (word : List ℕ) → AllByRecursion IsLetter word → IsKept (iast_of_word word)
iast_written word ls = let s = word_spells word ls in record { points = iast_points word; kept = s.kept; bytes_are = s.bytes_are }

pub kept_utf8 : (bytes : List ℕ) → IsKept bytes → IsUtf8 bytes
kept_utf8 bytes s = (s.points, (kept_scalars s.points s.kept, s.bytes_are))

pub kept_composed : (bytes : List ℕ) → IsKept bytes → composed bytes ≡ bytes
kept_composed bytes s = spells_composed s.points bytes (record { kept = s.kept; bytes_are = s.bytes_are })

-- ---- marks

pub devanagari_marks_written : (source : Bool) → AllByRecursion (λ mark. IsEncoded mark.becomes) (marks_by source true)
unfolding mark_bytes
devanagari_marks_written false = (
  record { points = 2405 ∷ []; scalars = refl; bytes_are = refl },
  (
    record { points = 2404 ∷ []; scalars = refl; bytes_are = refl },
    (
      record { points = 2406 ∷ []; scalars = refl; bytes_are = refl },
      (
        record { points = 2407 ∷ []; scalars = refl; bytes_are = refl },
        (
          record { points = 2408 ∷ []; scalars = refl; bytes_are = refl },
          (
            record { points = 2409 ∷ []; scalars = refl; bytes_are = refl },
            (
              record { points = 2410 ∷ []; scalars = refl; bytes_are = refl },
              (
                record { points = 2411 ∷ []; scalars = refl; bytes_are = refl },
                (
                  record { points = 2412 ∷ []; scalars = refl; bytes_are = refl },
                  (
                    record { points = 2413 ∷ []; scalars = refl; bytes_are = refl },
                    (
                      record { points = 2414 ∷ []; scalars = refl; bytes_are = refl },
                      (
                        record { points = 2415 ∷ []; scalars = refl; bytes_are = refl },
                        (
                          record { points = 9 ∷ []; scalars = refl; bytes_are = refl },
                          (
                            record { points = 10 ∷ []; scalars = refl; bytes_are = refl },
                            (
                              record { points = 13 ∷ []; scalars = refl; bytes_are = refl },
                              (
                                record { points = 32 ∷ []; scalars = refl; bytes_are = refl },
                                tt,
                              ),
                            ),
                          ),
                        ),
                      ),
                    ),
                  ),
                ),
              ),
            ),
          ),
        ),
      ),
    ),
  ),
)
devanagari_marks_written true = (
  record { points = 9 ∷ []; scalars = refl; bytes_are = refl },
  (
    record { points = 10 ∷ []; scalars = refl; bytes_are = refl },
    (
      record { points = 13 ∷ []; scalars = refl; bytes_are = refl },
      (
        record { points = 32 ∷ []; scalars = refl; bytes_are = refl },
        (
          record { points = 124 ∷ []; scalars = refl; bytes_are = refl },
          (
            record { points = 48 ∷ []; scalars = refl; bytes_are = refl },
            (
              record { points = 49 ∷ []; scalars = refl; bytes_are = refl },
              (
                record { points = 50 ∷ []; scalars = refl; bytes_are = refl },
                (
                  record { points = 51 ∷ []; scalars = refl; bytes_are = refl },
                  (
                    record { points = 52 ∷ []; scalars = refl; bytes_are = refl },
                    (
                      record { points = 53 ∷ []; scalars = refl; bytes_are = refl },
                      (
                        record { points = 54 ∷ []; scalars = refl; bytes_are = refl },
                        (
                          record { points = 55 ∷ []; scalars = refl; bytes_are = refl },
                          (
                            record { points = 56 ∷ []; scalars = refl; bytes_are = refl },
                            (
                              record { points = 57 ∷ []; scalars = refl; bytes_are = refl },
                              (
                                record { points = 2404 ∷ []; scalars = refl; bytes_are = refl },
                                (
                                  record { points = 2405 ∷ []; scalars = refl; bytes_are = refl },
                                  (
                                    record { points = 2406 ∷ []; scalars = refl; bytes_are = refl },
                                    (
                                      record { points = 2407 ∷ []; scalars = refl; bytes_are = refl },
                                      (
                                        record { points = 2408 ∷ []; scalars = refl; bytes_are = refl },
                                        (
                                          record { points = 2409 ∷ []; scalars = refl; bytes_are = refl },
                                          (
                                            record { points = 2410 ∷ []; scalars = refl; bytes_are = refl },
                                            (
                                              record { points = 2411 ∷ []; scalars = refl; bytes_are = refl },
                                              (
                                                record { points = 2412 ∷ []; scalars = refl; bytes_are = refl },
                                                (
                                                  record { points = 2413 ∷ []; scalars = refl; bytes_are = refl },
                                                  (
                                                    record { points = 2414 ∷ []; scalars = refl; bytes_are = refl },
                                                    (
                                                      record { points = 2415 ∷ []; scalars = refl; bytes_are = refl },
                                                      tt,
                                                    ),
                                                  ),
                                                ),
                                              ),
                                            ),
                                          ),
                                        ),
                                      ),
                                    ),
                                  ),
                                ),
                              ),
                            ),
                          ),
                        ),
                      ),
                    ),
                  ),
                ),
              ),
            ),
          ),
        ),
      ),
    ),
  ),
)

pub iast_marks_written : (source : Bool) → AllByRecursion (λ mark. IsKept mark.becomes) (marks_by source false)
unfolding mark_bytes unicode_normalization
iast_marks_written false = (
  record { points = 9 ∷ []; kept = refl; bytes_are = refl },
  (
    record { points = 10 ∷ []; kept = refl; bytes_are = refl },
    (
      record { points = 13 ∷ []; kept = refl; bytes_are = refl },
      (
        record { points = 32 ∷ []; kept = refl; bytes_are = refl },
        (
          record { points = 124 ∷ []; kept = refl; bytes_are = refl },
          (
            record { points = 48 ∷ []; kept = refl; bytes_are = refl },
            (
              record { points = 49 ∷ []; kept = refl; bytes_are = refl },
              (
                record { points = 50 ∷ []; kept = refl; bytes_are = refl },
                (
                  record { points = 51 ∷ []; kept = refl; bytes_are = refl },
                  (
                    record { points = 52 ∷ []; kept = refl; bytes_are = refl },
                    (
                      record { points = 53 ∷ []; kept = refl; bytes_are = refl },
                      (
                        record { points = 54 ∷ []; kept = refl; bytes_are = refl },
                        (
                          record { points = 55 ∷ []; kept = refl; bytes_are = refl },
                          (
                            record { points = 56 ∷ []; kept = refl; bytes_are = refl },
                            (
                              record { points = 57 ∷ []; kept = refl; bytes_are = refl },
                              tt,
                            ),
                          ),
                        ),
                      ),
                    ),
                  ),
                ),
              ),
            ),
          ),
        ),
      ),
    ),
  ),
)
iast_marks_written true = (
  record { points = 9 ∷ []; kept = refl; bytes_are = refl },
  (
    record { points = 10 ∷ []; kept = refl; bytes_are = refl },
    (
      record { points = 13 ∷ []; kept = refl; bytes_are = refl },
      (
        record { points = 32 ∷ []; kept = refl; bytes_are = refl },
        (
          record { points = 124 ∷ []; kept = refl; bytes_are = refl },
          (
            record { points = 48 ∷ []; kept = refl; bytes_are = refl },
            (
              record { points = 49 ∷ []; kept = refl; bytes_are = refl },
              (
                record { points = 50 ∷ []; kept = refl; bytes_are = refl },
                (
                  record { points = 51 ∷ []; kept = refl; bytes_are = refl },
                  (
                    record { points = 52 ∷ []; kept = refl; bytes_are = refl },
                    (
                      record { points = 53 ∷ []; kept = refl; bytes_are = refl },
                      (
                        record { points = 54 ∷ []; kept = refl; bytes_are = refl },
                        (
                          record { points = 55 ∷ []; kept = refl; bytes_are = refl },
                          (
                            record { points = 56 ∷ []; kept = refl; bytes_are = refl },
                            (
                              record { points = 57 ∷ []; kept = refl; bytes_are = refl },
                              (
                                record { points = 124 ∷ []; kept = refl; bytes_are = refl },
                                (
                                  record { points = 124 ∷ 124 ∷ []; kept = refl; bytes_are = refl },
                                  (
                                    record { points = 48 ∷ []; kept = refl; bytes_are = refl },
                                    (
                                      record { points = 49 ∷ []; kept = refl; bytes_are = refl },
                                      (
                                        record { points = 50 ∷ []; kept = refl; bytes_are = refl },
                                        (
                                          record { points = 51 ∷ []; kept = refl; bytes_are = refl },
                                          (
                                            record { points = 52 ∷ []; kept = refl; bytes_are = refl },
                                            (
                                              record { points = 53 ∷ []; kept = refl; bytes_are = refl },
                                              (
                                                record { points = 54 ∷ []; kept = refl; bytes_are = refl },
                                                (
                                                  record { points = 55 ∷ []; kept = refl; bytes_are = refl },
                                                  (
                                                    record { points = 56 ∷ []; kept = refl; bytes_are = refl },
                                                    (
                                                      record { points = 57 ∷ []; kept = refl; bytes_are = refl },
                                                      tt,
                                                    ),
                                                  ),
                                                ),
                                              ),
                                            ),
                                          ),
                                        ),
                                      ),
                                    ),
                                  ),
                                ),
                              ),
                            ),
                          ),
                        ),
                      ),
                    ),
                  ),
                ),
              ),
            ),
          ),
        ),
      ),
    ),
  ),
)
