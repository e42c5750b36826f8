-- What is known of a form: the stem that it comes from, and its tag.
use Rattle.std.specs.Prelude.{ℕ, List}
use Rattle.std.specs.declared.cmp.Ordering.{Ordering}
use Rattle.std.specs.Ordering.{nat_cmp, ordering_then}
use Rattle.std.specs.Cmp.Lexicographic.{slice_cmp}
use Rattle.text_definitions.specs.Words.{compare_words}

-- a stem, and the text of a tag as its bytes (own form, after Huet's lexicons of inflected forms)
pub record Analysis : Type 0 where
  pub stem : List ℕ
  pub tag : List ℕ

-- analyses are ordered by stem, then by the bytes of the tag's text
abbrev pub compare_analyses : Analysis → Analysis → Ordering
compare_analyses left right = ordering_then (compare_words left.stem right.stem) (slice_cmp nat_cmp left.tag right.tag)
