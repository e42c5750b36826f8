-- Deltas: how a form's stem differs from the form at its end (Huet's differential words).
use Rattle.std.specs.Prelude.{◌≡◌, ℕ, ◌-◌, ◌≤◌, List, ◌++◌, length, take}
use Rattle.std.specs.declared.cmp.Ordering.{Ordering}
use Rattle.std.specs.Ordering.{nat_cmp, ordering_then}
use Rattle.std.specs.Cmp.Lexicographic.{slice_cmp}
use Rattle.text_definitions.specs.Words.{compare_words}
use Rattle.lexicon_definitions.specs.Analyses.{Analysis}

-- how many letters are cut off the form's end, which letters follow, and the text of the tag as its bytes
pub record Delta : Type 0 where
  pub cut : ℕ
  pub append : List ℕ
  pub tag : List ℕ

-- the form without its last `cut` letters, followed by `append`
abbrev pub replace_end : List ℕ → ℕ → List ℕ → List ℕ
replace_end form cut append = take (length form - cut) form ++ append

-- the analysis that a delta gives a form
abbrev pub analysis_by : List ℕ → Delta → Analysis
analysis_by form delta =
    record {
      stem = replace_end form delta.cut delta.append;
      tag = delta.tag;
    }

-- the delta gives the form this analysis, and no delta that does so cuts fewer letters
pub record IsDelta (form : List ℕ) (analysis : Analysis) (delta : Delta) : Type 0 where
  pub within : delta.cut ≤ length form
  pub gives : analysis_by form delta ≡ analysis
  pub least : (other : Delta) → other.cut ≤ length form → analysis_by form other ≡ analysis → delta.cut ≤ other.cut

-- deltas are ordered by how many letters they cut, then by what they append, then by the bytes of the tag's text
abbrev pub compare_deltas : Delta → Delta → Ordering
compare_deltas left right =
    ordering_then (nat_cmp left.cut right.cut) (ordering_then (compare_words left.append right.append) (slice_cmp nat_cmp left.tag right.tag))
