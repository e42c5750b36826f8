-- A rule's sets of phases as the lines of version 3 tell them: `*`, or the names of phases with `,` between (own).
use Rattle.std.specs.Prelude.{ℕ, ◌+◌, ◌^◌, ◌==◌, not, ◌&&◌, nat_lt, bit_and, bit_or, Bool, true, if◌then◌else◌, Option, Some, None, option_map, option_and_then, List, [], ◌∷◌, ◌++◌, map, length, codes}
use Rattle.std.specs.List.{join_with_byte, position, slice_split}
use Rattle.std.specs.Str.{bytes_eq}
use Rattle.std.specs.declared.cmp.Ordering.{Ordering}
use Rattle.std.specs.Ordering.{is_lt, nat_cmp}
use Rattle.lexicon_definitions.specs.Rules.{Rule, all_phases}
use Rattle.lexicon_text_definitions.specs.LexiconTexts.{rule_line}

-- each element is below the next
abbrev pub rises : {X : Type 0} → (X → X → Ordering) → List X → Bool
rises compare [] = true
rises compare (x ∷ []) = true
rises compare (x ∷ y ∷ xs) = is_lt (compare x y) && rises compare (y ∷ xs)

-- all of these, where each is there
abbrev pub all_there : {X : Type 0} → List (Option X) → Option (List X)
all_there [] = Some []
all_there (x ∷ xs) = option_and_then (λ first. option_map (λ rest. first ∷ rest) (all_there xs)) x

-- ---- writing

-- the phase with this number is in the set
abbrev pub has_phase : ℕ → ℕ → Bool
has_phase phases phase = not (bit_and phases (2 ^ phase) == 0)

-- the names of the phases in the set, where the first name is that of the phase with this number
abbrev pub names_from : ℕ → ℕ → List (List ℕ) → List (List ℕ)
names_from phases phase [] = []
names_from phases phase (name ∷ names) =
    if has_phase phases phase then name ∷ names_from phases (phase + 1) names else names_from phases (phase + 1) names

-- `*` for all phases, else the names of those in the set
abbrev pub phases_text : List (List ℕ) → ℕ → List ℕ
phases_text names phases =
    if phases == all_phases (length names) then codes "*" else join_with_byte 44 (names_from phases 0 names)

-- the phases after a rule with this v; `-` where the rule is final
abbrev pub phases_after_text : List (List ℕ) → List ℕ → ℕ → List ℕ
phases_after_text names [] phases = codes "-"
phases_after_text names (letter ∷ v) phases = phases_text names phases

-- `rule u|v>w BEFORE AFTER`
abbrev pub limited_rule_line : List (List ℕ) → Rule → List ℕ
limited_rule_line names rule =
    rule_line rule ++ codes " " ++ phases_text names rule.before ++ codes " " ++ phases_after_text names rule.v rule.after

-- ---- reading

-- the set of the phases with these numbers
abbrev pub set_of : List ℕ → ℕ
set_of [] = 0
set_of (phase ∷ phases) = bit_or (2 ^ phase) (set_of phases)

-- the set of the phases with these numbers, which rise and are not all of so many
abbrev pub set_within : ℕ → List ℕ → Option ℕ
set_within count phases = if rises nat_cmp phases && nat_lt (length phases) count then Some (set_of phases) else None

-- the numbers of the phases with these names
abbrev pub phases_named : List (List ℕ) → List (List ℕ) → Option (List ℕ)
phases_named names fields = all_there (map (λ field. position (bytes_eq field) names) fields)

-- the set that a field tells: `*`, or one name or more
abbrev pub set_told : List (List ℕ) → List ℕ → Option ℕ
set_told names field =
    if bytes_eq field (codes "*") then Some (all_phases (length names))
    else option_and_then (set_within (length names)) (phases_named names (slice_split (λ byte. byte == 44) field))

-- the set that the field after it tells, by the text of v: a final rule has `-`
abbrev pub set_after_told : List (List ℕ) → List ℕ → List ℕ → Option ℕ
set_after_told names [] field = if bytes_eq field (codes "-") then Some 0 else None
set_after_told names (byte ∷ v) field = set_told names field
