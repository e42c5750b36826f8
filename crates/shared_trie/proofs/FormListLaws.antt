-- What holds of all form lists: of empty ones, and of those where one phase got an entry.
use Rattle.std.proofs.Common.{◌≡◌, ℕ, zero, suc, ◌<◌, ◌^◌, List, [], length, set, replicate, refl, arith}
use Rattle.std.proofs.lemmas.List.{length-set, length-replicate}
use Rattle.std.proofs.lemmas.List.Elements.{All-nil, All-set, All-replicate}
use Rattle.std.specs.List.Sorted.{IsStrictlySortedBy}
use Rattle.lexicon_definitions.specs.Lexicons.{Form, IsFormEntry}
use Rattle.lexicon_definitions.specs.Limits.{count_lines}
use Rattle.lexicon_definitions.specs.FormEntries.{IsListedForm, IsListedPhase}
use Rattle.shared_trie.specs.FormLists.{AreFormLists}

-- a phase without forms is listed
pub no_forms : IsListedPhase []
unfolding IsStrictlySortedBy
no_forms = record { phase = record { each = All-nil IsFormEntry; rising = tt }; each = All-nil IsListedForm }

-- phases without forms have no lines
pub no_lines : (count : ℕ) → count_lines (replicate count []) ≡ 0
no_lines zero = refl
no_lines (suc count) = no_lines count

-- phases without forms are form lists
pub AreFormLists-empty : (count : ℕ) → count < 2 ^ 32 → AreFormLists (replicate count [])
AreFormLists-empty count few =
    let len : length (replicate count (let none : List Form = [] in none)) ≡ count = length-replicate count [] in
    let lines = no_lines count in
    record {
      each = All-replicate IsListedPhase count [] no_forms;
      phases = omega (arith, len, few);
      lines = omega (arith, lines);
    }

-- form lists where one phase is another that is listed
pub AreFormLists-set : (lists : List (List Form)) (phase : ℕ) (new : List Form) → AreFormLists lists → IsListedPhase new → count_lines (set lists phase new) < 2 ^ 32
    → AreFormLists (set lists phase new)
AreFormLists-set lists phase new listed is_new few =
    let len : length (set lists phase new) ≡ length lists = length-set lists phase new in
    record {
      each = All-set IsListedPhase lists phase new is_new listed.each;
      phases = omega (arith, len, listed.phases);
      lines = few;
    }
