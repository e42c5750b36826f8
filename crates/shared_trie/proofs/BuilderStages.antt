-- How the entries so far compare with a new one, as the builder keeps them, and what is built after one entry more.
use Rattle.std.proofs.Common.{◌≡◌, ◌≢◌, ℕ, zero, suc, ◌+◌, ◌<◌, ◌≤◌, Bool, false, Option, None, Some, List, [], length, get_or, replicate, refl, sym, ◌∙◌, ap, subst, arith}
use Rattle.std.specs.Option.{option_map}
use Rattle.std.specs.declared.cmp.Ordering.{Ordering}
use Rattle.std.specs.declared.cmp.Ordering.TheVariants.{Less, Equal, Greater}
use Rattle.std.specs.Ordering.{nat_cmp, ordering_then}
use Rattle.std.specs.Cmp.{ranked, nat_cmp_is}
use Rattle.std.proofs.lemmas.List.{length-replicate, length-set}
use Rattle.form_tags.specs.declared.entry.Entry.{Entry as FormEntry}
use Rattle.form_tags.specs.Entries.{text_entry}
use Rattle.shared_trie.proofs.FormListLaws.{AreFormLists-empty, AreFormLists-set, no_lines as no_lines_counted}
use Rattle.text_definitions.specs.Words.{IsWord}
use Rattle.lexicon_definitions.specs.FormEntries.{Entry, IsListedStem, with_entry, with_form}
use Rattle.lexicon_definitions.specs.Lexicons.{Form, IsAnalysis}
use Rattle.lexicon_definitions.specs.Limits.{count_lines}
use Rattle.lexicon_definitions.specs.declared.limits.TheConstants.{MOST_FORM_LETTERS, MOST_FORM_LINES, MOST_PHASES}
use Rattle.lexicon_definitions.proofs.FormsWithEntry.{IsListedPhase-with_form}
use Rattle.lexicon_text_definitions.specs.FileContents.{compare_entries, compare_last, entries_from}
use Rattle.lexicon_text_definitions.proofs.FormLines.{no_lines}
use Rattle.shared_trie.specs.OpenForms.{IsBetween, IsPending}
use Rattle.shared_trie.specs.Stages.{IsBuilt, IsLastOf}
use Rattle.shared_trie.specs.declared.open_trie.OpenTrie.{OpenTrie}
use Rattle.shared_trie.proofs.EntriesEnd.{are_empty}
use Rattle.shared_trie.proofs.NextEntries.{last_compared, one_line_more}

-- ---- the last entry compared

-- without forms every entry may come
pub compared_first : (phases : List (List Form)) (last : Option FormEntry) (new : Entry) → last ≡ None → IsLastOf phases (option_map text_entry last)
    → compare_last compare_entries (entries_from 0 phases) new ≡ Less
compared_first phases None new e none = ap (λ (es : List Entry). compare_last compare_entries es new) (no_lines 0 phases (are_empty phases none))
compared_first phases (Some last) new e is = absurd (cc)

-- otherwise it compares with the last one
pub compared_last : (phases : List (List Form)) (kept : Option FormEntry) (last : FormEntry) (new : Entry) → kept ≡ Some last → IsLastOf phases (option_map text_entry kept)
    → compare_last compare_entries (entries_from 0 phases) new ≡ compare_entries (text_entry last) new
compared_last phases kept last new e is = last_compared phases (text_entry last) new (subst (λ (o : Option FormEntry). IsLastOf phases (option_map text_entry o)) e is)

-- what decides first
pub decided : (first rest : Ordering) → first ≢ Equal → first ≡ ordering_then first rest
decided Less rest n = refl
decided Equal rest n = absurd (n refl)
decided Greater rest n = refl

pub apart_compared : (m n : ℕ) → m ≢ n → nat_cmp m n ≢ Equal
apart_compared m n apart e = apart (ranked m n Equal (sym e))

pub same_compared : (m n : ℕ) → m ≡ n → nat_cmp m n ≡ Equal
same_compared m n same = sym (nat_cmp_is m n Equal same)

-- ---- what is built

no_forms : (n k : ℕ) → get_or (let none : List (List Form) = replicate n [] in none) k [] ≡ []
no_forms zero k = refl
no_forms (suc n) zero = refl
no_forms (suc n) (suc k) = no_forms n k

-- at first there are no forms
pub built_first : (told : List (List Form) × ℕ) (phases : ℕ) (open_trie : OpenTrie) → phases ≤ MOST_PHASES → told ≡ (replicate phases [], 0)
    → IsBetween (replicate phases []) 0 0 open_trie → IsBuilt told phases 0 None open_trie false
built_first told phases open_trie few is between =
    subst (λ (t : List (List Form) × ℕ). IsBuilt t phases 0 None open_trie false) (sym is)
    record {
      phases_are = sym (length-replicate phases []);
      few_phases = few;
      lines_are = sym (no_lines_counted phases);
      few_lines = omega arith;
      count = refl;
      lists = AreFormLists-empty phases (omega (arith, few));
      is_last = no_forms phases;
      stage = λ none. between;
    }

-- afterwards there is one more, which is the last
pub built_next : (before : List (List Form)) (told new : List (List Form) × ℕ) (phases lines : ℕ) (last : Option Entry) (failed : Bool) (old open_trie : OpenTrie) (entry : Entry) → IsBuilt told phases lines last old failed
    → told.0 ≡ before → new ≡ (with_entry told.0 entry, told.1 + 1) → entry.phase < length before → IsWord entry.letters → 0 < length entry.letters → length entry.letters ≤ MOST_FORM_LETTERS
    → IsAnalysis entry.analysis → IsListedStem entry.analysis → count_lines before < MOST_FORM_LINES → compare_last compare_entries (entries_from 0 before) entry ≡ Less
    → IsPending (with_entry told.0 entry) (told.1 + 1) entry open_trie → IsBuilt new phases (lines + 1) (Some entry) open_trie false
built_next before told new phases lines last failed old open_trie entry is view told_is in_before word some short analysis stem few_before above_before pending =
    let within = subst (λ (p : List (List Form)). entry.phase < length p) (sym view) in_before in
    let few = subst (λ (p : List (List Form)). count_lines p < MOST_FORM_LINES) (sym view) few_before in
    let above = subst (λ (p : List (List Form)). compare_last compare_entries (entries_from 0 p) entry ≡ Less) (sym view) above_before in
    let forms : List Form = get_or told.0 entry.phase [] in
    let listed = IsListedPhase-with_form entry.letters entry.analysis word some short analysis stem forms (is.lists.each entry.phase [] within) in
    let more = one_line_more told.0 entry is.lists.each within above in
    let lines_are = is.lines_are in
    let count = is.count in
    subst (λ (t : List (List Form) × ℕ). IsBuilt t phases (lines + 1) (Some entry) open_trie false) (sym told_is)
    record {
      phases_are = is.phases_are ∙ sym (length-set told.0 entry.phase (with_form entry.letters entry.analysis forms));
      few_phases = is.few_phases;
      lines_are = omega (arith, lines_are, more);
      few_lines = omega (arith, lines_are, few);
      count = omega (arith, count);
      lists = AreFormLists-set told.0 entry.phase (with_form entry.letters entry.analysis forms) is.lists listed (omega (arith, more, few));
      is_last = pending.is_last;
      stage = λ fine. pending;
    }
