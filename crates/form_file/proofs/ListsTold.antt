-- Form lists are built up again by their entries, since their phases are lawful; and what the end of the lines gives.
use Rattle.std.proofs.Common.{◌≡◌, ℕ, ◌<◌, Option, List, [], ◌++◌, length, replicate, All, Some, IfSome, sym, ◌∙◌, ap, subst, arith}
use Rattle.std.specs.List.Sorted.{IsStrictlySortedBy}
use Rattle.std.proofs.lemmas.List.{length-replicate}
use Rattle.std.proofs.lemmas.List.Elements.{All-weaker}
use Rattle.lexicon_definitions.specs.GrammarTexts.{grammar_of}
use Rattle.lexicon_definitions.specs.Lexicons.{RuleSet, Form, IsPhase, tree_of}
use Rattle.lexicon_definitions.specs.Rules.{Rule}
use Rattle.lexicon_definitions.specs.Tries.{Trie, IsTrieOf}
use Rattle.lexicon_definitions.specs.FormEntries.{Entry, IsListedPhase}
use Rattle.phase_automaton.specs.Automata.{StateMachine, Recognizes}
use Rattle.lexicon_text_definitions.specs.FileContents.{Told, compare_entries, with_entries, entries_from, rules_told, lexicon_told}
use Rattle.lexicon_text_definitions.proofs.FormLines.{AreWithin, with_lines, no_lines_at_first}
use Rattle.lexicon_text_definitions.proofs.FormPhases.{lines_rise, lines_lawful, phases_built, entries_placed}
use Rattle.lexicon_text_definitions.proofs.WholeTexts.{empty_at_first, lawful_at_first, all_within}
use Rattle.trie_text_definitions.specs.TrieForms.{phases_of}
use Rattle.trie_text_definitions.proofs.TrieLexicons.{trie_tells_phases}
use Rattle.form_file.specs.Told.{HasBody, IsKept}
use Rattle.form_file.proofs.StageLemmas.{body_kept}
use Rattle.shared_trie.proofs.EntriesEnd.{lawful_lists}

-- the lists are built up by their entries
pub lists_built : (lists : List (List Form)) (count : ℕ) → All IsListedPhase lists → length lists ≡ count → 0 < count
    → with_entries (replicate count []) (entries_from 0 lists) ≡ lists
lists_built lists count h long some =
    let lawful = lawful_lists lists h in
    let lines : List Entry = entries_from 0 lists in
    let each = lines_lawful count 0 lists (omega arith) lawful in
    entries_placed count (replicate count []) 0 lines (empty_at_first count some) (lawful_at_first count) each
    (subst (λ n. AreWithin 0 n lines) (sym (length-replicate count [])) (all_within count lines each))
    (subst (λ front. IsStrictlySortedBy compare_entries (front ++ lines)) (sym (no_lines_at_first 0 count)) (lines_rise 0 lists lawful))
    ∙ ap (λ n. with_lines (replicate n []) lines) (sym long)
    ∙ phases_built lists lawful

-- ---- after the lines of the body

-- what holds of the rule set that was told holds of what was kept
pub rules_kept : (P : RuleSet → Type 0) (kept told : Told) (rules : List Rule) → kept ≡ told → rules ≡ kept.rules → P (rules_told told)
    → P (record { names = kept.names; grammar = kept.grammar; plain = kept.plain; rules = rules })
rules_kept P kept told rules view same h =
    subst (λ (rs : List Rule). P (record { names = kept.names; grammar = kept.grammar; plain = kept.plain; rules = rs })) (sym same)
    (subst (λ (t : Told). P (rules_told t)) (sym view) h)

-- the automaton that was kept is that of the grammar that was told, and has the phases that were told
pub automaton_kept : (kept told : Told) (automaton : Option StateMachine) (machine : StateMachine) (lists : List (List Form)) → kept ≡ told
    → HasBody told.last → IsKept kept automaton lists → automaton ≡ Some machine → Recognizes machine (tree_of (rules_told told))
automaton_kept kept told automaton machine lists view has h some =
    let body = body_kept kept told automaton lists view has h in
    let recognizes : Recognizes machine (tree_of (rules_told kept)) =
    subst (λ a. IfSome a (λ (m : StateMachine). Recognizes m (grammar_of kept.names kept.grammar))) some body.recognizes in
    subst (λ (t : Told). Recognizes machine (tree_of (rules_told t))) view recognizes

pub phases_kept : (kept told : Told) (automaton : Option StateMachine) (machine : StateMachine) (lists : List (List Form)) → kept ≡ told
    → HasBody told.last → IsKept kept automaton lists → automaton ≡ Some machine → machine.phases ≡ length told.names
phases_kept kept told automaton machine lists view has h some =
    subst (λ a. IfSome a (λ (m : StateMachine). m.phases ≡ length kept.names)) some (body_kept kept told automaton lists view has h).phases
    ∙ ap (λ (t : Told). length t.names) view

-- ---- after the last line

-- the trie tells the lists
pub lists_tell : (store : Trie) (lists : List (List Form)) → IsTrieOf store lists → All IsListedPhase lists → phases_of store ≡ lists
lists_tell store lists is listed = trie_tells_phases store lists is (All-weaker IsListedPhase IsPhase (λ forms each. each.phase) lists listed)

pub trie_itself : (store : Trie) (lists : List (List Form)) → IsTrieOf store lists → All IsListedPhase lists → IsTrieOf store (phases_of store)
trie_itself store lists is listed = subst (IsTrieOf store) (sym (lists_tell store lists is listed)) is

-- what was kept is the lexicon that was told
pub lexicon_kept : (told : Told) (lists : List (List Form)) (store : Trie) (set : RuleSet) → set ≡ rules_told told → entries_from 0 lists ≡ told.forms
    → length lists ≡ length told.names → 0 < length told.names → IsTrieOf store lists → All IsListedPhase lists
    → record { rules = set; phases = phases_of store } ≡ lexicon_told told
lexicon_kept told lists store set is_set forms long some is_trie listed =
    let phases : phases_of store ≡ with_entries (replicate (length told.names) []) told.forms =
    lists_tell store lists is_trie listed ∙ sym (lists_built lists (length told.names) listed long some)
    ∙ ap (with_entries (replicate (length told.names) [])) forms in
    λ i. record { rules = is_set i; phases = phases i }
