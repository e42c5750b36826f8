-- The choices of a group rise, so the search finds the rule where it is one of them.
use Rattle.std.proofs.Common.{ℕ, ◌↔◌, List, length, is_ok, ap, sym, ◌∙◌, subst, arith, nat_cmp}
use Rattle.std.specs.Prelude.{Contains, IsTrue}
use Rattle.std.specs.List.Sorted.{IsStrictlySortedBy}
use Rattle.std.proofs.lemmas.Cmp.{nat_cmp_total}
use Rattle.std.proofs.lemmas.Map.Lookups.{exact_unsigned}
use Rattle.list_laws.proofs.Searches.{found}
use Rattle.annotated_trie.specs.Choices.{AnnotatedTrie, choices_with}
use Rattle.search_frames.proofs.GroupedRules.{group_rises}
use Rattle.search_frames.proofs.seeking.has_choice.Goals as goal

pub choices_with-requires : goal.choices_with-requires
choices_with-requires c =
    let rows = ap (λ (t : AnnotatedTrie). length t.trie.rows) c.tries.ensures.value in
    omega (arith, c.requires.node, rows)

pub returns : goal.returns
returns c =
    let group = c.choices_with.ensures.value ∙ ap (λ (t : AnnotatedTrie). choices_with t c.args.node c.args.letter) c.tries.ensures.value in
    let rising = subst (IsStrictlySortedBy nat_cmp) (sym group) (group_rises c.args.lexicon.now c.requires.searched c.args.node c.args.letter c.requires.node) in
    let told : IsTrue (is_ok c.binary_search.result) ↔ Contains c.choices_with.result.now c.args.rule =
    found nat_cmp_total exact_unsigned c.choices_with.result.now c.args.rule c.binary_search.result rising c.binary_search.ensures.bound c.binary_search.ensures.position in
    rw c.is_ok.ensures.value (subst (λ (rules : List ℕ). IsTrue (is_ok c.binary_search.result) ↔ Contains rules c.args.rule) group told)
