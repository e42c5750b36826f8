-- The list that was made is known afterwards; where memory is wanting, what was known stays known.
use Rattle.std.proofs.Common.{◌≡◌, List, ℕ, ◌∷◌, ◌++◌, [], map, sym, ◌∙◌, ap, subst, arith, append-nil}
use Rattle.std.specs.Prelude.{All}
use Rattle.std.proofs.lemmas.List.Elements.{All-push, All-weaker}
use Rattle.form_tags.specs.Analyses.{text_delta}
use Rattle.lexicon_definitions.specs.Deltas.{Delta}
use Rattle.shared_trie.specs.DeltaNumbers.{IsListFor}
use Rattle.shared_trie.specs.Interned.{AddsList}
use Rattle.shared_trie.specs.OpenForms.{IsKnownList}
use Rattle.shared_trie.proofs.EndedForms.{known_listed}
use Rattle.shared_trie.proofs.open_trie.OpenTrie.number_list.Goals as goal

-- what was known stays known when lists are added
still_known : (deltas : List Delta) (lists new : List (List Delta)) (known : List (List ℕ × ℕ)) → AddsList lists new → All (IsKnownList deltas lists) known
    → All (IsKnownList deltas new) known
still_known deltas lists new known adds are =
    All-weaker (IsKnownList deltas lists) (IsKnownList deltas new) (λ one is. known_listed deltas lists new one adds is) known are

pub returns-in_err-deltas-clause-lists : goal.returns-in_err-deltas-clause-lists
returns-in_err-deltas-clause-lists c = record { more = []; is = sym (append-nil c.args.self.now.trie.lists); few = omega arith }

pub returns-in_err-list-clause-known : goal.returns-in_err-list-clause-known
returns-in_err-list-clause-known c =
    still_known c.args.self.now.deltas c.args.self.now.trie.lists c.number_list.new.self.lists c.args.self.now.known c.in_err-list.ensures.lists c.requires.known

pub returns-in_err-add-clause-known : goal.returns-in_err-add-clause-known
returns-in_err-add-clause-known c =
    subst (All (IsKnownList c.args.self.now.deltas c.number_list.new.self.lists)) (sym c.in_err-add.ensures.unchanged)
    (still_known c.args.self.now.deltas c.args.self.now.trie.lists c.number_list.new.self.lists c.args.self.now.known c.in_ok-list.ensures.lists c.requires.known)

pub returns-clause-known : goal.returns-clause-known
returns-clause-known c =
    let deltas = c.args.self.now.deltas in
    let lists = c.args.self.now.trie.lists in
    let new = c.number_list.new.self.lists in
    let numbers = c.args.self.now.numbers.items in
    let made : IsListFor deltas numbers (map text_delta c.in_ok-deltas.deltas.items) =
    subst (λ (ns : List ℕ). IsListFor deltas ns (map text_delta c.in_ok-deltas.deltas.items)) c.as_slice-2.ensures.value c.in_ok-deltas.ensures in
    let one : IsKnownList deltas new (numbers, c.in_ok-list.list) =
    record { within = c.in_ok-list.ensures.ok.0; is = subst (IsListFor deltas numbers) (sym c.in_ok-list.ensures.ok.1) made } in
    let pushed : c.add.new.self ≡ c.args.self.now.known ++ (numbers, c.in_ok-list.list) ∷ [] =
    c.in_ok-add.ensures.ok ∙ ap (λ (ns : List ℕ). c.args.self.now.known ++ (ns, c.in_ok-list.list) ∷ []) c.as_slice-3.ensures.value in
    subst (All (IsKnownList deltas new)) (sym pushed)
    (All-push (IsKnownList deltas new) c.args.self.now.known (numbers, c.in_ok-list.list)
    (still_known deltas lists new c.args.self.now.known c.in_ok-list.ensures.lists c.requires.known) one)
