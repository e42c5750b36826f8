-- the group of one number more, and nothing where there is no such group
use Rattle.std.proofs.Common.{◌≡◌, ◌≤◌, ◌↔◌, ℕ, List, ◌++◌, length, take, get_or, sym, ◌∙◌, ap, subst, append-nil}
use Rattle.std.specs.Prelude.{Contains}
use Rattle.std.proofs.lemmas.List.{take_all, take_more}
use Rattle.annotated_trie.specs.Suffixes.{IsInGroups}
use Rattle.annotated_trie.specs.Views.{list_at}
use Rattle.annotated_trie.proofs.GroupLaws.{IsInGroups-push}
use Rattle.annotated_trie.proofs.ListPlaces.{list_at-past, list_at-read}
use Rattle.annotated_trie.proofs.node_choices.gather.Goals as goal
use Rattle.annotated_trie.proofs.node_choices.gather.Goals.{in-Some+in_ok-extend_from_slice, in_default}

pub loop-number-preserved : goal.loop-number-preserved
loop-number-preserved c =
    let k = c.loop-number.number-index in
    let numbers = c.args.numbers.now in
    let groups = c.args.groups.now in
    let number = get_or numbers k 0 in
    let old = c.loop-number.gathered.items in
    let new = c.match-get.gathered.items in
    let more : new ≡ old ++ list_at groups number =
    elim c.match-get.branch [
      | in-Some+in_ok-extend_from_slice w ↦
          let lookup = w.in-Some.ensures.lookup in
          let read : list_at groups number ≡ w.in-Some.group.now.items = list_at-read groups number w.in-Some.group.now lookup.3.0 lookup.1 in
          ap (λ v. v.items) w.gathered-is ∙ w.in_ok-extend_from_slice.ensures.items ∙ ap (λ (xs : List ℕ). old ++ xs) (w.as_slice.ensures.value ∙ sym read)
      | in_default w ↦
          let past : length groups ≤ number = w.in_default.ensures.lookup.3 in
          ap (λ v. v.items) w.gathered-is ∙ sym (append-nil old) ∙ ap (λ (xs : List ℕ). old ++ xs) (sym (list_at-past groups number past))
    ]
    in
    subst (λ (ns : List ℕ). (place : ℕ) → Contains new place ↔ IsInGroups groups ns place) (sym (take_more numbers k 0 c.loop-number-test.true))
    (IsInGroups-push groups (take k numbers) number old new c.loop-number.invariant more)

pub returns : goal.returns
returns c =
    record {
      members = subst (λ (ns : List ℕ). (place : ℕ) → Contains c.loop-number.gathered.items place ↔ IsInGroups c.args.groups.now ns place)
          (take_all c.loop-number.number-index c.args.numbers.now c.loop-number-test.false) c.loop-number.invariant;
    }
