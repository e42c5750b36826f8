-- a number is found where it goes on with the letter
use Rattle.std.proofs.Common.{◌≡◌, ◌↔◌, ◌⊎◌, ℕ, List, [], ◌∷◌, ◌++◌, take, get_or, sym, ◌∙◌, ap, subst}
use Rattle.std.specs.Prelude.{Contains}
use Rattle.std.proofs.lemmas.List.{take_all, take_more}
use Rattle.annotated_trie.specs.Suffixes.{GoesOn}
use Rattle.annotated_trie.proofs.SuffixPlaces.{goes_on_found, goes_on_nowhere}
use Rattle.annotated_trie.proofs.node_suffixes.add_longer.Goals as goal
use Rattle.annotated_trie.proofs.node_suffixes.add_longer.Goals.{in-Some+in_ok-push, in_default}

pub loop-rest-preserved : goal.loop-rest-preserved
loop-rest-preserved c =
    let k = c.loop-rest.rest-index in
    let rests = c.args.rests.now in
    let rest = get_or rests k 0 in
    let suffixes = c.args.suffixes.now.keys in
    let letter = c.args.letter in
    let first = c.args.numbers.now.items in
    let old = c.loop-rest.numbers.items in
    let new = c.match-get_index_of.numbers.items in
    let index = c.get_index_of.ensures.index in
    let distinct = c.as_slice-suffixes.ensures.unique in
    subst (λ (rs : List ℕ). (number : ℕ) → Contains new number ↔ (Contains first number ⊎ GoesOn suffixes letter rs number)) (sym (take_more rests k 0 c.loop-rest-test.true))
    (elim c.match-get_index_of.branch [
      | in-Some+in_ok-push w ↦
          goes_on_found suffixes letter rest w.in-Some.place (take k rests) first old new distinct (sym index ∙ w.in-Some.is) (ap (λ v. v.items) w.numbers-is ∙ w.in_ok-push.ensures.items) c.loop-rest.invariant
      | in_default w ↦
          let same : new ≡ old = ap (λ v. v.items) w.numbers-is in
          subst (λ (xs : List ℕ). (number : ℕ) → Contains xs number ↔ (Contains first number ⊎ GoesOn suffixes letter (take k rests ++ rest ∷ []) number)) (sym same)
          (goes_on_nowhere suffixes letter rest (take k rests) first old distinct (sym index ∙ w.in_default.is) c.loop-rest.invariant)
    ])

pub returns : goal.returns
returns c =
    let suffixes = c.args.suffixes.now.keys in
    let new = c.loop-rest.numbers.items in
    record {
      ok = subst (λ (rs : List ℕ). (number : ℕ) → Contains new number ↔ (Contains c.args.numbers.now.items number ⊎ GoesOn suffixes c.args.letter rs number))
          (take_all c.loop-rest.rest-index c.args.rests.now c.loop-rest-test.false) c.loop-rest.invariant;
    }
