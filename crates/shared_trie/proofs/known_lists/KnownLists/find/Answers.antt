-- The numbers are compared.
use Rattle.std.proofs.Common.{◌≡◌, ◌<◌, ◌-◌, ℕ, List, length, take, drop, get_or, nat_eq, refl, sym, ◌∙◌, ap, subst, arith}
use Rattle.std.specs.Cmp.Lexicographic.{pointwise}
use Rattle.std.specs.Prelude.{slice_range}
use Rattle.std.proofs.lemmas.Bool.Decides.{Decides-eqb}
use Rattle.std.proofs.lemmas.List.{get_or-map, length-map}
use Rattle.std.proofs.lemmas.Slice.Eq.{slice_eq-Decides}
use Rattle.shared_trie.specs.KnownLists.{known_in}
use Rattle.shared_trie.proofs.ChainLaws.{HasHash}
use Rattle.shared_trie.proofs.known_lists.KnownLists.find.Goals as goal

pub returns-then-eq : goal.returns-then-eq
returns-then-eq c =
    let known = c.self.inside.known.items in
    let all = c.self.inside.numbers.items in
    let one = c.index-known.result.now in
    let own = c.args.numbers.now in
    let has = subst (HasHash c.self.inside.chains c.hash_numbers-hash.result) c.in-Some.is c.loop-found.invariant in
    let low : c.in-Some.number < length known = omega (arith, has.0, c.self.invariant.0) in
    let long = length-map known (known_in all) in
    let same = ap length c.self.view_is in
    let part : List ℕ = take (one.end - one.first) (drop one.first c.deref.result.now) in
    let compared : part ≡ own = (slice_eq-Decides Decides-eqb part own (pointwise nat_eq part own) refl).0 (sym c.eq.ensures ∙ c.if-eq.true) in
    let numbers : slice_range all one.first one.end ≡ own = (λ i. take (one.end - one.first) (drop one.first (sym c.deref.ensures.value i))) ∙ compared in (
      c.in-Some.number,
      omega (arith, low, long, same),
      ap (λ (ks : List (List ℕ × ℕ)). get_or ks c.in-Some.number (own, one.list)) (sym c.self.view_is)
          ∙ get_or-map (known_in all) known c.in-Some.number one (own, one.list) low ∙ ap (known_in all) (sym c.index-known.ensures) ∙ (λ i. (numbers i, one.list)),
    )
