-- All parts are compared.
use Rattle.std.proofs.Common.{◌≡◌, ◌-◌, ℕ, List, take, drop, nat_eq, refl, sym, ◌∙◌, subst, arith}
use Rattle.std.specs.Cmp.Lexicographic.{pointwise}
use Rattle.std.specs.Prelude.{slice_range}
use Rattle.std.proofs.lemmas.Bool.Decides.{Decides-eqb}
use Rattle.std.proofs.lemmas.Slice.Eq.{slice_eq-Decides}
use Rattle.form_tags.proofs.TagEquality.{tag_one}
use Rattle.form_tags.specs.TagTexts.{tag_text}
use Rattle.shared_trie.proofs.ChainLaws.{HasHash}
use Rattle.shared_trie.proofs.DeltaListings.{delta_read}
use Rattle.shared_trie.proofs.delta_numbers.DeltaNumbers.find.Goals as goal

pub returns-then-eq-2-clause-is : goal.returns-then-eq-2-clause-is
returns-then-eq-2-clause-is c =
    let letters = c.self.inside.letters.items in
    let one = c.index.result.now in
    let own = c.args.append.now in
    let cut : one.cut ≡ c.args.cut = c.if-parts-cut.true in
    let tag = tag_one one.tag c.args.tag (sym c.eq.ensures ∙ c.if-eq.true) in
    let part : List ℕ = take (one.end - one.first) (drop one.first c.deref.result.now) in
    let compared : part ≡ own = (slice_eq-Decides Decides-eqb part own (pointwise nat_eq part own) refl).0 (sym c.eq-then-eq.ensures ∙ c.if-eq-2.true) in
    let append : slice_range letters one.first one.end ≡ own = (λ i. take (one.end - one.first) (drop one.first (sym c.deref.ensures.value i))) ∙ compared in
    delta_read letters c.self.inside.parts.items c.args.self.now c.in-Some.number one c.self.view_is c.index.ensures
    (let has = subst (HasHash c.self.inside.chains c.args.hash) c.in-Some.is c.loop-found.invariant in omega (arith, has.0, c.self.invariant.0))
    ∙ (λ i. record { cut = cut i; append = append i; tag = tag_text (tag i) })
