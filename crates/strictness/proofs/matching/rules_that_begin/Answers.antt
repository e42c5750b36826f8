-- What begins the form begins with its first letter.
use Rattle.std.proofs.Common.{◌≡◌, ℕ, List, sym, ap, subst, ◌∙◌, arith}
use Rattle.std.specs.Prelude.{Some, None, slice_get}
use Rattle.std.specs.Global.{Vec}
use Rattle.std.specs.Ordering.{nat_cmp}
use Rattle.list_laws.specs.Firsts.{AreAll}
use Rattle.strictness.specs.Matches.{BeginsForm, HasFirst, AreCandidates}
use Rattle.strictness.proofs.RuleMatches.{begins_with_first, nothing_begins, candidates_from_all}
use Rattle.strictness.proofs.matching.rules_that_begin.Goals as goal

pub beginning_rules-requires : goal.beginning_rules-requires
beginning_rules-requires c =
    let rules = c.args.rules.now in
    let form = c.args.form.now in
    let letter = c.code.result in
    let P : ℕ → Type 0 = BeginsForm rules c.args.phase form in
    let list = c.index-candidates.result.now in
    let first : slice_get form 0 ≡ Some letter =
    ap (λ (word : List ℕ). slice_get word 0) (sym c.as_slice.ensures.value) ∙ sym c.in-Some.ensures.value ∙ ap Some (sym c.code.ensures.value) in
    let all : AreAll nat_cmp (HasFirst rules letter) list.items =
    subst (λ (list : Vec ℕ). AreAll nat_cmp (HasFirst rules letter) list.items) (sym c.index-candidates.ensures)
    (c.requires.firsts letter list (omega (arith, c.requires.all_firsts, c.code.ensures.letter.1, c.code.ensures.value))) in
    subst (AreCandidates rules P) (sym c.as_slice-in-Some.ensures.value)
    (candidates_from_all rules (HasFirst rules letter) P list.items (λ n has. has.rule)
    (λ n is. begins_with_first rules c.args.phase form letter n first is) all)

pub returns-in-None : goal.returns-in-None
returns-in-None c =
    let none : None ≡ slice_get c.args.form.now 0 =
    c.in-None.ensures.value ∙ ap (λ (word : List ℕ). slice_get word 0) c.as_slice.ensures.value in
    record {
      ok = subst (AreAll nat_cmp (BeginsForm c.args.rules.now c.args.phase c.args.form.now)) (sym c.new.ensures.items)
          (nothing_begins c.args.rules.now c.args.phase c.args.form.now none);
    }
