-- What ends the form ends with its last letter.
use Rattle.std.proofs.Common.{◌≡◌, ℕ, ◌-◌, List, length, sym, ap, subst, ◌∙◌, arith}
use Rattle.std.specs.Prelude.{Some, None, slice_get}
use Rattle.std.specs.Global.{Vec}
use Rattle.std.specs.Ordering.{nat_cmp}
use Rattle.list_laws.specs.Firsts.{AreAll}
use Rattle.strictness.specs.Matches.{EndsForm, HasLast, AreCandidates}
use Rattle.strictness.proofs.RuleMatches.{ends_with_last, nothing_ends, candidates_from_all}
use Rattle.strictness.proofs.matching.rules_that_end.Goals as goal

pub ending_rules-requires : goal.ending_rules-requires
ending_rules-requires c =
    let rules = c.args.rules.now in
    let form = c.args.form.now in
    let letter = c.code.result in
    let P : ℕ → Type 0 = EndsForm rules c.args.phase form in
    let list = c.index-candidates.result.now in
    let last : slice_get form (length form - 1) ≡ Some letter =
    ap (λ (word : List ℕ). slice_get word (length word - 1)) (sym c.as_slice.ensures.value) ∙ sym c.in-Some.ensures.value ∙ ap Some (sym c.code.ensures.value) in
    let all : AreAll nat_cmp (HasLast rules letter) list.items =
    subst (λ (list : Vec ℕ). AreAll nat_cmp (HasLast rules letter) list.items) (sym c.index-candidates.ensures)
    (c.requires.lasts letter list (omega (arith, c.requires.all_lasts, c.code.ensures.letter.1, c.code.ensures.value))) in
    subst (AreCandidates rules P) (sym c.as_slice-in-Some.ensures.value)
    (candidates_from_all rules (HasLast rules letter) P list.items (λ n has. has.rule)
    (λ n is. ends_with_last rules c.args.phase form letter n c.requires.set last is) all)

pub returns-in-None : goal.returns-in-None
returns-in-None c =
    let none : None ≡ slice_get c.args.form.now (length c.args.form.now - 1) =
    c.in-None.ensures.value ∙ ap (λ (word : List ℕ). slice_get word (length word - 1)) c.as_slice.ensures.value in
    record {
      ok = subst (AreAll nat_cmp (EndsForm c.args.rules.now c.args.phase c.args.form.now)) (sym c.new.ensures.items)
          (nothing_ends c.args.rules.now c.args.phase c.args.form.now c.requires.set none);
    }
