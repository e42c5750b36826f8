-- The front is stripped off, then the middle, and what is left is compared with the end.
use Rattle.std.proofs.Common.{◌≡◌, ◌≢◌, ◌++◌, List, ℕ, sym, ap, ◌∙◌, append_assoc}
use Rattle.std.proofs.lemmas.Bool.Decides.{Decides-eqb}
use Rattle.std.proofs.lemmas.List.{append_cancel_left}
use Rattle.std.proofs.lemmas.Slice.Eq.{strip_prefix_is, slice_eq-Decides}
use Rattle.reader_choices.proofs.allowing.is_joined.Goals as goal

pub returns-in_default : goal.returns-in_default
returns-in_default c =
    let none : (rest : List ℕ) → c.args.word.now ≢ c.args.front.now ++ rest =
    rw c.in_default.is at (strip_prefix_is Decides-eqb c.args.word.now c.args.front.now c.strip_prefix.result c.strip_prefix.ensures.cases) in (
      λ t. absurd (cc),
      λ e. absurd (none (c.args.middle.now ++ c.args.end.now) (e ∙ append_assoc c.args.front.now c.args.middle.now c.args.end.now)),
    )

pub returns-in-None : goal.returns-in-None
returns-in-None c =
    let first : c.args.word.now ≡ c.args.front.now ++ c.in-Some.rest.now =
    rw c.in-Some.is at (strip_prefix_is Decides-eqb c.args.word.now c.args.front.now c.strip_prefix.result c.strip_prefix.ensures.cases) in
    let none : (rest : List ℕ) → c.in-Some.rest.now ≢ c.args.middle.now ++ rest =
    rw c.in-None.is at (strip_prefix_is Decides-eqb c.in-Some.rest.now c.args.middle.now c.strip_prefix-2.result c.strip_prefix-2.ensures.cases) in (
      λ t. absurd (cc),
      λ e. absurd (none c.args.end.now (append_cancel_left c.args.front.now c.in-Some.rest.now (c.args.middle.now ++ c.args.end.now)
          (sym first ∙ e ∙ append_assoc c.args.front.now c.args.middle.now c.args.end.now))),
    )

pub returns-in-Some-strip_prefix : goal.returns-in-Some-strip_prefix
returns-in-Some-strip_prefix c =
    let front = c.args.front.now in
    let middle = c.args.middle.now in
    let last = c.in-Some-strip_prefix.last.now in
    let first : c.args.word.now ≡ front ++ c.in-Some.rest.now =
    rw c.in-Some.is at (strip_prefix_is Decides-eqb c.args.word.now front c.strip_prefix.result c.strip_prefix.ensures.cases) in
    let second : c.in-Some.rest.now ≡ middle ++ last =
    rw c.in-Some-strip_prefix.is at (strip_prefix_is Decides-eqb c.in-Some.rest.now middle c.strip_prefix-2.result c.strip_prefix-2.ensures.cases) in
    let same = slice_eq-Decides Decides-eqb last c.args.end.now c.eq.result c.eq.ensures in
    let whole : c.args.word.now ≡ front ++ middle ++ last = first ∙ ap (λ rest. front ++ rest) second ∙ sym (append_assoc front middle last) in (
      λ t. whole ∙ ap (λ rest. front ++ middle ++ rest) (same.0 t),
      λ e. same.1 (append_cancel_left (front ++ middle) last c.args.end.now (sym whole ∙ e)),
    )
