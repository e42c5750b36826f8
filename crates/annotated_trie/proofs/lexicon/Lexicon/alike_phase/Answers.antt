-- What is told stands at the phase, and past the list the phase itself, which is then none of the lexicon's.
use Rattle.std.proofs.Common.{◌≡◌, ℕ, List, ◌≤◌, get_or, sym, subst, ap, ◌∙◌}
use Rattle.std.proofs.lemmas.List.{get_or_default, get_or_past}
use Rattle.annotated_trie.specs.Searched.{SearchedLexicon}
use Rattle.annotated_trie.proofs.AlikeLaws.{lowest_alike}
use Rattle.annotated_trie.proofs.lexicon.Lexicon.alike_phase.Goals as goal

pub returns-in-Some-clause-first : goal.returns-in-Some-clause-first
returns-in-Some-clause-first c within other alike =
    let phase = c.args.phase in
    let firsts = c.self.inside.alike.items in
    let lookup = c.in-Some.ensures.lookup in
    let read : c.in-Some.first.now ≡ get_or firsts phase phase =
    lookup.1 ∙ get_or_default c.deref.result.now phase c.in-Some.first.now phase lookup.3.0 ∙ ap (λ (ns : List ℕ). get_or ns phase phase) c.deref.ensures.value in
    subst (λ (n : ℕ). n ≤ other) (sym read)
    (lowest_alike c.self.inside.rules c.args.self.now.lexicon.rules firsts phase other (ap (λ (s : SearchedLexicon). s.lexicon.rules) c.self.view_is) c.self.invariant.1 within alike)

pub returns-in-None-clause-first : goal.returns-in-None-clause-first
returns-in-None-clause-first c within other alike =
    let phase = c.args.phase in
    let firsts = c.self.inside.alike.items in
    let lookup = c.in-None.ensures.lookup in
    let past : get_or firsts phase phase ≡ phase =
    ap (λ (ns : List ℕ). get_or ns phase phase) (sym c.deref.ensures.value) ∙ get_or_past c.deref.result.now phase phase lookup.3 in
    subst (λ (n : ℕ). n ≤ other) past
    (lowest_alike c.self.inside.rules c.args.self.now.lexicon.rules firsts phase other (ap (λ (s : SearchedLexicon). s.lexicon.rules) c.self.view_is) c.self.invariant.1 within alike)
