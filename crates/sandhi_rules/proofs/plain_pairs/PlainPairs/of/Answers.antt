-- The next pair is set at its place.
use Rattle.std.proofs.Common.{◌≡◌, ℕ, ◌+◌, true, List, ◌∷◌, [], ◌++◌, slice_set, take, sym, ◌∙◌, ap, subst}
use Rattle.std.proofs.lemmas.List.{take_more}
use Rattle.sandhi_rules.specs.AllowedPairs.{AreAllowed}
use Rattle.sandhi_rules.proofs.AllowedPairLaws.{AreAllowed-push}
use Rattle.sandhi_rules.proofs.plain_pairs.PlainPairs.of.Goals as goal

pub loop-x-preserved : goal.loop-x-preserved
loop-x-preserved c =
    let pairs = c.args.pairs.now in
    let k = c.loop-x.x-index in
    let pair = c.loop-x-item.result in
    let allowed = c.loop-x.allowed.items in
    let longer : take (k + 1) pairs ≡ take k pairs ++ pair ∷ [] =
    take_more pairs k pair c.loop-x-test.true ∙ ap (λ (p : ℕ × ℕ). take k pairs ++ p ∷ []) (sym c.loop-x-item.is) in
    subst (λ (ps : List (ℕ × ℕ)). AreAllowed ps (slice_set allowed c.place_of.result true)) (sym longer)
    (AreAllowed-push (take k pairs) pair allowed c.place_of.result c.loop-x.invariant c.place_of.ensures.place
    c.place_of.ensures.codes.0 c.place_of.ensures.codes.1)
