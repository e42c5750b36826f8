-- A node more is of the level, or not.
use Rattle.std.proofs.Common.{◌≡◌, ◌+◌, ◌++◌, ◌∙◌, [], ◌∷◌, ℕ, true≢false, sym, ap, subst, arith}
use Rattle.trie_text_definitions.specs.VersionTexts.{IsLedTo}
use Rattle.shared_trie.specs.CanonicalNodes.{height_of}
use Rattle.shared_trie.proofs.CanonicalSteps.{IsLevelBelow, level_with, level_without, whole_level}
use Rattle.shared_trie.proofs.canonical.level_of.Goals as goal

pub loop-number-preserved-then-not-is_of_level : goal.loop-number-preserved-then-not-is_of_level
loop-number-preserved-then-not-is_of_level c =
    level_without c.args.store.now c.args.height c.loop-number.number c.loop-number.level.items c.loop-number.invariant
    (λ h. true≢false (sym (c.is_of_level.ensures.1 (subst (λ (n : ℕ). IsLedTo c.args.store.now n × (height_of c.args.store.now.rows n ≡ c.args.height)) (sym c.node-node.ensures) h)) ∙ c.if-not-is_of_level.true))

pub loop-number-preserved : goal.loop-number-preserved
loop-number-preserved c =
    let here = subst (λ (n : ℕ). IsLedTo c.args.store.now n × (height_of c.args.store.now.rows n ≡ c.args.height)) c.node-node.ensures (c.is_of_level.ensures.0 c.if-not-is_of_level.false) in
    subst (IsLevelBelow c.args.store.now c.args.height (c.loop-number.number + 1)) (sym (c.in_ok-push.ensures.items ∙ ap (λ (n : ℕ). c.loop-number.level.items ++ n ∷ []) c.node-node.ensures))
    (level_with c.args.store.now c.args.height c.loop-number.number c.loop-number.level.items c.loop-number.invariant here)

pub returns : goal.returns
returns c =
    let count = c.len-number-end.ensures.value in
    let past = c.loop-number-test.false in
    whole_level c.args.store.now c.len-number-end.ensures.trie c.args.height c.loop-number.number c.loop-number.level.items (omega (arith, count, past)) c.loop-number.invariant
