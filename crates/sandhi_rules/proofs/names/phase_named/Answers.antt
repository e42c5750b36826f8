-- The first name that passes the test.
use Rattle.std.proofs.Common.{◌≡◌, ℕ, ◌<◌, Bool, map, get_or, [], List, length, arith, below_more, sym, ap, ◌∙◌, Global}
use Rattle.std.proofs.lemmas.List.{length-map}
use Rattle.std.specs.Str.{bytes_eq}
use Rattle.std.specs.String.{string_bytes}
use Rattle.sandhi_rules.proofs.names.phase_named.Goals as goal
use Rattle.lexicon_definitions.proofs.FirstPlaces.{mapped_at, position_is, position_is_none}

-- what the test says at a name
tested : (name known : List ℕ) (all : List (List ℕ)) (k : ℕ) (r : Bool) (bytes : List ℕ) → get_or all k [] ≡ known
    → bytes ≡ known → r ≡ bytes_eq name bytes → bytes_eq name (get_or all k []) ≡ r
tested name known all k r bytes at is e = ap (λ b. bytes_eq name b) (at ∙ sym is) ∙ sym e

pub returns-then-eq-clause-named : goal.returns-then-eq-clause-named
returns-then-eq-clause-named c =
    let names = c.args.names.now in
    let all = map (string_bytes {Z = Global}) names in
    let within : c.loop-phase.phase < length names = omega arith in
    let at = mapped_at (string_bytes {Z = Global}) names c.loop-phase.phase c.index-names-phase.result [] within c.index-names-phase.is in
    position_is (bytes_eq c.args.name.now) all c.loop-phase.phase [] (rw (length-map) within)
    (tested c.args.name.now (string_bytes c.index-names-phase.result) all c.loop-phase.phase c.eq.result c.as_bytes.result.now at c.as_bytes.ensures.value c.eq.ensures ∙ c.if-eq.true)
    c.loop-phase.invariant

pub loop-phase-preserved : goal.loop-phase-preserved
loop-phase-preserved c =
    let names = c.args.names.now in
    let all = map (string_bytes {Z = Global}) names in
    let within : c.loop-phase.phase < length names = omega arith in
    let at = mapped_at (string_bytes {Z = Global}) names c.loop-phase.phase c.index-names-phase.result [] within c.index-names-phase.is in
    below_more _ _ c.loop-phase.invariant
    (tested c.args.name.now (string_bytes c.index-names-phase.result) all c.loop-phase.phase c.eq.result c.as_bytes.result.now at c.as_bytes.ensures.value c.eq.ensures ∙ c.if-eq.false)

pub returns-clause-named : goal.returns-clause-named
returns-clause-named c =
    let names = c.args.names.now in
    let all = map (string_bytes {Z = Global}) names in
    position_is_none (bytes_eq c.args.name.now) all []
    (λ k h. c.loop-phase.invariant k (let h' : k < length names = (rw length-map at h) in omega arith))
