-- The number at the place has the hash, or the one before it in the bucket is looked at.
use Rattle.std.proofs.Common.{◌≡◌, ℕ, ◌-◌, ◌<◌, None, Some, List, length, get_or, unwrap_or, refl, sym, ◌∙◌, ap, subst, arith}
use Rattle.std.specs.Prelude.{IfSome}
use Rattle.std.proofs.lemmas.List.{get_or-map, length-map}
use Rattle.shared_trie.specs.Chains.{IsLastWith}
use Rattle.shared_trie.specs.ChainLinks.{befores_of, hashes_of}
use Rattle.shared_trie.specs.declared.chains.Link.{Link}
use Rattle.shared_trie.proofs.SoughtPlaces.{bound_within, sought_found, sought_next, sought_none}
use Rattle.shared_trie.proofs.chains.Chains.last_with.Goals as goal

pub returns-then-link-hash : goal.returns-then-link-hash
returns-then-link-hash c =
    let links = c.self.inside.links.items in
    let place = c.loop-place.place in
    let link = c.index-link.result.now in
    let few = bound_within (hashes_of links) c.args.hash c.args.before (subst (λ (hs : List ℕ). IfSome c.args.before (λ number. (number < length hs) × (get_or hs number 0 ≡ c.args.hash))) (sym c.self.view_is) c.requires) in
    let below = c.loop-place.invariant.below in
    let low : place - 1 < length links = omega (arith, below, few, length-map links (λ (l : Link). l.hash), c.loop-place-test.true) in
    let read : get_or (hashes_of links) (place - 1) 0 ≡ link.hash = get_or-map (λ (l : Link). l.hash) links (place - 1) link 0 low ∙ ap (λ (l : Link). l.hash) (sym c.index-link.ensures) in
    subst (λ (hs : List ℕ). IsLastWith hs c.args.hash (unwrap_or c.args.before (length hs)) (Some (place - 1))) c.self.view_is
    (sought_found (length c.self.inside.heads.items) (hashes_of links) c.args.hash _ place (place - 1) c.loop-place.invariant c.loop-place-test.true (read ∙ c.if-link-hash.true) refl)

pub loop-place-preserved : goal.loop-place-preserved
loop-place-preserved c =
    let links = c.self.inside.links.items in
    let place = c.loop-place.place in
    let link = c.index-link.result.now in
    let few = bound_within (hashes_of links) c.args.hash c.args.before (subst (λ (hs : List ℕ). IfSome c.args.before (λ number. (number < length hs) × (get_or hs number 0 ≡ c.args.hash))) (sym c.self.view_is) c.requires) in
    let below = c.loop-place.invariant.below in
    let low : place - 1 < length links = omega (arith, below, few, length-map links (λ (l : Link). l.hash), c.loop-place-test.true) in
    let hash_read : get_or (hashes_of links) (place - 1) 0 ≡ link.hash = get_or-map (λ (l : Link). l.hash) links (place - 1) link 0 low ∙ ap (λ (l : Link). l.hash) (sym c.index-link.ensures) in
    let before_read : get_or (befores_of links) (place - 1) 0 ≡ link.before = get_or-map (λ (l : Link). l.before) links (place - 1) link 0 low ∙ ap (λ (l : Link). l.before) (sym c.index-link.ensures) in
    sought_next c.self.inside.heads.items (hashes_of links) (befores_of links) c.args.hash _ place link.before c.self.invariant few c.loop-place.invariant c.loop-place-test.true
    (λ e. c.if-link-hash.false (sym hash_read ∙ e)) (sym before_read)

pub returns : goal.returns
returns c =
    let hashes = hashes_of c.self.inside.links.items in
    subst (λ (hs : List ℕ). IsLastWith hs c.args.hash (unwrap_or c.args.before (length hs)) None) c.self.view_is
    (sought_none (length c.self.inside.heads.items) hashes c.args.hash _ c.loop-place.place c.loop-place.invariant c.loop-place-test.false)
