-- The new number is the last in its bucket.
use Rattle.std.proofs.Common.{ℕ, ◌≡◌, List, ◌∷◌, [], ◌++◌, length, set, ◌∙◌, ap, subst, sym, arith}
use Rattle.std.proofs.lemmas.List.{get_or_default, length-map, length_push, map_push}
use Rattle.shared_trie.specs.Chains.{AreChained, bucket_in}
use Rattle.shared_trie.specs.ChainLinks.{befores_of, hashes_of}
use Rattle.shared_trie.specs.declared.chains.Link.{Link}
use Rattle.shared_trie.proofs.ChainLaws.{chained_push}
use Rattle.shared_trie.proofs.chains.put.Goals as goal

pub returns-clause-chained : goal.returns-clause-chained
returns-clause-chained c =
    let heads = c.args.heads.now.items in
    let links = c.args.links.now.items in
    let link : Link = record { hash = c.args.hash; before = c.index-before.result.now } in
    let pushed = c.in_ok-push.ensures.items in
    let long = length-map links (λ (link : Link). link.hash) in
    let longer = length_push links link in
    let same = ap length pushed in
    let few = c.requires.few in
    let size : c.len.result ≡ length heads = c.len.ensures ∙ c.args.heads.now.ok.0 in
    subst (λ (ls : List Link). AreChained (set heads c.bucket_of-bucket.result c.len-2.result) (hashes_of ls) (befores_of ls)) (sym pushed)
    (subst (λ (hs : List ℕ). AreChained (set heads c.bucket_of-bucket.result c.len-2.result) hs (befores_of (links ++ link ∷ []))) (sym (map_push (λ (link : Link). link.hash) links link))
    (subst (AreChained (set heads c.bucket_of-bucket.result c.len-2.result) (hashes_of links ++ link.hash ∷ [])) (sym (map_push (λ (link : Link). link.before) links link))
    (chained_push heads (hashes_of links) (befores_of links) link.hash c.bucket_of-bucket.result link.before c.len-2.result c.requires.chained
    (let within = c.bucket_of-bucket.ensures.within in omega (arith, within, size))
    (omega (arith, long, few)) (c.bucket_of-bucket.ensures.value ∙ ap (λ (n : ℕ). bucket_in n c.args.hash) size)
    (c.index-before.ensures ∙ get_or_default heads c.bucket_of-bucket.result c.index-before.result.now 0 (let within = c.bucket_of-bucket.ensures.within in omega (arith, within, size)))
    (let size = c.len-2.ensures in omega (arith, size, same, longer, long)))))
