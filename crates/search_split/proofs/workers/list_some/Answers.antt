-- There is a place for each part, and what is listed of a part is put at its place.
use Rattle.std.proofs.Common.{rules, ◌≡◌, length, get_or, ap, ◌∙◌, subst, arith}
use Rattle.std.specs.Vec.{vec_len}
use Rattle.search_split.specs.declared.start.Start.{Start}
use Rattle.search_split.specs.Starts.{front_from}
use Rattle.search_split.specs.Listing.{IsListed}
use Rattle.search_split.proofs.FoundLists.{found_count, one_listed}
use Rattle.search_split.proofs.workers.list_some.Goals as goal

pub index_mut-requires : goal.index_mut-requires
index_mut-requires g c =
    let lister = c.args.lister.now in
    let starts = c.args.block.now.starts.items in
    let count = found_count lister.lexicon.now lister.line.now lister.choices.now lister.depth starts c.loop.found.items c.loop.invariant in
    let len : length c.loop.found.items ≡ vec_len c.loop.found = search rules in
    let slice = ap length c.as_slice-starts.ensures.value in
    let test = c.if-place-starts.false in
    omega (arith, count, len, slice, test)

pub loop-preserved : goal.loop-preserved
loop-preserved g c =
    let lister = c.args.lister.now in
    let starts = c.args.block.now.starts.items in
    let place = c.take_next-place.result in
    let start = c.index-starts-place.result in
    let slice = ap length c.as_slice-starts.ensures.value in
    let test = c.if-place-starts.false in
    let same : start ≡ get_or starts place start = c.index-starts-place.is ∙ ap (λ list. get_or list place start) c.as_slice-starts.ensures.value in
    one_listed lister.lexicon.now lister.line.now lister.choices.now lister.depth starts c.loop.found.items place start c.in_ok-listed.listed c.loop.invariant
    (omega (arith, slice, test))
    (subst (λ (part : Start). IsListed lister.lexicon.now lister.line.now lister.choices.now lister.depth (front_from lister.depth part) c.in_ok-listed.listed) same
    c.in_ok-listed.ensures.ok)
