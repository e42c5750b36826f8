-- The answers of the next part are put after the page so far.
use Rattle.std.proofs.Common.{rules, ◌≡◌, ◌++◌, None, length, get_or, map, take, slice_set, sym, ◌∙◌, subst, arith}
use Rattle.std.specs.Prelude.{Option}
use Rattle.std.specs.Vec.{vec_len}
use Rattle.std.proofs.lemmas.List.{get_or_read_under}
use Rattle.search_split.specs.declared.start.Start.{Start}
use Rattle.search_split.specs.declared.listing.Listed.{Listed}
use Rattle.search_split.specs.Starts.{front_from}
use Rattle.search_split.specs.Listing.{IsFoundFor, AreFound, IsPageOfFronts}
use Rattle.search_split.proofs.FoundLists.{found_count, found_at, taken_out}
use Rattle.search_split.proofs.PagesPut.{next_after, one_front_on, grows_on}
use Rattle.search_split.proofs.paging.put_all.Goals as goal

pub index_mut-requires : goal.index_mut-requires
index_mut-requires g c =
    let lister = c.args.lister.now in
    let count = found_count lister.lexicon.now lister.line.now lister.choices.now lister.depth c.args.starts.now c.loop-place.found.items
    c.loop-place.invariant.found in
    let len : length c.loop-place.found.items ≡ vec_len c.loop-place.found = search rules in
    let test = c.loop-place-test.true in
    omega (arith, count, len, test)

pub put_part-requires-clause-found : goal.put_part-requires-clause-found
put_part-requires-clause-found g c =
    let lister = c.args.lister.now in
    let starts = c.args.starts.now in
    let place = c.loop-place.place in
    let low = c.loop-place-test.true in
    let start = c.index-starts-place.result in
    let count = found_count lister.lexicon.now lister.line.now lister.choices.now lister.depth starts c.loop-place.found.items c.loop-place.invariant.found in
    let taken : c.take-listed.result ≡ get_or c.loop-place.found.items place None =
    c.take-listed.ensures.value
    ∙ get_or_read_under c.loop-place.found.items place (length starts) c.index_mut.result.now None c.index_mut.ensures.value low (sym count) in
    subst (λ (o : Option Listed). IsFoundFor lister.lexicon.now lister.line.now lister.choices.now lister.depth start o) (sym taken)
    (subst (λ (part : Start). IsFoundFor lister.lexicon.now lister.line.now lister.choices.now lister.depth part (get_or c.loop-place.found.items place None))
    (sym c.index-starts-place.is)
    (found_at lister.lexicon.now lister.line.now lister.choices.now lister.depth starts c.loop-place.found.items place start c.loop-place.invariant.found low))

pub loop-place-preserved : goal.loop-place-preserved
loop-place-preserved g c =
    let lister = c.args.lister.now in
    let starts = c.args.starts.now in
    let place = c.loop-place.place in
    let low = c.loop-place-test.true in
    let start = c.index-starts-place.result in
    let same = c.index-starts-place.is in
    record {
      found = subst (λ (o : Option Listed). AreFound lister.lexicon.now lister.line.now lister.choices.now lister.depth starts (slice_set c.loop-place.found.items place o))
          (sym c.take-listed.ensures.after)
          (taken_out lister.lexicon.now lister.line.now lister.choices.now lister.depth starts c.loop-place.found.items place c.loop-place.invariant.found low);
      room = c.in_ok-put_part.ensures.room;
      grows = grows_on lister.limit (length c.args.page.now.texts.items) place (length c.loop-place.page.texts.items) (length c.put_part.new.page.texts.items)
          c.in_ok-put_part.ensures.room c.loop-place.invariant.grows c.in_ok-put_part.ensures.grows;
      ok = λ fronts rising page.
          subst (λ all. IsPageOfFronts lister.lexicon.now lister.line.now lister.choices.now lister.depth lister.limit all c.put_part.new.page)
          (one_front_on lister.depth fronts starts place start low same)
          (c.in_ok-put_part.ensures.ok (fronts ++ map (front_from lister.depth) (take place starts))
          (next_after lister.depth fronts starts place start low same rising) (c.loop-place.invariant.ok fronts rising page));
    }
