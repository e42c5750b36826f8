-- One block more is listed; at the end no front is left, or the page is full.
use Rattle.std.proofs.Common.{rules, ◌≡◌, ◌+◌, ◌-◌, ◌*◌, ◌<◌, ◌≤◌, if◌then◌else◌, sym, true, false, None, length, refl, subst}
use Rattle.segmentation_definitions.specs.Listings.{BeforeFirst}
use Rattle.search_split.proofs.PartsFound.{fronts_begin_there}
use Rattle.search_split.proofs.BlocksListed.{IsSoFar, blocks_begin, block_starts, blocks_go_on, blocks_done, blocks_fall}
use Rattle.search_split.proofs.paging.list_page.Goals.{then-loop-more-test+else-len-lister, else-loop-more-test}
use Rattle.search_split.proofs.paging.list_page.Goals as goal

pub loop-more-init : goal.loop-more-init
loop-more-init g c =
    let lister = c.args.lister.now in
    blocks_begin lister.lexicon.now lister.line.now lister.choices.now lister.depth lister.limit (record { texts = c.new-2.result; more = false })
    c.go_to_next_front-more.new.search c.go_to_next_front-more.result c.new-2.ensures.items refl
    (fronts_begin_there lister.lexicon.now lister.line.now lister.choices.now lister.depth None BeforeFirst c.in_ok-search.search
    c.go_to_next_front-more.new.search c.go_to_next_front-more.result c.in_ok-search.ensures.ok refl
    c.go_to_next_front-more.ensures.moved c.go_to_next_front-more.ensures.ended)

pub add_block-requires-clause-starts : goal.add_block-requires-clause-starts
add_block-requires-clause-starts g c κs within =
    let lister = c.args.lister.now in
    let told : c.loop-more.more ≡ true = search rules in
    let so_far = subst (IsSoFar lister.lexicon.now lister.line.now lister.choices.now lister.depth lister.limit c.loop-more.page c.loop-more.search c.loop-more.passed)
    told c.loop-more.invariant in
    block_starts lister.lexicon.now lister.line.now lister.choices.now lister.depth lister.limit c.loop-more.page c.loop-more.page c.loop-more.search
    c.next_starts.new.search c.loop-more.passed so_far c.in_ok-starts.starts
    (λ earlier fronts stands. c.in_ok-starts.ensures.ok lister.lexicon.now lister.line.now lister.choices.now earlier fronts stands)

pub loop-more-preserved : goal.loop-more-preserved
loop-more-preserved g c =
    let lister = c.args.lister.now in
    let starts = c.in_ok-starts.starts in
    let told : c.loop-more.more ≡ true = search rules in
    let so_far = subst (IsSoFar lister.lexicon.now lister.line.now lister.choices.now lister.depth lister.limit c.loop-more.page c.loop-more.search c.loop-more.passed)
    told c.loop-more.invariant in
    let fewer : length c.loop-more.page.texts.items < lister.limit = search rules in
    let count : length starts.list.items ≡ c.len-count.result = search rules in
    subst (λ n. IsSoFar lister.lexicon.now lister.line.now lister.choices.now lister.depth lister.limit c.add_block.new.page c.next_starts.new.search
    (c.loop-more.passed + n) starts.more) count
    (blocks_go_on lister.lexicon.now lister.line.now lister.choices.now lister.depth lister.limit c.loop-more.page c.add_block.new.page c.loop-more.search
    c.next_starts.new.search c.loop-more.passed so_far starts
    (λ earlier fronts stands. c.in_ok-starts.ensures.ok lister.lexicon.now lister.line.now lister.choices.now earlier fronts stands)
    fewer c.in_ok-add_block.ensures.room c.in_ok-add_block.ensures.grows c.in_ok-add_block.ensures.ok)

pub returns : goal.returns
returns g c =
    let lister = c.args.lister.now in
    let full : c.loop-more.more ≡ true → lister.limit ≤ length c.loop-more.page.texts.items = λ told. elim c.loop-more-test.branch [
      | then-loop-more-test+else-len-lister w ↦ (let test = w.if-len-lister.false in let count = w.len.ensures in search rules)
      | else-loop-more-test w ↦ (let none : c.loop-more.more ≡ false = search rules in absurd (cc (told, none)))
    ] in
    record {
      ok = blocks_done lister.lexicon.now lister.line.now lister.choices.now lister.depth lister.limit c.loop-more.page c.loop-more.search c.loop-more.passed
          c.loop-more.more c.loop-more.invariant full c.with_rest.result c.with_rest.ensures.texts c.with_rest.ensures.told c.with_rest.ensures.says;
    }

pub loop-more-smaller : goal.loop-more-smaller
loop-more-smaller g c =
    let lister = c.args.lister.now in
    let starts = c.in_ok-starts.starts in
    let told : c.loop-more.more ≡ true = search rules in
    let so_far = subst (IsSoFar lister.lexicon.now lister.line.now lister.choices.now lister.depth lister.limit c.loop-more.page c.loop-more.search c.loop-more.passed)
    told c.loop-more.invariant in
    let fewer : length c.loop-more.page.texts.items < lister.limit = search rules in
    let old = length c.loop-more.page.texts.items in
    let new = length c.add_block.new.page.texts.items in
    subst (λ more. 2 * (lister.limit - new) + (if starts.more then 1 else 0) < 2 * (lister.limit - old) + (if more then 1 else 0)) (sym told)
    (blocks_fall lister.limit old new (length starts.list.items) starts.more fewer c.in_ok-add_block.ensures.room c.in_ok-add_block.ensures.grows
    (λ more. (c.in_ok-starts.ensures.ok lister.lexicon.now lister.line.now lister.choices.now None so_far.fronts so_far.under).full more))
