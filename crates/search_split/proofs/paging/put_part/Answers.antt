-- What is listed is enough, so an answer is put where there is room for one, and the page has those of one front more.
use Rattle.std.proofs.Common.{rules, ◌≡◌, ◌-◌, ◌≤◌, true, length, subst}
use Rattle.std.proofs.lemmas.Result.{on_ok_weaker}
use Rattle.search_split.specs.Listing.{HasPut}
use Rattle.search_split.proofs.PagesPut.{put_grows, some_listed, put_listed}
use Rattle.search_split.proofs.paging.put_part.Goals as goal

pub returns-clause-grows : goal.returns-clause-grows
returns-clause-grows g c =
    let lister = c.args.lister.now in
    let listed = c.in_ok-listed.listed in
    let old = c.args.page.now in
    let new = c.put_listed.new.page in
    let len : c.len.result ≡ length old.texts.items = search rules in
    let enough : listed.more ≡ true → lister.limit - length old.texts.items ≤ length listed.texts.items =
    subst (λ n. listed.more ≡ true → lister.limit - n ≤ length listed.texts.items) len c.in_ok-listed.ensures.enough in
    on_ok_weaker c.put_listed.result (λ put.
    put_grows lister.limit listed old new (subst (λ n. HasPut (lister.limit - n) listed old new) len put) c.requires.room
    (some_listed lister.lexicon.now lister.line.now lister.choices.now lister.depth lister.limit c.args.start.now listed c.in_ok-listed.ensures.ok
    c.requires.start (lister.limit - length old.texts.items) enough))
    c.put_listed.ensures.ok

pub returns-clause-ok : goal.returns-clause-ok
returns-clause-ok g c =
    let lister = c.args.lister.now in
    let listed = c.in_ok-listed.listed in
    let old = c.args.page.now in
    let new = c.put_listed.new.page in
    let len : c.len.result ≡ length old.texts.items = search rules in
    let enough : listed.more ≡ true → lister.limit - length old.texts.items ≤ length listed.texts.items =
    subst (λ n. listed.more ≡ true → lister.limit - n ≤ length listed.texts.items) len c.in_ok-listed.ensures.enough in
    on_ok_weaker c.put_listed.result (λ put fronts after page.
    put_listed lister.lexicon.now lister.line.now lister.choices.now lister.depth lister.limit c.args.start.now listed c.in_ok-listed.ensures.ok
    fronts old new (subst (λ n. HasPut (lister.limit - n) listed old new) len put) enough after page)
    c.put_listed.ensures.ok
