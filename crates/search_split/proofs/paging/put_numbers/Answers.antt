-- The next text gets its number.
use Rattle.std.proofs.Common.{◌≡◌, ◌+◌, ◌++◌, [], get_or, slice_set, map, string_bytes, decimal, sym, ap, ◌∙◌, arith, add-one}
use Rattle.std.proofs.lemmas.List.{length-set, length-map, map-set, get_or-map}
use Rattle.search_split.proofs.NumbersPut.{numbered, next_kept, one_numbered, all_numbered}
use Rattle.search_split.proofs.paging.put_numbers.Goals as goal

pub loop-place-preserved : goal.loop-place-preserved
loop-place-preserved c =
    let before = map string_bytes c.args.texts.now.items in
    let now = c.loop-place.texts.items in
    let place = c.loop-place.place in
    let many = length-map c.args.texts.now.items string_bytes in
    let count = c.loop-place.invariant.count in
    let test = c.loop-place-test.true in
    let end = c.len-place-end.ensures in
    let few = c.requires.few in
    let kept : string_bytes c.index_mut.result.now ≡ get_or before place [] =
    ap string_bytes c.index_mut.ensures.value
    ∙ sym (get_or-map string_bytes now place c.index_mut.result.now [] (omega (arith, count, test, end)))
    ∙ ap (λ texts. get_or texts place []) c.loop-place.invariant.texts
    ∙ next_kept 1 place before in
    let first : place + 1 ≡ 1 + place = omega arith in
    let text : string_bytes c.put_number.new.text ≡ decimal (1 + place) ++ get_or before place [] =
    c.in_ok-put_number.ensures.ok ∙ ap (λ text. decimal (place + 1) ++ text) kept ∙ ap (λ n. decimal n ++ get_or before place []) first in
    record {
      texts = map-set string_bytes now place c.put_number.new.text
          ∙ ap (λ texts. slice_set texts place (string_bytes c.put_number.new.text)) c.loop-place.invariant.texts
          ∙ ap (λ text. slice_set (numbered 1 place before) place text) text
          ∙ one_numbered 1 place before (omega (arith, many, test, end)) (omega (arith, many, few))
          ∙ ap (λ n. numbered 1 n before) (sym (add-one place));
      count = length-set now place c.put_number.new.text ∙ count;
    }

pub returns : goal.returns
returns c =
    let texts = map string_bytes c.args.texts.now.items in
    let many = length-map c.args.texts.now.items string_bytes in
    let test = c.loop-place-test.false in
    let end = c.len-place-end.ensures in
    record { ok = c.loop-place.invariant.texts ∙ all_numbered 1 c.loop-place.place texts (omega (arith, many, test, end)) }
