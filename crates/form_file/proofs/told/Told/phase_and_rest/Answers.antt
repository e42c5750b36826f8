-- No other phase has the name of this one, which has no blank.
use Rattle.std.proofs.Common.{◌≡◌, ◌≢◌, ◌<◌, [], length, map, get_or, take, All, AllPairs, sym, ◌∙◌, ap, subst, Global, arith}
use Rattle.std.specs.List.{position}
use Rattle.std.specs.Str.{bytes_eq}
use Rattle.std.specs.String.{string_bytes}
use Rattle.std.proofs.lemmas.List.{length-map}
use Rattle.std.proofs.lemmas.List.Elements.{All-get_or}
use Rattle.lexicon_definitions.specs.Lexicons.{IsPhaseName}
use Rattle.lexicon_definitions.proofs.FirstPlaces.{mapped_at}
use Rattle.lexicon_text_definitions.specs.FileContents.{Told}
use Rattle.list_laws.proofs.Texts.{bytes_same}
use Rattle.form_file.proofs.FormFields.{begins_with_name}
use Rattle.form_file.proofs.NameLines.{place_of}
use Rattle.form_file.proofs.told.Told.phase_and_rest.Goals as goal

pub returns-then-eq-clause-begins : goal.returns-then-eq-clause-begins
returns-then-eq-clause-begins c =
    let items = c.as_slice-names.result.now in
    let all = map (string_bytes {Z = Global}) items in
    let name = c.as_bytes-name.result.now in
    let within : c.args.guess < length items = omega arith in
    let below : c.args.guess < length all = let long = length-map items (string_bytes {Z = Global}) in omega (arith, long, within) in
    let at = mapped_at (string_bytes {Z = Global}) items c.args.guess c.index-names-guess.result [] within c.index-names-guess.is in
    let is_name : name ≡ get_or all c.args.guess [] = c.as_bytes-name.ensures.value ∙ sym at in
    let names = ap (map (string_bytes {Z = Global})) c.as_slice-names.ensures.value in
    let apart : AllPairs (λ left right. left ≢ right) all = subst (AllPairs (λ left right. left ≢ right)) (sym names) c.self.invariant.apart in
    let named : All IsPhaseName all = subst (All IsPhaseName) (sym names) c.self.invariant.named in
    let place = place_of all name c.args.guess apart below is_name ∙ ap (position (bytes_eq name)) (names ∙ ap (λ (told : Told). told.names) c.self.view_is) in
    let same = bytes_same (take (length name) c.args.text.now) name (sym c.eq.ensures ∙ c.if-eq.true) in
    begins_with_name c.args.self.now.names c.args.text.now name c.args.guess (subst IsPhaseName (sym is_name) (All-get_or IsPhaseName all c.args.guess [] below named)) c.if-text-name.true same c.if-text-name-eq32.true place
