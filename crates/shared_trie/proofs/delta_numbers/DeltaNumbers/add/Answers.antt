-- The delta goes last, and its letters after those of all others.
use Rattle.std.proofs.Common.{◌≡◌, ◌++◌, ◌∷◌, [], List, ℕ, length, ◌∙◌, ap, arith}
use Rattle.form_tags.specs.TagTexts.{tag_text}
use Rattle.lexicon_definitions.specs.Deltas.{Delta}
use Rattle.shared_trie.specs.declared.delta_numbers.DeltaParts.{DeltaParts}
use Rattle.shared_trie.proofs.PackedParts.{deltas_pushed}
use Rattle.shared_trie.proofs.delta_numbers.DeltaNumbers.add.Goals as goal

pub returns-clause-grown : goal.returns-clause-grown
returns-clause-grown c =
    let parts = c.self.inside in
    let append = c.args.append.now in
    let one : DeltaParts = record { cut = c.args.cut; first = c.len-first.result; end = c.len.result; tag = c.args.tag } in
    let delta : Delta = record { cut = c.args.cut; append = append; tag = tag_text c.args.tag } in
    let kept = ap length c.reserve-2.ensures.items in
    let longer : c.extend_from_slice.new.self.items ≡ parts.letters.items ++ append =
    c.in-Ok.ensures.items ∙ ap (λ (ls : List ℕ). ls ++ append) c.reserve-2.ensures.items in
    let more : c.push-2.new.self.items ≡ parts.parts.items ++ one ∷ [] =
    c.in-Ok-push.ensures.items ∙ ap (λ (ds : List DeltaParts). ds ++ one ∷ []) c.reserve.ensures.items in
    let first = c.len-first.ensures in
    let end = c.len.ensures in
    let size = c.in-Ok.ensures.len in
    record {
      more = delta ∷ [];
      is = deltas_pushed parts.letters.items c.extend_from_slice.new.self.items append parts.parts.items c.push-2.new.self.items one c.self.invariant.1 longer more
          (omega (arith, first, kept)) (omega (arith, first, end, size))
          ∙ ap (λ (ds : List Delta). ds ++ delta ∷ []) c.self.view_is;
      few = omega arith;
    }
