-- Lines of a text are cut off one after another.
use Rattle.std.proofs.Common.{◌≡◌, ℕ, ◌+◌, ◌<◌, ◌≤◌, Bool, List, [], ◌∷◌, ◌++◌, length, refl, sym, ◌∙◌, ap, arith, append_assoc, length-append}
use Rattle.std.specs.List.{AllZip}
use Rattle.text_definitions.specs.Schemes.{Scheme}
use Rattle.lexicon_text_definitions.specs.FileLines as file
use Rattle.lexicon_text_definitions.specs.FileLines.{lines_of_bytes}
use Rattle.batch_reader.specs.declared.asked.TextLine.{TextLine}
use Rattle.batch_reader.specs.Blocks.{IsLineOfText, HasCutBlock}
use Rattle.batch_reader.proofs.FoundReplies.{zip_together}

-- the block has some lines of the bytes, and these bytes come after them
pub record HasCutSoFar (scheme : Scheme) (bytes : List ℕ) (block : List TextLine) (rest : List ℕ) : Type 0 where
  pub lines : List file.Line
  pub cut : lines_of_bytes bytes ≡ lines ++ lines_of_bytes rest
  pub are : AllZip (IsLineOfText scheme) lines block
  pub fit : length block + length rest ≤ length bytes

module _ (scheme : Scheme) (bytes : List ℕ) where
  -- at first no line is
  pub none_cut : HasCutSoFar scheme bytes [] bytes
  none_cut = record { lines = []; cut = refl; are = tt; fit = omega arith }

  -- one line more is cut off
  pub cut_on : (block : List TextLine) (rest line following : List ℕ) (ended : Bool) (one : TextLine) → HasCutSoFar scheme bytes block rest
      → lines_of_bytes rest ≡ record { bytes = line; ended = ended } ∷ lines_of_bytes following → length following < length rest
      → IsLineOfText scheme (record { bytes = line; ended = ended }) one → HasCutSoFar scheme bytes (block ++ one ∷ []) following
  cut_on block rest line following ended one p is shorter asks =
      let text : file.Line = record { bytes = line; ended = ended } in record {
        lines = p.lines ++ text ∷ [];
        cut = p.cut ∙ ap (λ (ls : List file.Line). p.lines ++ ls) is ∙ sym (append_assoc p.lines (text ∷ []) (lines_of_bytes following));
        are = zip_together (IsLineOfText scheme) p.lines (text ∷ []) block (one ∷ []) p.are (asks, tt);
        fit = omega (arith, p.fit, shorter, length-append block (one ∷ []));
      }

  -- there are no more bytes, or the block has as many lines as it may have, which is at least one
  pub block_cut : (block : List TextLine) (rest : List ℕ) → HasCutSoFar scheme bytes block rest → (block ≡ [] → rest ≡ [])
      → HasCutBlock scheme bytes block rest
  block_cut block rest p some = record {
    lines = p.lines;
    cut = p.cut;
    are = p.are;
    fit = p.fit;
    shorter = shorter block refl;
  }
    where
      shorter : (texts : List TextLine) → block ≡ texts → 0 < length bytes → length rest < length bytes
      shorter [] none within = let left = ap length (some none) in omega (arith, within, left)
      shorter (one ∷ texts) is within = let count = ap length is in omega (arith, p.fit, count)
