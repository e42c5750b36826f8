-- The replies to the lines of a block, portion by portion.
use Rattle.std.proofs.Common.{◌≡◌, ℕ, ◌+◌, ◌<◌, ◌≤◌, ◌-◌, List, [], ◌∷◌, ◌++◌, length, take, drop, get_or, refl, sym, ◌∙◌, ap, subst, arith, append_assoc, append-nil, length-append, length-take-le, length-drop, take_all, take-append-drop, add-one, codes}
use Rattle.std.specs.Fmt.{decimal}
use Rattle.std.specs.List.{AllZip, concat}
use Rattle.std.proofs.Math.Seq.{take-suc}
use Rattle.text_definitions.specs.Schemes.{Scheme}
use Rattle.lexicon_definitions.specs.Lexicons.{Lexicon}
use Rattle.lexicon_text_definitions.specs.FileLines as file
use Rattle.segmentation_definitions.specs.PrintedAnswers.{output_line}
use Rattle.run_definitions.specs.BatchOutcomes.{IsLineReply, numbered_reply, AreNumberedReplies}
use Rattle.text_line.specs.Values.{scheme_of}
use Rattle.batch_reader.specs.declared.asked.TextLine.{TextLine}
use Rattle.batch_reader.specs.declared.asked.Portion.{Portion}
use Rattle.batch_reader.specs.declared.asked.Asked.{Asked}
use Rattle.batch_reader.specs.declared.asked.Asked.TheVariants as asked
use Rattle.batch_reader.specs.Replies.{HasLineReply, ArePortionReplies, AreRepliesTo}
use Rattle.batch_reader.specs.Blocks.{IsLineOfText, AskForReplies}

-- the replies to some lines, and then those to others
pub joined : (lexicon : Lexicon) (count number : ℕ) (lines others : List TextLine) (front back : List ℕ)
    → ArePortionReplies lexicon count number lines front → ArePortionReplies lexicon count (number + length lines) others back
    → ArePortionReplies lexicon count number (lines ++ others) (front ++ back)
joined lexicon count number [] others front back p q =
    subst (λ (f : List ℕ). ArePortionReplies lexicon count number others (f ++ back)) (sym p)
    (subst (λ n. ArePortionReplies lexicon count n others back) (omega arith) q)
joined lexicon count number (line ∷ lines) others front back (reply, rest, is, e, p) q = (
  reply,
  rest ++ back,
  is,
  ap (λ (f : List ℕ). f ++ back) e ∙ append_assoc (numbered_reply number reply) rest back,
  joined lexicon count (number + 1) lines others rest back p
      (subst (λ n. ArePortionReplies lexicon count n others back) (omega arith) q),
)

-- one line more of the portion is replied to, after its number
pub line_replied : (lexicon : Lexicon) (count number next place : ℕ) (lines : List TextLine) (line : TextLine) (old with_number new : List ℕ)
    → place < length lines → line ≡ get_or lines place line → next ≡ number + place
    → ArePortionReplies lexicon count number (take place lines) old → with_number ≡ old ++ output_line (codes "line " ++ decimal next)
    → HasLineReply lexicon count line with_number new → ArePortionReplies lexicon count number (take (place + 1) lines) new
line_replied lexicon count number next place lines line old with_number new low same next_is before numbered p =
    subst (λ ls. ArePortionReplies lexicon count number ls new) front
    (subst (ArePortionReplies lexicon count number (take place lines ++ (line ∷ []))) (sym new_is)
    (joined lexicon count number (take place lines) (line ∷ []) old (numbered_reply next p.reply) before
    (p.reply, [], p.is, ap (λ n. numbered_reply n p.reply) (omega (arith, next_is, length-take-le place lines, low)) ∙ sym (append-nil _), refl)))
  where
    front : take place lines ++ (line ∷ []) ≡ take (place + 1) lines
    front = ap (λ (last : TextLine). take place lines ++ (last ∷ [])) same ∙ sym (take-suc lines place line low) ∙ ap (λ (n : ℕ). take n lines) (sym (add-one place))

    new_is : new ≡ old ++ numbered_reply next p.reply
    new_is = p.put ∙ ap (λ (b : List ℕ). b ++ p.reply) numbered ∙ append_assoc old (output_line (codes "line " ++ decimal next)) p.reply

-- the pieces that are replied to those who ask for the replies to these lines are the replies
pub portions_replied : (lexicon : Lexicon) (count number : ℕ) (lines : List TextLine) (block : List Asked) (pieces : List (List ℕ))
    → AskForReplies number lines block → AreRepliesTo lexicon count block pieces → ArePortionReplies lexicon count number lines (concat pieces)
portions_replied lexicon count number lines [] [] asks are = subst (λ ls. ArePortionReplies lexicon count number ls []) (sym asks) refl
portions_replied lexicon count number lines [] (piece ∷ pieces) asks are = absurd are
portions_replied lexicon count number lines (asked.Line other ∷ block) pieces asks are = absurd asks
portions_replied lexicon count number lines (asked.Portion portion ∷ block) [] asks are = absurd are
portions_replied lexicon count number lines (asked.Portion portion ∷ block) (piece ∷ pieces) (others, same, cut, asks) are =
    subst (λ ls. ArePortionReplies lexicon count number ls (piece ++ concat pieces)) (sym cut)
    (joined lexicon count number portion.lines.now others piece (concat pieces)
    (subst (λ n. ArePortionReplies lexicon count n portion.lines.now piece) same are.0.is)
    (portions_replied lexicon count (number + length portion.lines.now) others block pieces asks are.1))

-- one portion more is asked for
portion_asked : (number : ℕ) (lines : List TextLine) (block : List Asked) (portion : Portion) → AskForReplies number lines block
    → portion.number ≡ number + length lines → AskForReplies number (lines ++ portion.lines.now) (block ++ asked.Portion portion ∷ [])
portion_asked number lines [] portion asks next = (
  [],
  next ∙ ap (λ (ls : List TextLine). number + length ls) asks ∙ omega arith,
  ap (λ (ls : List TextLine). ls ++ portion.lines.now) asks ∙ sym (append-nil portion.lines.now),
  refl,
)
portion_asked number lines (asked.Line other ∷ block) portion asks next = absurd asks
portion_asked number lines (asked.Portion first ∷ block) portion (others, is, cut, asks) next = (
  others ++ portion.lines.now,
  is,
  ap (λ (ls : List TextLine). ls ++ portion.lines.now) cut ∙ append_assoc first.lines.now others portion.lines.now,
  portion_asked (number + length first.lines.now) others block portion asks
      (omega (arith, next, ap length cut, length-append first.lines.now others)),
)

-- workers are asked about the lines before those that are left, and the next has this number
pub record HasCutPortions (number : ℕ) (lines : List TextLine) (block : List Asked) (next : ℕ) (left : List TextLine) : Type 0 where
  pub front : List TextLine
  pub whole : lines ≡ front ++ left
  pub asks : AskForReplies number front block
  pub next_is : next ≡ number + length front

module _ (number : ℕ) (lines : List TextLine) where
  -- at first no line is
  pub none_cut : HasCutPortions number lines [] number lines
  none_cut = record { front = []; whole = refl; asks = refl; next_is = omega arith }

  -- one portion more is cut off
  pub portion_cut : (block : List Asked) (next count : ℕ) (left : List TextLine) (portion : Portion) → HasCutPortions number lines block next left
      → count ≤ length left → portion.number ≡ next → portion.lines.now ≡ take count left
      → HasCutPortions number lines (block ++ asked.Portion portion ∷ []) (next + count) (take (length left - count) (drop count left))
  portion_cut block next count left portion p low is same = record {
    front = p.front ++ portion.lines.now;
    whole = p.whole
        ∙ ap (λ (ls : List TextLine). p.front ++ ls) (sym (take-append-drop count left) ∙ (λ i. sym same i ++ sym all i))
        ∙ sym (append_assoc p.front portion.lines.now (take (length left - count) (drop count left)));
    asks = portion_asked number p.front block portion p.asks (is ∙ p.next_is);
    next_is = omega (arith, p.next_is, length-append p.front portion.lines.now, ap length same, length-take-le count left low);
  }
    where
      all : take (length left - count) (drop count left) ≡ drop count left
      all = take_all (length left - count) (drop count left) (omega (arith, length-drop count left))

  -- no line is left
  pub all_cut : (block : List Asked) (next : ℕ) (left : List TextLine) → HasCutPortions number lines block next left → left ≡ []
      → AskForReplies number lines block
  all_cut block next left p none =
      subst (λ ls. AskForReplies number ls block) (sym (p.whole ∙ ap (λ (ls : List TextLine). p.front ++ ls) none ∙ append-nil p.front)) p.asks

-- the replies to the lines of a text, as it has them
pub text_replied : (lexicon : Lexicon) (scheme : Scheme) (count number : ℕ) (lines : List file.Line) (texts : List TextLine) (output : List ℕ)
    → AllZip (IsLineOfText scheme) lines texts → ArePortionReplies lexicon count number texts output → AreNumberedReplies lexicon scheme count number lines output
text_replied lexicon scheme count number [] [] output are p = p
text_replied lexicon scheme count number [] (text ∷ texts) output are p = absurd are
text_replied lexicon scheme count number (line ∷ lines) [] output are p = absurd are
text_replied lexicon scheme count number (line ∷ lines) (text ∷ texts) output are (reply, rest, is, e, p) = (
  reply,
  rest,
  subst (λ (s : Scheme). IsLineReply lexicon s count line.bytes reply) are.0.0
      (subst (λ (bytes : List ℕ). IsLineReply lexicon (scheme_of text.scheme) count bytes reply) are.0.1 is),
  e,
  text_replied lexicon scheme count (number + 1) lines texts rest are.1 p,
)
