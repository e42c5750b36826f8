-- The replies to the lines of one block come after those to the lines before it.
use Rattle.std.proofs.Common.{◌≡◌, ℕ, ◌+◌, ◌≤◌, List, [], ◌∷◌, ◌++◌, length, Option, Some, None, refl, sym, ◌∙◌, ap, subst, arith, append_assoc, append-nil, length-append}
use Rattle.std.specs.List.{AllZip}
use Rattle.outside.specs.Told.{bytes_after, GrowsByPrefix}
use Rattle.outside.proofs.ToldLemmas.{bytes_after-bytes_after, GrowsByPrefix-after, GrowsByPrefix-all}
use Rattle.text_definitions.specs.Schemes.{Scheme}
use Rattle.lexicon_definitions.specs.Lexicons.{Lexicon}
use Rattle.lexicon_text_definitions.specs.FileLines as file
use Rattle.lexicon_text_definitions.specs.FileLines.{lines_of_bytes}
use Rattle.run_definitions.specs.BatchOutcomes.{AreNumberedReplies}
use Rattle.batch_reader.specs.declared.asked.TextLine.{TextLine}
use Rattle.batch_reader.specs.Replies.{ArePortionReplies}
use Rattle.batch_reader.specs.Blocks.{IsLineOfText, HasCutBlock}
use Rattle.batch_reader.specs.Serving.{WroteReplies, WroteFirstReplies}
use Rattle.batch_reader.proofs.FoundReplies.{zip_together, zip_length}
use Rattle.batch_reader.proofs.RepliedLines.{joined, text_replied}

-- the lines before these bytes were replied to, and the next has this number
pub record HasServedSoFar (lexicon : Lexicon) (scheme : Scheme) (count number : ℕ) (text rest : List ℕ) (old now : Option (List ℕ)) : Type 0 where
  pub lines : List file.Line
  pub cut : lines_of_bytes text ≡ lines ++ lines_of_bytes rest
  pub texts : List TextLine
  pub are : AllZip (IsLineOfText scheme) lines texts
  pub output : List ℕ
  pub replies : ArePortionReplies lexicon count 1 texts output
  pub wrote : now ≡ bytes_after old output
  pub next : number ≡ 1 + length lines
  pub fit : length lines + length rest ≤ length text

module _ (lexicon : Lexicon) (scheme : Scheme) (count : ℕ) (text : List ℕ) (old : Option (List ℕ)) where
  pub served_none : HasServedSoFar lexicon scheme count 1 text text old old
  served_none = record {
    lines = [];
    cut = refl;
    texts = [];
    are = tt;
    output = [];
    replies = refl;
    wrote = nothing_more old;
    next = refl;
    fit = omega arith;
  }
    where
      nothing_more : (written : Option (List ℕ)) → written ≡ bytes_after written []
      nothing_more None = refl
      nothing_more (Some told) = ap Some (sym (append-nil told))

  -- the replies to the lines so far
  replied : (number : ℕ) (rest : List ℕ) (now : Option (List ℕ)) (p : HasServedSoFar lexicon scheme count number text rest old now)
      → AreNumberedReplies lexicon scheme count 1 p.lines p.output
  replied number rest now p = text_replied lexicon scheme count 1 p.lines p.texts p.output p.are p.replies

  -- nothing is left
  pub served_all : (number : ℕ) (rest : List ℕ) (now : Option (List ℕ)) → HasServedSoFar lexicon scheme count number text rest old now
      → length rest ≡ 0 → WroteReplies lexicon scheme count text old now
  served_all number [] now p none = record {
    output = p.output;
    replies = subst (λ (ls : List file.Line). AreNumberedReplies lexicon scheme count 1 ls p.output) (sym (p.cut ∙ append-nil p.lines)) (replied number [] now p);
    wrote = p.wrote;
  }
  served_all number (byte ∷ rest) now p none = absurd (omega (arith, none))

  -- it stops before the next block is written
  pub stopped_before : (number : ℕ) (rest : List ℕ) (now : Option (List ℕ)) → HasServedSoFar lexicon scheme count number text rest old now
      → WroteFirstReplies lexicon scheme count text old now
  stopped_before number rest now p = record {
    output = p.output;
    replies = record { lines = p.lines; others = lines_of_bytes rest; first = p.cut; replies = replied number rest now p };
    grown = GrowsByPrefix-all old now p.output p.wrote;
  }

  module _ (number : ℕ) (rest : List ℕ) (now : Option (List ℕ)) (p : HasServedSoFar lexicon scheme count number text rest old now)
      (block : List TextLine) (following replies : List ℕ) (cut : HasCutBlock scheme rest block following)
      (are : ArePortionReplies lexicon count number block replies) where
    both : ArePortionReplies lexicon count 1 (p.texts ++ block) (p.output ++ replies)
    both = joined lexicon count 1 p.texts block p.output replies p.replies
        (subst (λ n. ArePortionReplies lexicon count n block replies)
        (p.next ∙ ap (λ n. 1 + n) (sym (zip_length (IsLineOfText scheme) p.lines p.texts p.are))) are)

    both_are : AllZip (IsLineOfText scheme) (p.lines ++ cut.lines) (p.texts ++ block)
    both_are = zip_together (IsLineOfText scheme) p.lines cut.lines p.texts block p.are cut.are

    both_cut : lines_of_bytes text ≡ (p.lines ++ cut.lines) ++ lines_of_bytes following
    both_cut = p.cut ∙ ap (λ (ls : List file.Line). p.lines ++ ls) cut.cut ∙ sym (append_assoc p.lines cut.lines (lines_of_bytes following))

    -- the block is written
    pub served_more : (new : Option (List ℕ)) → new ≡ bytes_after now replies
        → HasServedSoFar lexicon scheme count (number + length block) text following old new
    served_more new wrote =
        let many = zip_length (IsLineOfText scheme) cut.lines block cut.are in record {
          lines = p.lines ++ cut.lines;
          cut = both_cut;
          texts = p.texts ++ block;
          are = both_are;
          output = p.output ++ replies;
          replies = both;
          wrote = wrote ∙ ap (λ (x : Option (List ℕ)). bytes_after x replies) p.wrote ∙ bytes_after-bytes_after old p.output replies;
          next = omega (arith, p.next, many, length-append p.lines cut.lines);
          fit = omega (arith, p.fit, cut.fit, many, length-append p.lines cut.lines);
        }

    -- it stops while the block is written
    pub stopped_within : (new : Option (List ℕ)) → GrowsByPrefix now new replies → WroteFirstReplies lexicon scheme count text old new
    stopped_within new grown = record {
      output = p.output ++ replies;
      replies = record {
        lines = p.lines ++ cut.lines;
        others = lines_of_bytes following;
        first = both_cut;
        replies = text_replied lexicon scheme count 1 (p.lines ++ cut.lines) (p.texts ++ block) (p.output ++ replies) both_are both;
      };
      grown = GrowsByPrefix-after old now new p.output replies p.wrote grown;
    }
