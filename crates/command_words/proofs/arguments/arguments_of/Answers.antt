-- One word more is told.
use Rattle.std.proofs.Common.{◌≡◌, ◌+◌, List, ◌∷◌, map, drop, string_bytes, sym, ap, subst, ◌∙◌, arith}
use Rattle.run_definitions.specs.Arguments.{FileWord, NextWord}
use Rattle.command_words.specs.Meant.{turn_meant, word_meant}
use Rattle.command_words.specs.Turns.{turn_after, is_argument, arguments_with}
use Rattle.command_words.proofs.ArgumentTurns.{GiveWith, one_more}
use Rattle.command_words.proofs.WordLists.{next_item}
use Rattle.command_words.proofs.arguments.arguments_of.Goals as goal

pub loop-word-preserved : goal.loop-word-preserved
loop-word-preserved c =
    let words = c.args.words.now in
    let i = c.loop-word.word-index in
    let word = string_bytes c.word-item.result in
    let turn = turn_meant c.loop-word.turn in
    let so_far = map word_meant c.loop-word.arguments.items in
    let rest = map string_bytes (drop (i + 1) words) in
    let split : map string_bytes (drop i words) ≡ word ∷ rest = next_item string_bytes words i c.word-item.result c.loop-word-test.true c.word-item.is in
    let text : c.as_str-text.result.now ≡ word = c.as_str-text.ensures.value in
    let turns : turn_meant c.turn_after-turn.result ≡ turn_after turn word = c.turn_after-turn.ensures ∙ ap (turn_after turn) text in
    let adds : map word_meant c.push_argument.new.arguments.items ≡ arguments_with (is_argument turn word) so_far c.loop-word.place word =
    c.in_ok-push_argument.ensures ∙ ap (λ b. arguments_with b so_far c.loop-word.place c.as_str-text.result.now) (c.is_argument.ensures ∙ ap (is_argument turn) text)
    ∙ ap (arguments_with (is_argument turn word) so_far c.loop-word.place) text in
    record {
      gives = λ given e.
          let now = subst (λ ws. GiveWith ws turn so_far c.loop-word.place given) split (c.loop-word.invariant.gives given e) in
          let after = one_more word rest turn so_far c.loop-word.place given now in
          subst (λ (t : NextWord). GiveWith rest t (map word_meant c.push_argument.new.arguments.items) (c.loop-word.place + 1) given) (sym turns)
          (subst (λ (xs : List FileWord). GiveWith rest (turn_after turn word) xs (c.loop-word.place + 1) given) (sym adds) after);
      place = let before = c.loop-word.invariant.place in omega (arith, before);
    }
