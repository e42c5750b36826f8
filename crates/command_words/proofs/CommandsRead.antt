-- The words are those of the command that takes what they give; or they are no command's, since they are too many or too long or
-- give nothing, or no command of this name takes what they give.
use Rattle.std.proofs.Common.{◌≡◌, ℕ, ◌+◌, ◌-◌, ◌*◌, ◌^◌, ◌≤◌, List, [], ◌∷◌, length, Some, None, sym, ◌∙◌, ap, subst, arith}
use Rattle.std.specs.List.{All}
use Rattle.run_definitions.specs.declared.limits.TheConstants.{MOST_WORD_BYTES}
use Rattle.run_definitions.specs.Arguments.{Given, FileWord, given_by}
use Rattle.run_definitions.specs.Commands.{Command, Segment, Check, Build, Read, Batch, Demo, Convert, Join, Split, Annotate, Reread, Migrate, Takes, name_of_command, AreWordsOf, AreOfNoCommand}
use Rattle.command_words.proofs.WordCounts.{few_words}

-- a scheme takes one value at most
one_value : (values : List (List ℕ)) (command : Command) (given : List FileWord) → Takes command values given → length given + 2 * length values ≤ 8
one_value values (Check lex) given takes = omega (arith, ap length takes.0, ap length takes.1)
one_value values (Build rules tables stems out) given takes = omega (arith, ap length takes.0, ap length takes.1)
one_value values (Read lex) given takes = omega (arith, ap length takes.0, ap length takes.1)
one_value values (Batch lex scheme file count) given takes = omega (arith, ap length takes.0, ap length takes.1.are)
one_value values (Demo number) given takes = omega (arith, ap length takes.0, ap length takes.1.are)
one_value values (Convert from to file out) given takes = omega (arith, ap length takes.0, ap length takes.1.are)
one_value values (Join lex chain) given takes = omega (arith, ap length takes.0, ap length takes.1.1)
one_value values (Split lex text count depth) given takes = omega (arith, ap length takes.0, ap length takes.1.are)
one_value values (Annotate lex mark out) given takes = omega (arith, ap length takes.0, ap length takes.1.1)
one_value values (Reread lex file) given takes = omega (arith, ap length takes.0, ap length takes.1)
one_value values (Migrate lex out) given takes = omega (arith, ap length takes.0, ap length takes.1)
one_value [] (Segment lex scheme text) given takes = omega (arith, ap length takes.1.1)
one_value (value ∷ []) (Segment lex scheme text) given takes = omega (arith, ap length takes.1.1)
one_value (value ∷ other ∷ values) (Segment lex scheme text) given takes = absurd takes.0

module _ (words : List (List ℕ)) (name : List ℕ) (following : List (List ℕ)) (are : words ≡ name ∷ following) where
  same_following : (command : Command) (p : AreWordsOf command words) → p.following ≡ following
  same_following command p =
      let e : name_of_command command ∷ p.following ≡ name ∷ following = sym p.are ∙ are in cc (e)

  same_name : (command : Command) (p : AreWordsOf command words) → name ≡ name_of_command command
  same_name command p =
      let e : name_of_command command ∷ p.following ≡ name ∷ following = sym p.are ∙ are in cc (e)

  pub too_many : 2 ^ 32 - 1 ≤ length following → AreOfNoCommand words
  too_many many command p =
      let few = few_words p.following p.values p.given p.have in
      omega (arith, many, few, ap length (same_following command p), one_value p.values command p.given p.takes)

  pub too_long : (All (λ word. length word ≤ MOST_WORD_BYTES) following → ⊥) → AreOfNoCommand words
  too_long long command p = long (subst (All (λ word. length word ≤ MOST_WORD_BYTES)) (same_following command p) p.within_limit)

  pub gives_nothing : given_by following ≡ None → AreOfNoCommand words
  gives_nothing none command p =
      let e : None ≡ Some (record { values = p.values; arguments = p.given }) =
      sym none ∙ ap given_by (sym (same_following command p)) ∙ p.have in cc (e)

  module _ (given : Given) (give : given_by following ≡ Some given) where
    pub taken_by_none : ((command : Command) → name ≡ name_of_command command → Takes command given.values given.arguments → ⊥)
        → AreOfNoCommand words
    taken_by_none none command p =
        let own : Given = record { values = p.values; arguments = p.given } in
        let e : Some own ≡ Some given = sym p.have ∙ ap given_by (same_following command p) ∙ give in
        let same : own ≡ given = cc (e) in
        none command (same_name command p) (subst (λ (g : Given). Takes command g.values g.arguments) same p.takes)

    pub taken_by : (command : Command) → All (λ word. length word ≤ MOST_WORD_BYTES) following → name ≡ name_of_command command
        → Takes command given.values given.arguments → AreWordsOf command words
    taken_by command within named takes = record {
      following = following;
      are = are ∙ ap (λ n. n ∷ following) named;
      within_limit = within;
      values = given.values;
      given = given.arguments;
      have = give;
      takes = takes;
    }
