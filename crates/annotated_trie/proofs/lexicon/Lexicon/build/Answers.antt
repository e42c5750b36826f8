-- the rules and the forms that the trie tells are those of a lexicon, and the tries are those of its forms and rules
use Rattle.std.proofs.Common.{◌≤◌, length, sym, subst}
use Rattle.std.specs.Prelude.{All}
use Rattle.std.proofs.lemmas.List.Elements.{All-weaker}
use Rattle.lexicon_definitions.specs.declared.limits.TheConstants.{MOST_FORM_LETTERS}
use Rattle.lexicon_definitions.specs.Lexicons.{Form}
use Rattle.lexicon_definitions.specs.Limits.{IsShortForm}
use Rattle.lexicon_definitions.specs.Tries.{IsTrieOf, Trie}
use Rattle.trie_text_definitions.specs.TrieForms.{phases_of}
use Rattle.annotated_trie.specs.Searched.{IsSearchedLexicon}
use Rattle.annotated_trie.proofs.lexicon.Lexicon.build.Goals as goal

pub invariant_of-result : goal.invariant_of-result
invariant_of-result c =
    let IsShort : Form → Type 0 = λ form. length form.letters ≤ MOST_FORM_LETTERS in
    let tries = c.in_ok-tries.ensures.ok in (
      subst (λ (trie : Trie). IsSearchedLexicon (record { lexicon = record { rules = c.args.rules; phases = phases_of trie }; machine = c.args.automaton; tries = c.in_ok-tries.tries })) (sym tries.0)
          (record {
            lexicon = c.requires.lexicon;
            limits = c.requires.limits.rule_set;
            short = All-weaker (All IsShortForm) (All IsShort) (λ forms is. All-weaker IsShortForm IsShort (λ form short. short.letters) forms is) (phases_of c.args.store) c.requires.limits.short_forms;
            recognizes = c.requires.machine;
            phases = c.requires.phases;
            tries = tries.1;
            forms = subst (λ (trie : Trie). IsTrieOf trie (phases_of c.args.store)) (sym tries.0) c.requires.trie;
          }),
      c.in_ok-alike.ensures,
    )
