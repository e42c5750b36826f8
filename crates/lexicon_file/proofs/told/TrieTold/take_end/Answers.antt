-- What is asked of the trie and of the rules decides one after another.
use Rattle.std.proofs.Common.{ap, sym, ◌∙◌}
use Rattle.trie_text_definitions.specs.NodeValues.{has_unused}
use Rattle.trie_text_definitions.specs.TrieForms.{has_too_many_pairs, has_wrong_delta}
use Rattle.trie_text_definitions.specs.VersionSteps.{Told, lacks_limited, take_end as take_end_of}
use Rattle.form_file.specs.Fields.{text_of_rest}
use Rattle.lexicon_file.specs.Kinds.{version_of}
use Rattle.lexicon_file.specs.declared.error.FileWhy.TheVariants.{Field, Limit, Unused, Delta, Unlimited}
use Rattle.lexicon_file.proofs.AnswerLemmas.{refused_for}
use Rattle.lexicon_file.proofs.EndAnswers.{alone, no_more, too_many, some_unused, some_wrong, none_limited, end_taken}
use Rattle.lexicon_file.proofs.told.TrieTold.take_end.Goals as goal

pub returns-then-is_some : goal.returns-then-is_some
returns-then-is_some c =
    refused_for (Unit {0}) (take_end_of (version_of c.args.version) c.args.self.now (text_of_rest c.args.rest)) c.into.result Field _ c.into.ensures
    (no_more (version_of c.args.version) c.args.self.now c.args.rest c.if-is_some.ensures)

pub returns-then-branch : goal.returns-then-branch
returns-then-branch c =
    refused_for (Unit {0}) (take_end_of (version_of c.args.version) c.args.self.now (text_of_rest c.args.rest)) c.into-then-branch.result Limit _ c.into-then-branch.ensures
    (too_many (version_of c.args.version) _ c.args.self.now c.self.view_is (text_of_rest c.args.rest) (alone c.args.rest c.if-is_some.ensures)
    (ap has_too_many_pairs (sym c.store-store.ensures) ∙ sym c.in_ok-has_too_many_pairs.ensures.ok ∙ c.if-branch.true))

pub returns-then-branch-2 : goal.returns-then-branch-2
returns-then-branch-2 c =
    refused_for (Unit {0}) (take_end_of (version_of c.args.version) c.args.self.now (text_of_rest c.args.rest)) c.into-then-branch-2.result Unused _ c.into-then-branch-2.ensures
    (some_unused (version_of c.args.version) _ c.args.self.now c.self.view_is (text_of_rest c.args.rest) (alone c.args.rest c.if-is_some.ensures)
    (ap has_too_many_pairs (sym c.store-store.ensures) ∙ sym c.in_ok-has_too_many_pairs.ensures.ok ∙ c.if-branch.false)
    (ap has_unused (sym c.store-store.ensures) ∙ sym c.in_ok-has_unused.ensures.ok ∙ c.if-branch-2.true))

pub returns-then-branch-3 : goal.returns-then-branch-3
returns-then-branch-3 c =
    refused_for (Unit {0}) (take_end_of (version_of c.args.version) c.args.self.now (text_of_rest c.args.rest)) c.into-then-branch-3.result Delta _ c.into-then-branch-3.ensures
    (some_wrong (version_of c.args.version) _ c.args.self.now c.self.view_is (text_of_rest c.args.rest) (alone c.args.rest c.if-is_some.ensures)
    (ap has_too_many_pairs (sym c.store-store.ensures) ∙ sym c.in_ok-has_too_many_pairs.ensures.ok ∙ c.if-branch.false)
    (ap has_unused (sym c.store-store.ensures) ∙ sym c.in_ok-has_unused.ensures.ok ∙ c.if-branch-2.false)
    (ap has_wrong_delta (sym c.store-store.ensures) ∙ sym c.in_ok-has_wrong_delta.ensures.ok ∙ c.if-branch-3.true))

pub returns-then-lacks_limited : goal.returns-then-lacks_limited
returns-then-lacks_limited c =
    refused_for (Unit {0}) (take_end_of (version_of c.args.version) c.args.self.now (text_of_rest c.args.rest)) c.into-then-lacks_limited.result Unlimited _ c.into-then-lacks_limited.ensures
    (none_limited (version_of c.args.version) _ c.args.self.now c.self.view_is (text_of_rest c.args.rest) (alone c.args.rest c.if-is_some.ensures)
    (ap has_too_many_pairs (sym c.store-store.ensures) ∙ sym c.in_ok-has_too_many_pairs.ensures.ok ∙ c.if-branch.false)
    (ap has_unused (sym c.store-store.ensures) ∙ sym c.in_ok-has_unused.ensures.ok ∙ c.if-branch-2.false)
    (ap has_wrong_delta (sym c.store-store.ensures) ∙ sym c.in_ok-has_wrong_delta.ensures.ok ∙ c.if-branch-3.false)
    (ap (λ (t : Told). lacks_limited (version_of c.args.version) t.front) c.self.view_is ∙ sym c.lacks_limited.ensures ∙ c.if-lacks_limited.true))

pub returns : goal.returns
returns c =
    end_taken (version_of c.args.version) _ c.args.self.now c.self.view_is (text_of_rest c.args.rest) (alone c.args.rest c.if-is_some.ensures)
    (ap has_too_many_pairs (sym c.store-store.ensures) ∙ sym c.in_ok-has_too_many_pairs.ensures.ok ∙ c.if-branch.false)
    (ap has_unused (sym c.store-store.ensures) ∙ sym c.in_ok-has_unused.ensures.ok ∙ c.if-branch-2.false)
    (ap has_wrong_delta (sym c.store-store.ensures) ∙ sym c.in_ok-has_wrong_delta.ensures.ok ∙ c.if-branch-3.false)
    (ap (λ (t : Told). lacks_limited (version_of c.args.version) t.front) c.self.view_is ∙ sym c.lacks_limited.ensures ∙ c.if-lacks_limited.false)
