-- What rules do after a form of a phase they do after one of a phase that no rule tells from it.
use Rattle.std.proofs.Common.{ℕ, ◌<◌, ◌≤◌, ◌↔◌, inl, inr, Bool, Option, length}
use Rattle.text_definitions.specs.Lines.{Line}
use Rattle.lexicon_definitions.specs.Lexicons.{RuleSet}
use Rattle.annotated_trie.specs.AlikePhases.{IsAlike}
use Rattle.annotated_trie.specs.Searched.{SearchedLexicon}
use Rattle.derivation.specs.declared.entrance.Entrance.{Entrance}
use Rattle.search_frames.specs.Ahead.{RuleEnds, RuleLeadsTo, RuleStands}
use Rattle.search_frames.specs.Configurations.{rules_in}
use Rattle.summary_chart.specs.declared.memo.Work.{Work}
use Rattle.summary_chart.specs.declared.table.Table.{Table}
use Rattle.summary_chart.specs.Memos.{LivesBy}
use Rattle.summary_chart.proofs.AlikeKeys.{alike_back, follows_alike}

module _ (rules : RuleSet) (line : Line) (end one other rule : ℕ) (alike : IsAlike rules one other) (some : 0 < rule) (within : rule ≤ length rules.rules) where
  rule_stands_alike : RuleStands rules line end one rule → RuleStands rules line end other rule
  rule_stands_alike stands = record { follows = follows_alike rules one other alike rule some within stands.follows; written = stands.written }

  pub rule_leads_alike : (at : ℕ) (entrance : Entrance) → RuleLeadsTo rules line end one rule at entrance → RuleLeadsTo rules line end other rule at entrance
  rule_leads_alike at entrance leads = record {
    stands = rule_stands_alike leads.stands;
    inner = leads.inner;
    at_is = leads.at_is;
    entrance_is = leads.entrance_is;
    over = leads.over;
  }

  rule_ends_alike : (may_end : Bool) → RuleEnds rules line end may_end one rule → RuleEnds rules line end may_end other rule
  rule_ends_alike may_end ends = record {
    stands = rule_stands_alike ends.stands;
    final_rule = ends.final_rule;
    all = ends.all;
    may = ends.may;
  }

module _ (searched : SearchedLexicon) (line : Line) (table : Table) (node end : ℕ) (part : Option ℕ) (may_end : Bool) where
  abbrev work_in : ℕ → Work
  work_in phase = record { node = node; part = part; end = end; may_end = may_end; phase = phase }

  module _ (IsOne : ℕ → Type 0) (numbered : (rule : ℕ) → IsOne rule → (0 < rule) × (rule ≤ length (rules_in searched).rules)) where
    lives_after : (one other : ℕ) → IsAlike (rules_in searched) one other → (number : ℕ) → LivesBy searched line table (work_in one) IsOne number
        → LivesBy searched line table (work_in other) IsOne number
    lives_after one other alike number lives =
        let rule = lives.0 in
        let (some, within) = numbered rule lives.1 in (
          rule,
          lives.1,
          elim lives.2 [
            | inl (at, entrance, leads, there) ↦
                inl (at, entrance, rule_leads_alike (rules_in searched) line end one other rule alike some within at entrance leads, there)
            | inr (ends, accepts) ↦ inr (rule_ends_alike (rules_in searched) line end one other rule alike some within may_end ends, accepts)
          ],
        )

    pub lives_alike : (one other : ℕ) → IsAlike (rules_in searched) one other → (number : ℕ)
        → LivesBy searched line table (work_in one) IsOne number ↔ LivesBy searched line table (work_in other) IsOne number
    lives_alike one other alike number =
        (λ lives. lives_after one other alike number lives, λ lives. lives_after other one (alike_back (rules_in searched) one other alike) number lives)
