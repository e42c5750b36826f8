-- The step's form is supplied few letters, and its item is the key's.
use Rattle.std.proofs.Common.{◌≡◌, ◌⊎◌, ◌≤◌, ◌++◌, [], ◌∷◌, ℕ, length, ap, subst, ◌∙◌, arith}
use Rattle.std.specs.Prelude.{OnOk}
use Rattle.std.proofs.lemmas.Result.{on_ok_weaker}
use Rattle.lexicon_definitions.specs.Lexicons.{RuleSet, rule_of}
use Rattle.lexicon_definitions.specs.Leads.{leads_of}
use Rattle.segmentation_definitions.specs.Items.{Item, item_of}
use Rattle.derivation.specs.Guides.{entrance_of}
use Rattle.derivation.specs.Steps.{key_meant}
use Rattle.answer_paths.specs.Fronts.{supplied}
use Rattle.answer_paths.specs.Following.{placed_at}
use Rattle.search_frames.proofs.WalkLeads.{short_supplied}
use Rattle.summary_chart.specs.Summaries.{item_with, made_of}
use Rattle.summary_chart.proofs.collecting.put_item.Goals as goal

pub overflow_cast-step : goal.overflow_cast-step
overflow_cast-step g c =
    let rules = c.args.site.lexicon.now.lexicon.rules in
    let entrance = c.args.site.place.now.entrance in
    let short = short_supplied rules entrance c.requires.site.searched.limits c.requires.site.place.over in
    let is : c.supplied_letters.result.now ≡ supplied (entrance_of (leads_of rules.rules) entrance) =
    c.supplied_letters.ensures ∙ ap (λ (r : RuleSet). supplied (entrance_of (leads_of r.rules) entrance)) c.rules-rules.ensures.value in
    let same = ap length is in
    omega (arith, short, same)

pub returns-clause-items : goal.returns-clause-items
returns-clause-items g c =
    let searched = c.args.site.lexicon.now in
    let line = c.args.site.line.now in
    let place = c.args.site.place.now in
    let key = key_meant c.args.key in
    let with_rules : RuleSet → Item = λ rules. item_of (placed_at rules line place.at (entrance_of (leads_of rules.rules) place.entrance) key) in
    let is : c.in_ok-item.item ≡ item_with searched line place.at place.entrance key = c.in_ok-item.ensures.ok ∙ ap with_rules c.rules-rules.ensures.value in
    on_ok_weaker c.put.result
    (λ put. put ∙ ap (λ (item : Item). c.args.collected.now.items.items ++ item ∷ []) is)
    c.put.ensures.items

pub returns-clause-made : goal.returns-clause-made
returns-clause-made g c =
    subst (λ (rules : RuleSet). OnOk c.put.result ((other : ℕ) → other ≤ length rules.rules
    → (made_of c.put.new.self other ≡ made_of c.args.collected.now other) ⊎ ((rule_of rules other).u ≡ (rule_of rules c.args.key.rule).u)))
    c.rules-rules.ensures.value c.put.ensures.made
