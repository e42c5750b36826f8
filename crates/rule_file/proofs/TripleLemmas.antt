-- The rules of an entry come after the earlier ones, rule by rule, and a twin or a limit refuses them; leads stay rising.
use Rattle.std.proofs.Common.{◌≡◌, Bool, true, false, if◌then◌else◌, ◌||◌, Ok, Err, List, [], ◌∷◌, ◌++◌, refl, sym, ◌∙◌, ap, subst}
use Rattle.std.specs.List.{list_any}
use Rattle.std.specs.List.Sorted.{IsStrictlySortedBy}
use Rattle.std.proofs.lemmas.List.{append-nil}
use Rattle.lexicon_definitions.specs.Rules.{Rule, is_twin}
use Rattle.lexicon_definitions.specs.Leads.{Lead, compare_leads, with_lead, leads_of}
use Rattle.lexicon_definitions.proofs.LeadLaws.{leads_rise, leads_of-push}
use Rattle.rule_file_definitions.specs.EntryWhys as entries
use Rattle.rule_file_definitions.specs.RuleEntries.{have_twins, pass_limits, add_rules}
use Rattle.rule_file.specs.declared.error.RuleWhy.TheVariants as whys
use Rattle.rule_file.specs.declared.entry_error.EntryError.{EntryError}
use Rattle.rule_file.specs.declared.entry_error.EntryError.TheVariants.{Why}
use Rattle.rule_file.specs.Faults.{IfWhy}
use Rattle.std.proofs.lemmas.Bool.{or_left}

pub leads_rising : (rules : List Rule) (leads : List Lead) → leads ≡ leads_of rules → IsStrictlySortedBy compare_leads leads
leads_rising rules leads e = subst (IsStrictlySortedBy compare_leads) (sym e) (leads_rise rules)

pub leads_pushed : (before rules : List Rule) (rule : Rule) (leads after : List Lead) → leads ≡ leads_of before → after ≡ with_lead leads rule.v rule.after
    → rules ≡ before ++ rule ∷ [] → after ≡ leads_of rules
leads_pushed before rules rule leads after are put pushed =
    put ∙ ap (λ ls. with_lead ls rule.v rule.after) are ∙ sym (leads_of-push before rule) ∙ ap leads_of (sym pushed)

pub told_twice : (error : EntryError) (rule : Rule) (rules : List Rule) → error ≡ Why whys.Twice → list_any (is_twin rule) rules ≡ true
    → IfWhy error (λ why. (why ≡ entries.Twice) × (list_any (is_twin rule) rules ≡ true))
told_twice error rule rules e h = subst (λ (e : EntryError). IfWhy e (λ why. (why ≡ entries.Twice) × (list_any (is_twin rule) rules ≡ true))) (sym e) (refl, h)

-- ---- the rules of an entry are added

added_by : (earlier rules : List Rule) (twins limits : Bool) → have_twins earlier rules ≡ twins → pass_limits (earlier ++ rules) ≡ limits
    → add_rules earlier rules ≡ (if twins then Err entries.Twice else if limits then Err entries.Limit else Ok (earlier ++ rules))
unfolding add_rules
added_by earlier rules twins limits t l = λ i. if t i then Err entries.Twice else if l i then Err entries.Limit else Ok (earlier ++ rules)

pub twice : (earlier more rules left : List Rule) (rule : Rule) → have_twins rules (rule ∷ left) ≡ have_twins earlier more → list_any (is_twin rule) rules ≡ true
    → add_rules earlier more ≡ Err entries.Twice
twice earlier more rules left rule same t =
    added_by earlier more true (pass_limits (earlier ++ more)) (sym same ∙ or_left (list_any (is_twin rule) rules) _ t) refl

pub twins_on : (rules left : List Rule) (rule : Rule) (next : List Rule) (whole : Bool) → list_any (is_twin rule) rules ≡ false → next ≡ rules ++ rule ∷ []
    → have_twins rules (rule ∷ left) ≡ whole → have_twins next left ≡ whole
twins_on rules left rule next whole t e h =
    ap (λ rs. have_twins rs left) e ∙ sym (ap (λ b. b || have_twins (rules ++ rule ∷ []) left) t) ∙ h

pub over_limits : (earlier more rules : List Rule) → have_twins rules [] ≡ have_twins earlier more → rules ++ [] ≡ earlier ++ more → pass_limits rules ≡ true
    → add_rules earlier more ≡ Err entries.Limit
over_limits earlier more rules t all l =
    added_by earlier more false true (sym t) (ap pass_limits (sym all ∙ append-nil rules) ∙ l)

pub all_added : (earlier more rules : List Rule) → have_twins rules [] ≡ have_twins earlier more → rules ++ [] ≡ earlier ++ more → pass_limits rules ≡ false
    → add_rules earlier more ≡ Ok rules
all_added earlier more rules t all l =
    added_by earlier more false false (sym t) (ap pass_limits (sym all ∙ append-nil rules) ∙ l) ∙ ap Ok (sym all ∙ append-nil rules)
