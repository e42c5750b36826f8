-- The lines in which files and chains are refused, with their line end put last.
use Rattle.std.proofs.Common.{◌≡◌, ℕ, List, [], ◌∷◌, ◌++◌, codes, refl, sym, ◌∙◌, ap, append_assoc}
use Rattle.std.specs.Fmt.{decimal}
use Rattle.list_laws.proofs.Elements.{six_regrouped}
use Rattle.text_definitions.specs.LineTexts.{place_of}
use Rattle.latin_schemes.specs.declared.spell_fault.SpellFault.{SpellFault}
use Rattle.latin_schemes.specs.declared.spell_fault.SpellFault.TheVariants.{NotLetter, LoneSign, NotUtf8}
use Rattle.latin_schemes.specs.Faults as told
use Rattle.latin_schemes.specs.Faults.{fault_of}
use Rattle.run_definitions.specs.Ends as ends
use Rattle.run_definitions.specs.Refusals.{file_refusal, name_of_why, rules_refusal, record_refusal, name_of_table_why, name_of_stem_why, name_of_note_why}
use Rattle.commands.specs.FaultRefusals.{fault_refusal}

-- of a lexicon file: its line and why
fault_line : (name number why : List ℕ)
    → codes "bad file " ++ (name ++ (codes " line " ++ (number ++ (codes ": " ++ (why ++ codes "\n")))))
    ≡ (codes "bad file " ++ name ++ codes " line " ++ number ++ codes ": " ++ why) ++ 10 ∷ []
fault_line name number why =
    ap (λ rest. codes "bad file " ++ rest) (sym (six_regrouped name (codes " line ") number (codes ": ") why (10 ∷ [])))

-- the place that the program's fault names is the one that the definitions name
pub same_place : (fault : SpellFault) → told.place_of fault ≡ place_of (fault_of fault)
same_place (NotLetter at) = refl
same_place (LoneSign at) = refl
same_place (NotUtf8 at) = refl

-- of a text: its line and the place
spelling_line : (name number place : List ℕ)
    → codes "bad file " ++ (name ++ (codes " line " ++ (number ++ (codes ": spelling " ++ (place ++ codes "\n")))))
    ≡ (codes "bad file " ++ name ++ codes " line " ++ number ++ codes ": spelling " ++ place) ++ 10 ∷ []
spelling_line name number place =
    ap (λ rest. codes "bad file " ++ rest) (sym (six_regrouped name (codes " line ") number (codes ": spelling ") place (10 ∷ [])))

-- of a source file: what is said after its name
source_line : (name rest : List ℕ) → codes "bad file " ++ (name ++ (rest ++ codes "\n")) ≡ (codes "bad file " ++ name ++ rest) ++ 10 ∷ []
source_line name rest = ap (λ r. codes "bad file " ++ r) (sym (append_assoc name rest (10 ∷ [])))

pub rule_line : (number why : List ℕ) → codes " rule " ++ (number ++ (codes ": " ++ why)) ≡ codes " rule " ++ number ++ codes ": " ++ why
rule_line number why = ap (λ r. codes " rule " ++ r) (sym (append_assoc number (codes ": ") why))

-- of a note: why
note_line : (name why : List ℕ)
    → codes "bad file " ++ (name ++ (codes ": " ++ (why ++ codes "\n"))) ≡ (codes "bad file " ++ name ++ codes ": " ++ why) ++ 10 ∷ []
note_line name why =
    ap (λ r. codes "bad file " ++ r)
    (sym (append_assoc name (codes ": ") (why ++ 10 ∷ [])) ∙ sym (append_assoc (name ++ codes ": ") why (10 ∷ [])))

-- of any file: its name, and what is said of its fault
pub refused_line : (name : List ℕ) (fault : ends.AnyFault)
    → codes "bad file " ++ (name ++ (fault_refusal fault ++ codes "\n")) ≡ file_refusal name fault
refused_line name ends.Large = source_line name (codes ": Large")
refused_line name (ends.Lexicon fault) =
    let number = decimal fault.line in
    let why = name_of_why fault.why in
    ap (λ rest. codes "bad file " ++ (name ++ (codes " line " ++ rest))) (append_assoc number (codes ": " ++ why) (10 ∷ [])) ∙ fault_line name number why
refused_line name (ends.Rules fault) = source_line name (rules_refusal fault)
refused_line name (ends.Tables fault) = source_line name (record_refusal fault.number (name_of_table_why fault.why))
refused_line name (ends.Stems fault) = source_line name (record_refusal fault.number (name_of_stem_why fault.why))
refused_line name (ends.Spelling fault) =
    let number = decimal fault.line in
    let place = decimal (place_of fault.fault) in
    ap (λ rest. codes "bad file " ++ (name ++ (codes " line " ++ rest))) (append_assoc number (codes ": spelling " ++ place) (10 ∷ []))
    ∙ spelling_line name number place
refused_line name (ends.Note why) = note_line name (name_of_note_why why)

-- of a chain
pub chain_line : (number why : List ℕ)
    → codes "bad chain step " ++ (number ++ (codes ": " ++ (why ++ codes "\n"))) ≡ (codes "bad chain step " ++ number ++ codes ": " ++ why) ++ 10 ∷ []
chain_line number why =
    ap (λ rest. codes "bad chain step " ++ rest)
    (sym (append_assoc number (codes ": ") (why ++ 10 ∷ [])) ∙ sym (append_assoc (number ++ codes ": ") why (10 ∷ [])))
