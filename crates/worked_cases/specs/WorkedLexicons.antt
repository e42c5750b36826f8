-- Small lexicons in which the definitions can be followed by hand (own). A word stands as the codes of its letters, below its
-- spelling in SLP1, and has a name after its spelling in Velthuis.
use Rattle.std.specs.Prelude.{ℕ, true, false, List, [], ◌∷◌, codes}
use Rattle.text_definitions.specs.Lines.{Line}
use Rattle.lexicon_definitions.specs.Rules.{Rule, all_phases}
use Rattle.lexicon_definitions.specs.Lexicons.{Lexicon, Form}
use Rattle.segmentation_definitions.specs.Derivations.{Step}
use Rattle.segmentation_definitions.specs.Items.{Choice}

-- ca
abbrev pub word_ca : List ℕ
word_ca = 22 ∷ 1 ∷ []

-- cA
abbrev pub word_caa : List ℕ
word_caa = 22 ∷ 2 ∷ []

-- iti
abbrev pub word_iti : List ℕ
word_iti = 3 ∷ 32 ∷ 3 ∷ []

-- ceti
abbrev pub word_ceti : List ℕ
word_ceti = 22 ∷ 10 ∷ 32 ∷ 3 ∷ []

-- vac
abbrev pub word_vac : List ℕ
word_vac = 45 ∷ 1 ∷ 22 ∷ []

-- cet
abbrev pub word_cet : List ℕ
word_cet = 22 ∷ 10 ∷ 32 ∷ []

-- uvAca
abbrev pub word_uvaaca : List ℕ
word_uvaaca = 5 ∷ 45 ∷ 2 ∷ 22 ∷ 1 ∷ []

-- cetyuvAca
abbrev pub word_cetyuvaaca : List ℕ
word_cetyuvaaca = 22 ∷ 10 ∷ 32 ∷ 42 ∷ 5 ∷ 45 ∷ 2 ∷ 22 ∷ 1 ∷ []

-- na
abbrev pub word_na : List ℕ
word_na = 36 ∷ 1 ∷ []

-- A
abbrev pub word_aa : List ℕ
word_aa = 2 ∷ []

-- gam
abbrev pub word_gam : List ℕ
word_gam = 19 ∷ 1 ∷ 41 ∷ []

-- gacCati
abbrev pub word_gacchati : List ℕ
word_gacchati = 19 ∷ 1 ∷ 22 ∷ 23 ∷ 1 ∷ 32 ∷ 3 ∷ []

-- nAgacCati
abbrev pub word_naagacchati : List ℕ
word_naagacchati = 36 ∷ 2 ∷ 19 ∷ 1 ∷ 22 ∷ 23 ∷ 1 ∷ 32 ∷ 3 ∷ []

-- api
abbrev pub word_api : List ℕ
word_api = 1 ∷ 37 ∷ 3 ∷ []

-- u
abbrev pub word_u : List ℕ
word_u = 5 ∷ []

-- covapi
abbrev pub word_covapi : List ℕ
word_covapi = 22 ∷ 12 ∷ 45 ∷ 1 ∷ 37 ∷ 3 ∷ []

-- as
abbrev pub word_as : List ℕ
word_as = 1 ∷ 48 ∷ []

-- asti
abbrev pub word_asti : List ℕ
word_asti = 1 ∷ 48 ∷ 32 ∷ 3 ∷ []

-- Asti
abbrev pub word_aasti : List ℕ
word_aasti = 2 ∷ 48 ∷ 32 ∷ 3 ∷ []

-- nAsti
abbrev pub word_naasti : List ℕ
word_naasti = 36 ∷ 2 ∷ 48 ∷ 32 ∷ 3 ∷ []

-- deva
abbrev pub word_deva : List ℕ
word_deva = 34 ∷ 10 ∷ 45 ∷ 1 ∷ []

-- datta
abbrev pub word_datta : List ℕ
word_datta = 34 ∷ 1 ∷ 32 ∷ 32 ∷ 1 ∷ []

-- devadatta
abbrev pub word_devadatta : List ℕ
word_devadatta = 34 ∷ 10 ∷ 45 ∷ 1 ∷ 34 ∷ 1 ∷ 32 ∷ 32 ∷ 1 ∷ []

-- devas
abbrev pub word_devas : List ℕ
word_devas = 34 ∷ 10 ∷ 45 ∷ 1 ∷ 48 ∷ []

-- devaH
abbrev pub word_devah : List ℕ
word_devah = 34 ∷ 10 ∷ 45 ∷ 1 ∷ 16 ∷ []

-- devogacCati
abbrev pub word_devogacchati : List ℕ
word_devogacchati = 34 ∷ 10 ∷ 45 ∷ 12 ∷ 19 ∷ 1 ∷ 22 ∷ 23 ∷ 1 ∷ 32 ∷ 3 ∷ []

-- a
abbrev pub word_a : List ℕ
word_a = 1 ∷ []

-- aa, two letters
abbrev pub word_a_a : List ℕ
word_a_a = 1 ∷ 1 ∷ []

-- a line without blanks
abbrev pub unbroken : List ℕ → Line
unbroken letters = record { letters = letters; blanks = [] }

-- a line with one blank
abbrev pub broken_at : ℕ → List ℕ → Line
broken_at blank letters = record { letters = letters; blanks = blank ∷ [] }

-- a step of this phase and form, with the rule of this number after it
abbrev pub step : ℕ → List ℕ → ℕ → Step
step phase form rule = record { phase = phase; form = form; rule = rule }

-- the reader keeps the item of this form of phase 0 that begins at this letter, without a lead
abbrev pub kept : ℕ → List ℕ → Choice
kept at form = record { kept = true; item = record { at = at; lead = 0; phase = 0; form = form } }

-- the reader rejects it
abbrev pub rejected : ℕ → List ℕ → Choice
rejected at form = record { kept = false; item = record { at = at; lead = 0; phase = 0; form = form } }

-- a form with one analysis
abbrev pub entry : List ℕ → List ℕ → List ℕ → Form
entry letters stem tag = record { letters = letters; analyses = record { stem = stem; tag = tag } ∷ [] }

-- a form that is its own stem, and is not inflected
abbrev pub indeclinable : List ℕ → Form
indeclinable letters = entry letters letters (codes "ind")

-- an inner rule that all of so many phases may precede and follow
abbrev pub inner : ℕ → List ℕ → List ℕ → List ℕ → Rule
inner count u v w = record { u = u; v = v; w = w; before = all_phases count; after = all_phases count }

-- the rule a|i>e in a lexicon of one phase
abbrev pub a_before_i : Rule
a_before_i = inner 1 (1 ∷ []) (3 ∷ []) (10 ∷ [])

-- one phase, and the rule a|i>e
abbrev pub ceti_lexicon : Lexicon
ceti_lexicon = record {
  rules = record { names = codes "word" ∷ []; grammar = codes "word+"; plain = []; rules = a_before_i ∷ [] };
  phases = (indeclinable word_iti ∷ indeclinable word_ca ∷ []) ∷ [];
}

-- the rules a|i>e and i|u>yu
abbrev pub uvaaca_lexicon : Lexicon
uvaaca_lexicon = record {
  rules = record {
    names = codes "word" ∷ [];
    grammar = codes "word+";
    plain = [];
    rules = a_before_i ∷ inner 1 (3 ∷ []) (5 ∷ []) (42 ∷ 5 ∷ []) ∷ [];
  };
  phases = (indeclinable word_iti ∷ entry word_uvaaca word_vac (codes "perf.ac.3.sg") ∷ indeclinable word_ca ∷ []) ∷ [];
}

-- a preverb may stand before a verb; the plain pair A g, and the rule a|A>A
abbrev pub preverb_lexicon : Lexicon
preverb_lexicon = record {
  rules = record {
    names = codes "ind" ∷ codes "pre" ∷ codes "verb" ∷ [];
    grammar = codes "(ind | pre? verb)+";
    plain = (2, 19) ∷ [];
    rules = inner 3 (1 ∷ []) (2 ∷ []) (2 ∷ []) ∷ [];
  };
  phases =
      (indeclinable word_na ∷ [])
      ∷ (entry word_aa word_aa (codes "pv") ∷ [])
      ∷ (entry word_gacchati word_gam (codes "pr.ac.3.sg") ∷ [])
      ∷ [];
}

-- the form u is the v of a|u>o and the u of u|a>va
abbrev pub overlap_lexicon : Lexicon
overlap_lexicon = record {
  rules = record {
    names = codes "word" ∷ [];
    grammar = codes "word+";
    plain = [];
    rules = inner 1 (1 ∷ []) (5 ∷ []) (12 ∷ []) ∷ inner 1 (5 ∷ []) (1 ∷ []) (45 ∷ 1 ∷ []) ∷ [];
  };
  phases = (indeclinable word_api ∷ indeclinable word_u ∷ indeclinable word_ca ∷ []) ∷ [];
}

-- the rules a|a>A and a|A>A
abbrev pub naasti_lexicon : Lexicon
naasti_lexicon = record {
  rules = record {
    names = codes "word" ∷ [];
    grammar = codes "word+";
    plain = [];
    rules = inner 1 (1 ∷ []) (1 ∷ []) (2 ∷ []) ∷ inner 1 (1 ∷ []) (2 ∷ []) (2 ∷ []) ∷ [];
  };
  phases = (entry word_asti word_as (codes "pr.ac.3.sg") ∷ indeclinable word_aasti ∷ indeclinable word_na ∷ []) ∷ [];
}

-- the plain pair a d, and no rule
abbrev pub devadatta_lexicon : Lexicon
devadatta_lexicon = record {
  rules = record { names = codes "word" ∷ []; grammar = codes "word+"; plain = (1, 34) ∷ []; rules = [] };
  phases =
      (entry word_datta word_datta (codes "m.sg.voc")
      ∷ entry word_deva word_deva (codes "m.sg.voc")
      ∷ entry word_devadatta word_devadatta (codes "m.sg.voc")
      ∷ [])
      ∷ [];
}

-- the rule aH|g>og
abbrev pub devah_lexicon : Lexicon
devah_lexicon = record {
  rules = record {
    names = codes "word" ∷ [];
    grammar = codes "word+";
    plain = [];
    rules = inner 1 (1 ∷ 16 ∷ []) (19 ∷ []) (12 ∷ 19 ∷ []) ∷ [];
  };
  phases =
      (entry word_gacchati word_gam (codes "pr.ac.3.sg") ∷ entry word_devah word_deva (codes "m.sg.nom") ∷ []) ∷ [];
}

-- a grammar that reads each phase at two places, and the rule a|i>e
abbrev pub twofold_lexicon : Lexicon
twofold_lexicon = record {
  rules = record { names = codes "ind" ∷ []; grammar = codes "(ind | ind)+"; plain = []; rules = a_before_i ∷ [] };
  phases = (indeclinable word_iti ∷ indeclinable word_ca ∷ []) ∷ [];
}

-- the forms a and aa, of one and of two letters, and the plain pair a a
abbrev pub vowel_lexicon : Lexicon
vowel_lexicon = record {
  rules = record { names = codes "word" ∷ []; grammar = codes "word+"; plain = (1, 1) ∷ []; rules = [] };
  phases = (indeclinable word_a ∷ indeclinable word_a_a ∷ []) ∷ [];
}

-- the final rule s|>H
abbrev pub final_lexicon : Lexicon
final_lexicon = record {
  rules = record {
    names = codes "word" ∷ [];
    grammar = codes "word+";
    plain = [];
    rules = record { u = 48 ∷ []; v = []; w = 16 ∷ []; before = all_phases 1; after = 0 } ∷ [];
  };
  phases = (entry word_devas word_deva (codes "m.sg.nom") ∷ []) ∷ [];
}

-- the rule a|i>e from phase p to phase q, and the rule A|i>e from phase p to phase r
abbrev pub limited_lexicon : Lexicon
limited_lexicon = record {
  rules = record {
    names = codes "p" ∷ codes "q" ∷ codes "r" ∷ [];
    grammar = codes "(p | q | r)+";
    plain = [];
    rules =
        record { u = 1 ∷ []; v = 3 ∷ []; w = 10 ∷ []; before = 1; after = 2 }
        ∷ record { u = 2 ∷ []; v = 3 ∷ []; w = 10 ∷ []; before = 1; after = 4 }
        ∷ [];
  };
  phases =
      (indeclinable word_ca ∷ indeclinable word_caa ∷ []) ∷ (indeclinable word_iti ∷ []) ∷ (indeclinable word_iti ∷ []) ∷ [];
}

-- the form ca of the phases p and q, and the rule a|i>e from phase p to phase q
abbrev pub limited_before_lexicon : Lexicon
limited_before_lexicon = record {
  rules = record {
    names = codes "p" ∷ codes "q" ∷ [];
    grammar = codes "(p | q)+";
    plain = [];
    rules = record { u = 1 ∷ []; v = 3 ∷ []; w = 10 ∷ []; before = 1; after = 2 } ∷ [];
  };
  phases = (indeclinable word_ca ∷ []) ∷ (indeclinable word_iti ∷ indeclinable word_ca ∷ []) ∷ [];
}
