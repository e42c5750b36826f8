-- A piece is served line by line: the lines that were cut off so far were served, and what is left begins with the unfinished line.
use Rattle.std.proofs.Common.{◌≡◌, ℕ, List, [], ◌∷◌, ◌++◌, sym, ◌∙◌, ap, subst, append_assoc}
use Rattle.std.specs.Prelude.{Option}
use Rattle.lexicon_text_definitions.specs.FileLines.{Line}
use Rattle.lexicon_text_definitions.proofs.LineCuts.{ended_line}
use Rattle.reader_session.specs.SessionValues.{SessionValue}
use Rattle.reader_session.specs.declared.after.After.TheVariants.{Open, Over}
use Rattle.reader_session.specs.Serving.{HasNoEnd, AreCutOff, HasServed, HasStopped, HasServedWithin, HasStoppedWithin}
use Rattle.reader_session.proofs.CutLines.{none_cut, line_cut, cut_on, no_end_in_both}
use Rattle.reader_session.proofs.ServedLines.{none_served, served_on, stopped_on, all_stopped}

-- some lines were cut off the bytes and served, and these bytes are left
pub record HasServedSoFar (bytes left : List ℕ) (old new : SessionValue) (before now : Option (List ℕ)) : Type 0 where
  pub lines : List Line
  pub cut : AreCutOff bytes lines left
  pub served : HasServed lines old new before now Open

pub none_so_far : (bytes : List ℕ) (session : SessionValue) (told : Option (List ℕ)) → HasServedSoFar bytes bytes session session told told
none_so_far bytes session told = record { lines = []; cut = none_cut bytes; served = none_served session told }

module _ (bytes rest left : List ℕ) (first middle : SessionValue) (before between : Option (List ℕ)) (p : HasServedSoFar bytes (rest ++ left) first middle before between) (no_end : HasNoEnd rest) where
  -- want of memory for the unfinished line
  pub stopped_here : HasStoppedWithin bytes first before between
  stopped_here = record { lines = p.lines; left = rest ++ left; cut = p.cut; stopped = all_stopped p.lines first middle before between Open p.served }

  -- no line ends in what is left
  pub ended_here : (all : List ℕ) → all ≡ rest ++ left → HasNoEnd left → HasServedWithin bytes all first middle before between Open
  ended_here all is none = record {
    lines = p.lines;
    left = rest ++ left;
    cut = p.cut;
    served = p.served;
    is_left = λ open_after. sym is;
    no_end = λ open_after. subst HasNoEnd (sym is) (no_end_in_both rest left no_end none);
  }

  module _ (line following whole : List ℕ) (parts : left ≡ line ++ 10 ∷ following) (none : HasNoEnd line) (is_whole : whole ≡ rest ++ line) where
    -- the unfinished line and what comes before the next line end are one line
    cut_here : AreCutOff bytes (p.lines ++ ended_line whole ∷ []) following
    cut_here =
        let split : rest ++ left ≡ whole ++ 10 ∷ following =
        ap (λ (x : List ℕ). rest ++ x) parts ∙ sym (append_assoc rest line (10 ∷ following)) ∙ ap (λ (x : List ℕ). x ++ 10 ∷ following) (sym is_whole) in
        let one : AreCutOff (rest ++ left) (ended_line whole ∷ []) following =
        subst (λ (x : List ℕ). AreCutOff x (ended_line whole ∷ []) following) (sym split)
        (line_cut whole following (subst HasNoEnd (sym is_whole) (no_end_in_both rest line no_end none))) in
        cut_on bytes (rest ++ left) following p.lines (ended_line whole ∷ []) p.cut one

    pub stopped_at_line : (now : Option (List ℕ)) → HasStopped (ended_line whole ∷ []) middle between now → HasStoppedWithin bytes first before now
    stopped_at_line now q = record {
      lines = p.lines ++ ended_line whole ∷ [];
      left = following;
      cut = cut_here;
      stopped = stopped_on p.lines (ended_line whole ∷ []) first middle before between p.served now q;
    }

    pub over_at_line : (last : SessionValue) (now : Option (List ℕ)) (unread : List ℕ) → HasServed (ended_line whole ∷ []) middle last between now Over
        → HasServedWithin bytes unread first last before now Over
    over_at_line last now unread q = record {
      lines = p.lines ++ ended_line whole ∷ [];
      left = following;
      cut = cut_here;
      served = served_on p.lines (ended_line whole ∷ []) first middle before between p.served last now Over q;
      is_left = λ e. absurd (cc);
      no_end = λ e. absurd (cc);
    }

    pub on_after_line : (last : SessionValue) (now : Option (List ℕ)) (cleared : List ℕ) → cleared ≡ [] → HasServed (ended_line whole ∷ []) middle last between now Open
        → HasServedSoFar bytes (cleared ++ following) first last before now
    on_after_line last now cleared empty q =
        subst (λ (x : List ℕ). HasServedSoFar bytes (x ++ following) first last before now) (sym empty)
        (record {
          lines = p.lines ++ ended_line whole ∷ [];
          cut = cut_here;
          served = served_on p.lines (ended_line whole ∷ []) first middle before between p.served last now Open q;
        })
