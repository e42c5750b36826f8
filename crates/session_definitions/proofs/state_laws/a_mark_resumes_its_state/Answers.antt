-- The bookmark of a reached state is within the bounds, and its keys are those of the answer at which the session stands.
use Rattle.session_definitions.proofs.AnswerBounds.{IsSound}
use Rattle.session_definitions.proofs.SavedStates.{mark_is_bookmark, mark_is_read_back, mark_resumes, saved}
use Rattle.session_definitions.proofs.state_laws.a_mark_resumes_its_state.Goals as goal

pub returns-clause-bounds : goal.returns-clause-bounds
returns-clause-bounds c lexicon state line is limits reached here =
    let sound : IsSound lexicon = record { itself = is; limits = limits } in
    mark_is_bookmark lexicon state line sound (saved lexicon state sound reached) here

pub returns-clause-read_back : goal.returns-clause-read_back
returns-clause-read_back c lexicon state line is limits reached here =
    let sound : IsSound lexicon = record { itself = is; limits = limits } in
    mark_is_read_back lexicon state line sound (saved lexicon state sound reached) here

pub returns-clause-resumed : goal.returns-clause-resumed
returns-clause-resumed c lexicon state line is limits reached here other reply =
    let sound : IsSound lexicon = record { itself = is; limits = limits } in
    mark_resumes lexicon state line sound (saved lexicon state sound reached) here other reply
