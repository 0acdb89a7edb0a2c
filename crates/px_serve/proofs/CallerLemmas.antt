-- What callers of a session make of it.
use Rattle.std.proofs.Common.{IsTrue, List}
use Rattle.px_config.specs.Insides.{Asked, InsideState, Law}
use Rattle.px_config.specs.declared.insides.Taking.{Taking}
use Rattle.px_ends.specs.Ends.{EndsState}
use Rattle.px_notes.specs.declared.sessions.ExchangeNote.{ExchangeNote}
use Rattle.px_notes.specs.declared.sessions.SessionEnd.{SessionEnd}
use Rattle.px_serve.specs.Histories.{Looks}
use Rattle.px_serve.specs.Sessions.{Serves, ServesFitting}
use Rattle.px_serve.proofs.TakingLemmas.{all_suit}

-- by a law that holds wherever the first does
pub serves_law : {law law' : Law} {looks looks' : Looks} {old new : EndsState} {notes : List ExchangeNote} {e : SessionEnd}
    → ((a : Asked) (t : Taking) → law a t → law' a t) → Serves law looks looks' old new notes e → Serves law' looks looks' old new notes e
serves_law {law = law} {law' = law'} {old = old} f s = record {
  begun = s.begun;
  notes_are = s.notes_are;
  noted = s.noted;
  session = s.session;
  lawful = all_suit law law' f old.peer s.begun s.lawful;
  cause = s.cause;
  finished = s.finished;
  goes_on = s.goes_on;
}

-- where nothing else comes to fit, each taking is one that fitted before the session
pub serves_fitting : {law : Law} {ins ins' : InsideState} {looks looks' : Looks} {old new : EndsState} {notes : List ExchangeNote} {e : SessionEnd}
    → IsTrue ins.steady → ServesFitting law ins ins' looks looks' old new notes e → Serves ins.fits looks looks' old new notes e
serves_fitting {ins = ins} {ins' = ins'} {old = old} steady s = record {
  begun = s.serves.begun;
  notes_are = s.serves.notes_are;
  noted = s.serves.noted;
  session = s.serves.session;
  lawful = all_suit ins'.fits ins.fits (s.fits.goes_on.fits_only steady) old.peer s.serves.begun s.fits.each;
  cause = s.serves.cause;
  finished = s.serves.finished;
  goes_on = s.serves.goes_on;
}
