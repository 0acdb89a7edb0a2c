-- The notes join both lists.
use Rattle.std.proofs.Common.{List, [], ◌∷◌}
use Rattle.px_base.specs.declared.dials.Dial.{Dial}
use Rattle.px_socks.specs.declared.notes.DialNote.{DialNote}
use Rattle.px_socks.specs.declared.notes.DialNote.TheVariants as note
use Rattle.px_socks.specs.Notes.{outer_dials, AreTied}
use Rattle.px_socks.specs.Handshakes.{Handshakes, none, plain, accepted, refused_one, too_long, lost}

pub handshakes_of : (ns : List DialNote) (ds : List Dial) → AreTied ns ds → Handshakes (outer_dials ns ds) ds
handshakes_of [] [] h = none
handshakes_of [] (d ∷ ds) h = absurd h
handshakes_of (note.Plain ∷ ns) [] h = absurd h
handshakes_of (note.Plain ∷ ns) (d ∷ ds) h = plain d (outer_dials ns ds) ds h.0 (handshakes_of ns ds h.1)
handshakes_of (note.Accepted name port heard ∷ ns) [] h = absurd h
handshakes_of (note.Accepted name port heard ∷ ns) (d ∷ ds) h = accepted name port heard d (outer_dials ns ds) ds h.0 (handshakes_of ns ds h.1)
handshakes_of (note.Refused name port ∷ ns) [] h = absurd h
handshakes_of (note.Refused name port ∷ ns) (d ∷ ds) h = refused_one name port d (outer_dials ns ds) ds h.0 (handshakes_of ns ds h.1)
handshakes_of (note.TooLong name port ∷ ns) ds h = too_long name port (outer_dials ns ds) ds h.0 (handshakes_of ns ds h.1)
handshakes_of (note.Lost name port ∷ ns) [] h = absurd h
handshakes_of (note.Lost name port ∷ ns) (d ∷ ds) h = lost name port d (outer_dials ns ds) ds h.0 (handshakes_of ns ds h.1)
