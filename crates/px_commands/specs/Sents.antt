-- The file SENT: for each finished link where it was dialled to, how many bytes were sent, and those bytes.
use Rattle.std.specs.Prelude.{ℕ, List, [], ◌∷◌, ◌++◌, length, decimal}
use Rattle.px_base.specs.declared.dials.LinkNote.{LinkNote}

-- HOST:PORT COUNT, LF, and the bytes
abbrev pub entry_text : LinkNote → List ℕ
entry_text link = link.host ++ 58 ∷ decimal link.port ++ 32 ∷ decimal (length link.sent) ++ 10 ∷ link.sent

abbrev pub sent_text : List LinkNote → List ℕ
sent_text [] = []
sent_text (link ∷ links) = entry_text link ++ sent_text links
