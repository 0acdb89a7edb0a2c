-- What a dialer in memory keeps: an entry for each dial, and apart from them the notes of the finished links.
use Rattle.std.specs.Prelude.{◌≡◌, ℕ, ◌+◌, Bool, true, false, IsTrue, zero, suc, List, [], ◌∷◌, drop, IfOk, Result}
use Rattle.px_base.specs.declared.faults.DialFault.{DialFault}
use Rattle.px_base.specs.declared.dials.Dial.{Dial}
use Rattle.px_base.specs.declared.dials.LinkNote.{LinkNote}
use Rattle.px_base.specs.declared.dials.DialOutcome.TheVariants as outcome
use Rattle.px_base.specs.declared.entries.DialEntry.{DialEntry}
use Rattle.px_base.specs.declared.entries.DialEntry.TheVariants as entry
use Rattle.px_base.specs.declared.entries.LinkEnd.{LinkEnd}
use Rattle.px_base.specs.Dials.{Traffic, LinkState, IsFresh, dialed}

-- the first of the notes, or an empty one
abbrev pub first_note : List LinkNote → LinkNote
first_note [] = record { host = []; port = 0; heard = []; sent = [] }
first_note (l ∷ ls) = l

-- the dial of an entry with that number; a finished one has the note
abbrev pub dial_of : ℕ → DialEntry → LinkNote → Dial
dial_of n (entry.NoName host port) l = record { host = host; port = port; outcome = outcome.NoName }
dial_of n (entry.NotReached host port) l = record { host = host; port = port; outcome = outcome.NotReached }
dial_of n (entry.Open host port offered) l = record { host = host; port = port; outcome = outcome.Open n offered }
dial_of n (entry.Finished offered end) l = record { host = l.host; port = l.port; outcome = outcome.Link (record { offered = offered; heard = l.heard; sent = l.sent; read_failed = end.read_failed; write_failed = end.write_failed; finished = end.finished }) }

-- the notes behind an entry's
abbrev pub notes_behind : DialEntry → List LinkNote → List LinkNote
notes_behind (entry.NoName host port) ls = ls
notes_behind (entry.NotReached host port) ls = ls
notes_behind (entry.Open host port offered) ls = ls
notes_behind (entry.Finished offered end) ls = drop 1 ls

-- the dials of entries that are numbered from n on
abbrev pub merged : ℕ → List DialEntry → List LinkNote → List Dial
merged n [] ls = []
merged n (e ∷ es) ls = dial_of n e (first_note ls) ∷ merged (n + 1) es (notes_behind e ls)

abbrev pub is_open_entry : DialEntry → Bool
is_open_entry (entry.NoName host port) = false
is_open_entry (entry.NotReached host port) = false
is_open_entry (entry.Open host port offered) = true
is_open_entry (entry.Finished offered end) = false

-- the entry at that place is an open link
abbrev pub opens_at : ℕ → List DialEntry → Bool
opens_at i [] = false
opens_at zero (e ∷ es) = is_open_entry e
opens_at (suc i) (e ∷ es) = opens_at i es

-- one more where the entry is a finished link
abbrev pub more_finished : DialEntry → ℕ → ℕ
more_finished (entry.NoName host port) n = n
more_finished (entry.NotReached host port) n = n
more_finished (entry.Open host port offered) n = n
more_finished (entry.Finished offered end) n = suc n

-- how many links are finished
abbrev pub finished_in : List DialEntry → ℕ
finished_in [] = 0
finished_in (e ∷ es) = more_finished e (finished_in es)

-- how a link ended, of what went over it
abbrev pub end_of : Traffic → LinkEnd
end_of t = record { read_failed = t.read_failed; write_failed = t.write_failed; finished = t.finished }

-- the entry of a link that is hung up
abbrev pub ended : LinkEnd → DialEntry → DialEntry
ended end (entry.NoName host port) = entry.NoName host port
ended end (entry.NotReached host port) = entry.NotReached host port
ended end (entry.Open host port offered) = entry.Finished offered end
ended end (entry.Finished offered before) = entry.Finished offered before

-- the host and the port of an open link
abbrev pub entry_host : DialEntry → List ℕ
entry_host (entry.NoName host port) = []
entry_host (entry.NotReached host port) = []
entry_host (entry.Open host port offered) = host
entry_host (entry.Finished offered end) = []

abbrev pub entry_port : DialEntry → ℕ
entry_port (entry.NoName host port) = 0
entry_port (entry.NotReached host port) = 0
entry_port (entry.Open host port offered) = port
entry_port (entry.Finished offered end) = 0

-- its note
abbrev pub entry_note : List ℕ → List ℕ → DialEntry → LinkNote
entry_note heard sent e = record { host = entry_host e; port = entry_port e; heard = heard; sent = sent }

-- both ends tell and have that mark
pub record IsMarked (mark : ℕ) (l : LinkState) : Type 0 where
  pub in_tells : IsTrue l.link_in.tells
  pub out_tells : IsTrue l.link_out.tells
  pub in_mark : l.link_in.mark ≡ mark
  pub out_mark : l.link_out.mark ≡ mark

-- the entry that is kept is that of the result, and a link is fresh and has the mark
pub record IsKeptEntry (mark : ℕ) (host : List ℕ) (port : ℕ) (e : DialEntry) (link : Result LinkState DialFault) : Type 0 where
  pub kept : (l : LinkNote) → dialed host port link ≡ dial_of mark e l ∷ []
  pub unfinished : (n : ℕ) → more_finished e n ≡ n
  pub marked : IfOk link (IsMarked mark)
  pub fresh : IfOk link IsFresh
