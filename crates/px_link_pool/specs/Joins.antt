-- What went over the inner links, told by the dials of the pool.
use Rattle.std.specs.Prelude.{◌≡◌, ℕ, Bool, true, false, not, IsTrue, ◌==◌, ◌&&◌, if◌then◌else◌, List, [], ◌∷◌, ◌++◌, length, drop, Option, Some, None, Result, Ok, Err}
use Rattle.std.specs.Str.{bytes_eq}
use Rattle.px_base.specs.declared.dials.Dial.{Dial}
use Rattle.px_base.specs.declared.dials.DialOutcome.{DialOutcome}
use Rattle.px_base.specs.declared.dials.DialOutcome.TheVariants as outcome
use Rattle.px_base.specs.declared.faults.DialFault.{DialFault}
use Rattle.px_base.specs.Sources.{SourceState, given}
use Rattle.px_base.specs.Sinks.{SinkState}
use Rattle.px_base.specs.Dials.{LinkState, Traffic, linked, dialed, finish, traffic}
use Rattle.px_pool_ends.specs.Names.{Passed, lent_mark}
use Rattle.px_pool_ends.specs.Incomings.{Hearing, outer_source, inner_source, heard}
use Rattle.px_pool_ends.specs.Outgoings.{Sending, outer_sink, inner_sink, sent}
use Rattle.px_link_pool.specs.Shelves.{is_place}
use Rattle.px_link_pool.specs.Histories.{Views, dials_of, kept_links, from_there}
use Rattle.px_link_pool.specs.Standing.{KeptState}
use Rattle.px_link_pool.specs.declared.shelves.KeptLink.{KeptLink}
use Rattle.px_link_pool.specs.declared.histories.History.{History, Start, Dialled', Again', HungUp', Rested'}

-- a link that is new begins with where it is dialled to, and what it offers
abbrev pub anew : List ℕ → ℕ → ℕ → Result LinkState DialFault → Passed → Passed
anew host port mark (Ok l) w = if l.link_in.mark == mark then record { host = host; port = port; offered = l.link_in.offered; heard = []; sent = [] } else w
anew host port mark (Err f) w = w

-- What went over it in one more dial is joined to it: the bytes heard, and what is sent for the bytes written, less what is
-- held back.
abbrev pub joined_with : Bool → Hearing → Sending → Passed → Passed
joined_with true h s w = record { host = w.host; port = w.port; offered = w.offered; heard = w.heard ++ heard h; sent = w.sent ++ sent s }
joined_with false h s w = w

-- the inner link with that mark: where it was dialled to, what it offered at its dial, and what was heard and sent since then in the pool's dials over it, joined
abbrev pub over : {S T : Type 0} → Views S T → History Hearing Sending S T → ℕ → Passed
over v Start mark = record { host = []; port = 0; offered = []; heard = []; sent = [] }
over v (Dialled' shape before host port asked given) mark = anew host.value port.value mark (linked v.ins v.outs asked.value) (over v before mark)
over v (Again' shape before host port given) mark = over v before mark
over v (HungUp' shape before host port link_in link_out closing) mark =
    joined_with ((inner_source link_in.value).mark == mark) link_in.value link_out.value (over v before mark)
over v (Rested' shape before kept) mark = over v before mark

-- the traffic of an inner link over which that went; whether its end was said is the inner sink's
abbrev pub traffic_by : Passed → SourceState → SinkState → Traffic
traffic_by w i o = record { heard = w.heard; sent = w.sent; read_failed = not (i.faults == 0); write_failed = not (o.faults == 0); finished = o.finished }

-- an inner link is hung up, if any, and what went over it is that
abbrev pub with_joined : {S T : Type 0} → (S → SourceState) → (T → SinkState) → (ℕ → Passed) → Option (KeptLink S T) → List Dial → List Dial
with_joined ins outs went None ds = ds
with_joined ins outs went (Some k) ds = finish (ins k.source).mark (traffic_by (went (ins k.source).mark) (ins k.source) (outs k.sink)) ds

-- the kept links are hung up, oldest first, and what went over each is that
abbrev pub all_joined : (ℕ → Passed) → List KeptState → List Dial → List Dial
all_joined went [] ds = ds
all_joined went (k ∷ ks) ds = all_joined went ks (finish k.link_in.mark (traffic_by (went k.link_in.mark) k.link_in k.link_out) ds)

-- the dials of the inner dialer in order, each link that is hung up told by the pool's dials over it
abbrev pub inner_by : {S T : Type 0} → List Dial → Views S T → History Hearing Sending S T → List Dial
inner_by base v Start = base
inner_by base v (Dialled' shape before host port asked given) = inner_by base v before ++ dialed host.value port.value (linked v.ins v.outs asked.value)
inner_by base v (Again' shape before host port given) = inner_by base v before
inner_by base v (HungUp' shape before host port link_in link_out closing) =
    with_joined v.ins v.outs (over v (HungUp' shape before host port link_in link_out closing)) closing.value (inner_by base v before)
inner_by base v (Rested' shape before kept) = all_joined (over v before) (kept_links v before) (inner_by base v before)

-- the dials of the inner dialer after the pool, told by the pool's dials
abbrev pub inner_at_end : {S T : Type 0} → List Dial → Views S T → History Hearing Sending S T → List Dial
inner_at_end base v history = all_joined (over v history) (kept_links v history) (inner_by base v history)

-- that went over a kept link, and it was dialled to the host and port under which it is kept
abbrev pub is_joined : (ℕ → Passed) → KeptState → Bool
is_joined went k =
    is_place (went k.link_in.mark).host (went k.link_in.mark).port k.host k.port
    && (bytes_eq k.link_in.offered (went k.link_in.mark).offered && (bytes_eq (given k.link_in) (went k.link_in.mark).heard && bytes_eq k.link_out.taken (went k.link_in.mark).sent))

abbrev pub are_joined : (ℕ → Passed) → List KeptState → Bool
are_joined went [] = true
are_joined went (k ∷ ks) = is_joined went k && are_joined went ks

-- a kept link is lent again: its mark names where it was dialled to and what went over it, and it offers what the inner link offered after what was heard
abbrev pub again_over : List ℕ → ℕ → (ℕ → Passed) → List KeptState → List Dial
again_over host port went [] = []
again_over host port went (k ∷ ks) =
    record { host = host; port = port; outcome = outcome.Open (lent_mark true k.link_in.mark (went k.link_in.mark)) (drop (length (went k.link_in.mark).heard) (went k.link_in.mark).offered) } ∷ []

-- a link that is new is lent: its mark names where it is dialled to and what it offers, and it offers that; a refusal is the inner one
abbrev pub fresh_over : List ℕ → ℕ → Result LinkState DialFault → List Dial
fresh_over host port (Ok l) =
    record { host = host; port = port; outcome = outcome.Open (lent_mark true l.link_in.mark (record { host = host; port = port; offered = l.link_in.offered; heard = []; sent = [] })) l.link_in.offered } ∷ []
fresh_over host port (Err f) = dialed host port (Err f)

-- the dials of the pool in order, told by the inner links
abbrev pub dials_over : {S T : Type 0} → Views S T → History Hearing Sending S T → List Dial
dials_over v Start = []
dials_over v (Dialled' shape before host port asked given) = dials_over v before ++ fresh_over host.value port.value (linked v.ins v.outs asked.value)
dials_over v (Again' shape before host port given) = dials_over v before ++ again_over host.value port.value (over v before) (from_there host.value port.value (kept_links v before))
dials_over v (HungUp' shape before host port link_in link_out closing) = finish (outer_source link_in.value).mark (traffic (outer_source link_in.value) (outer_sink link_out.value)) (dials_over v before)
dials_over v (Rested' shape before kept) = dials_over v before

-- the first of those links, if any, was dialled to that host and port
abbrev pub is_home : List ℕ → ℕ → (ℕ → Passed) → List KeptState → Bool
is_home host port went [] = true
is_home host port went (k ∷ ks) = is_place host port (went k.link_in.mark).host (went k.link_in.mark).port

-- each dial that took a kept link took one that the inner dialer had dialled to that host and port
abbrev pub are_home : {S T : Type 0} → Views S T → History Hearing Sending S T → Bool
are_home v Start = true
are_home v (Dialled' shape before host port asked given) = are_home v before
are_home v (Again' shape before host port given) = is_home host.value port.value (over v before) (from_there host.value port.value (kept_links v before)) && are_home v before
are_home v (HungUp' shape before host port link_in link_out closing) = are_home v before
are_home v (Rested' shape before kept) = are_home v before

-- the marks of the open links in order
abbrev pub open_mark : DialOutcome → List ℕ
open_mark outcome.NoName = []
open_mark outcome.NotReached = []
open_mark (outcome.Open m offered) = m ∷ []
open_mark (outcome.Link seen) = []

abbrev pub open_marks : List Dial → List ℕ
open_marks [] = []
open_marks (d ∷ ds) = open_mark d.outcome ++ open_marks ds

-- the marks of the lent links with those inner marks
abbrev pub names : (ℕ → Passed) → List ℕ → List ℕ
names went [] = []
names went (m ∷ ms) = lent_mark true m (went m) ∷ names went ms

-- an end with the mark of a lent link tells, and is one of that inner link, lent when that had gone over it
pub record IsNamedLink (t : Bool) (m : ℕ) (w : Passed) (n : ℕ) (u : Passed) : Type 0 where
  pub tells : t ≡ true
  pub mark : m ≡ n
  pub passed : w ≡ u

-- how the inner links are told by the pool's dials: those that were hung up, those that are kept, and those that are lent
pub record Joins {S T : Type 0} (v : Views S T) (base inner : List Dial) (kept : List KeptState) (history : History Hearing Sending S T) : Type 0 where
  pub inner_is : inner ≡ inner_by base v history
  pub kept_joined : IsTrue (are_joined (over v history) kept)
  pub home : IsTrue (are_home v history)
  pub dials_is : dials_of outer_source outer_sink history ≡ dials_over v history
  pub named : open_marks (dials_of outer_source outer_sink history) ≡ names (over v history) (open_marks (dials_of inner_source inner_sink history))
