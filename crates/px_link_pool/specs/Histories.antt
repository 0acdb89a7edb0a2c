-- What a history tells: the pool's dials, the dials of the inner dialer, and the kept links.
use Rattle.std.specs.Prelude.{◌≡◌, ◌↔◌, ℕ, ◌+◌, ◌-◌, ◌^◌, min, Bool, true, false, not, codes, ◌==◌, ◌&&◌, ◌||◌, nat_lt, if◌then◌else◌, List, [], ◌∷◌, ◌++◌, length, drop, Option, Some, None}
use Rattle.std.specs.Option.{is_none}
use Rattle.std.specs.Str.{bytes_eq}
use Rattle.px_base.specs.declared.dials.Dial.{Dial}
use Rattle.px_base.specs.Sources.{SourceState}
use Rattle.px_base.specs.Sinks.{SinkState}
use Rattle.px_base.specs.declared.faults.SinkFault.{SinkFault}
use Rattle.px_base.specs.declared.faults.SinkFault.TheVariants as fault
use Rattle.px_base.specs.Dials.{linked, dialed, finish, traffic}
use Rattle.px_pool_ends.specs.Answers.{IsAnswer, is_answered, is_lost}
use Rattle.px_pool_ends.specs.Incomings.{Hearing, IsLaterSource, inner_source, heard}
use Rattle.px_pool_ends.specs.Outgoings.{Sending, inner_sink, IsSent}
use Rattle.px_link_pool.specs.Shelves.{items, is_place, without_first}
use Rattle.px_link_pool.specs.Standing.{KeptState, kept_states}
use Rattle.px_link_pool.specs.declared.shelves.KeptLink.{KeptLink}
use Rattle.px_link_pool.specs.declared.histories.History.{History, Start, Dialled', Again', HungUp', Rested'}

-- the dials of the pool in order
abbrev pub dials_of : {I O S T : Type 0} → (I → SourceState) → (O → SinkState) → History I O S T → List Dial
dials_of ins outs Start = []
dials_of ins outs (Dialled' shape before host port asked given) = dials_of ins outs before ++ dialed host.value port.value (linked ins outs given.value)
dials_of ins outs (Again' shape before host port given) = dials_of ins outs before ++ dialed host.value port.value (linked ins outs given.value)
dials_of ins outs (HungUp' shape before host port link_in link_out closing) = finish (ins link_in.value).mark (traffic (ins link_in.value) (outs link_out.value)) (dials_of ins outs before)
dials_of ins outs (Rested' shape before kept) = dials_of ins outs before

-- an inner link is hung up, if any
abbrev pub with_closed : {S T : Type 0} → (S → SourceState) → (T → SinkState) → Option (KeptLink S T) → List Dial → List Dial
with_closed ins outs None ds = ds
with_closed ins outs (Some k) ds = finish (ins k.source).mark (traffic (ins k.source) (outs k.sink)) ds

-- the kept links are hung up, oldest first
abbrev pub all_closed : List KeptState → List Dial → List Dial
all_closed [] ds = ds
all_closed (k ∷ ks) ds = all_closed ks (finish k.link_in.mark (traffic k.link_in k.link_out) ds)

-- the dials of the inner dialer in order, behind those before the pool
abbrev pub inner_of : {I O S T : Type 0} → List Dial → (S → SourceState) → (T → SinkState) → History I O S T → List Dial
inner_of base ins outs Start = base
inner_of base ins outs (Dialled' shape before host port asked given) = inner_of base ins outs before ++ dialed host.value port.value (linked ins outs asked.value)
inner_of base ins outs (Again' shape before host port given) = inner_of base ins outs before
inner_of base ins outs (HungUp' shape before host port link_in link_out closing) = with_closed ins outs closing.value (inner_of base ins outs before)
inner_of base ins outs (Rested' shape before kept) = all_closed (kept_states ins outs (items kept.value)) (inner_of base ins outs before)

abbrev pub is_there : List ℕ → ℕ → KeptState → Bool
is_there host port k = is_place host port k.host k.port

-- a dial takes the first of that place off the list, if there is one
abbrev pub gone_from : List ℕ → ℕ → List KeptState → List KeptState
gone_from host port = without_first (is_there host port)

abbrev pub has_place : List ℕ → ℕ → List KeptState → Bool
has_place host port [] = false
has_place host port (k ∷ ks) = is_there host port k || has_place host port ks

-- a fifth takes the oldest off
abbrev pub at_most_four : List KeptState → List KeptState
at_most_four ks = if nat_lt 4 (length ks) then drop 1 ks else ks

-- a link that is kept goes to the end
abbrev pub back_on : Bool → KeptState → List KeptState → List KeptState
back_on true k ks = at_most_four (ks ++ k ∷ [])
back_on false k ks = ks

-- one whole answer was heard and nothing more, and no read failed
abbrev pub is_read_out : Hearing → Bool
is_read_out h = is_answered h.following && (h.faults == 0)

-- the link was left open: no write failed, no sending of bytes that were taken was refused, its end wasn't said, the line was
-- replaced in the head, and the method isn't HEAD
abbrev pub is_left_open : Sending → Bool
is_left_open s = (s.faults == 0) && (is_none s.stopped && (not s.finished && (s.replaced && not (bytes_eq s.method (codes "HEAD")))))

-- a link may be kept
abbrev pub may_keep : Hearing → Sending → Bool
may_keep h s = is_read_out h && is_left_open s

-- how the ends of an inner link are seen
pub record Views (S T : Type 0) : Type 0 where
  pub ins : S → SourceState
  pub outs : T → SinkState

-- the kept links, oldest first, as they were when they were hung up
abbrev pub kept_links : {S T : Type 0} → Views S T → History Hearing Sending S T → List KeptState
kept_links v Start = []
kept_links v (Dialled' shape before host port asked given) = gone_from host.value port.value (kept_links v before)
kept_links v (Again' shape before host port given) = gone_from host.value port.value (kept_links v before)
kept_links v (HungUp' shape before host port link_in link_out closing) =
    back_on (may_keep link_in.value link_out.value) (record { host = host.value; port = port.value; link_in = inner_source link_in.value; link_out = inner_sink link_out.value }) (kept_links v before)
kept_links v (Rested' shape before kept) = []

-- the inner dialer was asked exactly where no link of that place was kept
abbrev pub are_due : {S T : Type 0} → Views S T → History Hearing Sending S T → Bool
are_due v Start = true
are_due v (Dialled' shape before host port asked given) = not (has_place host.value port.value (kept_links v before)) && are_due v before
are_due v (Again' shape before host port given) = has_place host.value port.value (kept_links v before) && are_due v before
are_due v (HungUp' shape before host port link_in link_out closing) = are_due v before
are_due v (Rested' shape before kept) = are_due v before

-- those of that place
abbrev pub from_there : List ℕ → ℕ → List KeptState → List KeptState
from_there host port [] = []
from_there host port (k ∷ ks) = if is_there host port k then k ∷ ks else from_there host port ks

-- what a history tells of a pool: the inner dialer's dials, the kept links, and which dials took one
pub record HistoryTells {S T : Type 0} (v : Views S T) (base inner : List Dial) (kept : List KeptState) (history : History Hearing Sending S T) : Type 0 where
  pub inner_is : inner ≡ inner_of base v.ins v.outs history
  pub kept_is : kept ≡ kept_links v history
  pub due : are_due v history ≡ true

-- one more where it is so; a count at its end stays there
abbrev pub counted_up : Bool → ℕ → ℕ
counted_up true n = min (n + 1) (2 ^ 64 - 1)
counted_up false n = n

-- a sending was refused, the last time that one was, for want of memory
abbrev pub is_sending_wanting : Option SinkFault → Bool
is_sending_wanting None = false
is_sending_wanting (Some fault.Failed) = false
is_sending_wanting (Some fault.Mem) = true

-- memory was wanting while the answer was followed, or for a sending of bytes that were taken
abbrev pub is_link_wanting : Hearing → Sending → Bool
is_link_wanting h s = is_lost h.following || is_sending_wanting s.stopped

-- how many links were handed back for which memory was wanting
abbrev pub wanting_count : {S T : Type 0} → History Hearing Sending S T → ℕ
wanting_count Start = 0
wanting_count (Dialled' shape before host port asked given) = wanting_count before
wanting_count (Again' shape before host port given) = wanting_count before
wanting_count (HungUp' shape before host port link_in link_out closing) = counted_up (is_link_wanting link_in.value link_out.value) (wanting_count before)
wanting_count (Rested' shape before kept) = wanting_count before

-- What is so of a link that was handed back, where it tells: an answer is known exactly where one was heard, unless memory was
-- wanting; the inner source is the one that was lent, later; and what was sent is what is sent for the bytes written, less what is
-- held back.
pub record IsJudged (h : Hearing) (s : Sending) : Type 0 where
  pub answered : is_lost h.following ≡ false → (is_answered h.following ≡ true) ↔ IsAnswer 8 (heard h)
  pub later : IsLaterSource h.begun h.source
  pub sent : IsSent s

-- that is so of each link that was handed back
abbrev pub AreJudged : {S T : Type 0} → History Hearing Sending S T → Type 0
AreJudged Start = Unit {0}
AreJudged (Dialled' shape before host port asked given) = AreJudged before
AreJudged (Again' shape before host port given) = AreJudged before
AreJudged (HungUp' shape before host port link_in link_out closing) = IsJudged link_in.value link_out.value × AreJudged before
AreJudged (Rested' shape before kept) = AreJudged before
