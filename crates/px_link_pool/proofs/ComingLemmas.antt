-- What the inner dials met of what was to come, step by step.
use Rattle.std.proofs.Common.{◌≡◌, ℕ, List, Result, ap}
use mathlib.Core.Logic.{∥∥₁_map}
use Rattle.std.proofs.lemmas.Grind.{merely}
use Rattle.px_base.specs.declared.faults.DialFault.{DialFault}
use Rattle.px_base.specs.Dials.{DialerState, Coming, LinkState, linked, met, agrees, LeavesComing}
use Rattle.px_pool_ends.specs.Incomings.{Hearing}
use Rattle.px_pool_ends.specs.Outgoings.{Sending}
use Rattle.px_link_pool.specs.declared.histories.History.{History, Start}
use Rattle.px_link_pool.specs.Histories.{Views}
use Rattle.px_link_pool.specs.Coming.{with_coming, MeetsComing}

agrees_as : (first inner : DialerState) (host name : List ℕ) (r asked : Result LinkState DialFault) → inner.through_servers ≡ first.through_servers → name ≡ host → asked ≡ r → agrees (met inner host) r → agrees (met (with_coming first inner.coming) name) asked
agrees_as first inner host name r asked s e f a = rw (e, f, ← s) a

leaves_as : (first inner new : DialerState) (host name : List ℕ) (r asked : Result LinkState DialFault) → inner.through_servers ≡ first.through_servers → name ≡ host → asked ≡ r → LeavesComing inner new host r
    → LeavesComing (with_coming first inner.coming) (with_coming first new.coming) name asked
leaves_as first inner new host name r asked s e f a = rw (e, f, ← s) a

-- a link is dialled, or refused
pub meets_dialled : {S T : Type 0} (v : Views S T) (first inner new : DialerState) (before after : History Hearing Sending S T) (host name : List ℕ) (r asked : Result (S × T) DialFault)
    → ((was left : List Coming) → MeetsComing v first before was → agrees (met (with_coming first was) name) (linked v.ins v.outs asked) → LeavesComing (with_coming first was) (with_coming first left) name (linked v.ins v.outs asked) → MeetsComing v first after left)
    → inner.through_servers ≡ first.through_servers → name ≡ host → asked ≡ r → agrees (met inner host) (linked v.ins v.outs r) → LeavesComing inner new host (linked v.ins v.outs r)
    → ∥ MeetsComing v first before inner.coming ∥₁ → ∥ MeetsComing v first after new.coming ∥₁
meets_dialled v first inner new before after host name r asked more s e f a l m =
    ∥∥₁_map m (λ k. more inner.coming new.coming k (agrees_as first inner host name (linked v.ins v.outs r) (linked v.ins v.outs asked) s e (ap (linked v.ins v.outs) f) a)
    (leaves_as first inner new host name (linked v.ins v.outs r) (linked v.ins v.outs asked) s e (ap (linked v.ins v.outs) f) l))

-- no dial was made
pub meets_on : {S T : Type 0} (v : Views S T) (first : DialerState) (old new : List Coming) (before after : History Hearing Sending S T) → ((left : List Coming) → MeetsComing v first before left → MeetsComing v first after left) → new ≡ old
    → ∥ MeetsComing v first before old ∥₁ → ∥ MeetsComing v first after new ∥₁
meets_on v first old new before after on e m = rw e (∥∥₁_map m (on old))

pub meets_left : {S T : Type 0} (v : Views S T) (first : DialerState) (old new : List Coming) (history : History Hearing Sending S T) → new ≡ old → ∥ MeetsComing v first history old ∥₁ → ∥ MeetsComing v first history new ∥₁
meets_left v first old new history e m = rw e m

pub meets_first : {S T : Type 0} (v : Views S T) (first inner : DialerState) → inner ≡ first → ∥ MeetsComing v first Start inner.coming ∥₁
meets_first v first inner e = merely (ap (λ d. d.coming) e)
