-- What the dials of the inner dialer met, of what was to come.
use Rattle.std.specs.Prelude.{◌≡◌, List}
use Rattle.px_base.specs.Dials.{DialerState, Coming, linked, met, agrees, LeavesComing}
use Rattle.px_pool_ends.specs.Incomings.{Hearing}
use Rattle.px_pool_ends.specs.Outgoings.{Sending}
use Rattle.px_link_pool.specs.Histories.{Views}
use Rattle.px_link_pool.specs.declared.histories.History.{History, Start, Dialled', Again', HungUp', Rested'}

-- the dialer, with that to come
abbrev pub with_coming : DialerState → List Coming → DialerState
with_coming d cs = record d { coming = cs }

-- That is left to come behind what was done with a pool over a dialer that was so when the pool was made: each dial of the inner
-- dialer, and no other, met what came first, and left what came behind it.
abbrev pub MeetsComing : {S T : Type 0} → Views S T → DialerState → History Hearing Sending S T → List Coming → Type 0
MeetsComing v first Start left = left ≡ first.coming
MeetsComing v first (Dialled' shape before host port asked given) left =
    (was : List Coming) × MeetsComing v first before was × agrees (met (with_coming first was) host.value) (linked v.ins v.outs asked.value)
    × LeavesComing (with_coming first was) (with_coming first left) host.value (linked v.ins v.outs asked.value)
MeetsComing v first (Again' shape before host port given) left = MeetsComing v first before left
MeetsComing v first (HungUp' shape before host port link_in link_out closing) left = MeetsComing v first before left
MeetsComing v first (Rested' shape before kept) left = MeetsComing v first before left
