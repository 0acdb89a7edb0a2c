-- The outer dials and the inner ones, dial by dial: what a dialer through SOCKS servers makes of the dialer below.
use Rattle.std.specs.Prelude.{◌≡◌, ℕ, false, List, [], ◌∷◌}
use Rattle.px_base.specs.declared.dials.Dial.{Dial}
use Rattle.px_socks.specs.Messages.{messages}
use Rattle.px_base.specs.DialNames.{is_dial_name, target_of}
use Rattle.px_socks.specs.Notes.{no_handshake, passage_of, dial_behind, refused_dial, IsAcceptedBy, IsRefusedBy, IsLostBy, IsServedDial, IsTooLong}

-- those outer dials come of those inner ones
pub data Handshakes : List Dial → List Dial → Type 0 where
  -- no dial yet
  none : Handshakes [] []
  -- a host that isn't a dial name: one inner dial of it, with the same outcome
  plain : (d : Dial) (outer inner : List Dial) → is_dial_name d.host ≡ false → Handshakes outer inner → Handshakes (dial_behind d.host d.port no_handshake d ∷ outer) (d ∷ inner)
  -- an accepted dial: one inner dial of the server; the outer link is the inner one behind the handshake
  accepted : (name : List ℕ) (port heard : ℕ) (d : Dial) (outer inner : List Dial) → IsServedDial name (IsAcceptedBy (passage_of name port heard)) d → Handshakes outer inner
      → Handshakes (dial_behind name port (passage_of name port heard) d ∷ outer) (d ∷ inner)
  -- a refused dial: one inner dial of the server, which was refused too or whose link is hung up
  refused_one : (name : List ℕ) (port : ℕ) (d : Dial) (outer inner : List Dial) → IsServedDial name (IsRefusedBy (messages (target_of name) port)) d → Handshakes outer inner
      → Handshakes (refused_dial name port ∷ outer) (d ∷ inner)
  -- a target's host of more than 255 bytes: refused, with no inner dial
  too_long : (name : List ℕ) (port : ℕ) (outer inner : List Dial) → IsTooLong name → Handshakes outer inner → Handshakes (refused_dial name port ∷ outer) inner
  -- memory was wanting in the handshake: no outer dial, and the inner link is hung up
  lost : (name : List ℕ) (port : ℕ) (d : Dial) (outer inner : List Dial) → IsServedDial name (IsLostBy (messages (target_of name) port)) d → Handshakes outer inner → Handshakes outer (d ∷ inner)
