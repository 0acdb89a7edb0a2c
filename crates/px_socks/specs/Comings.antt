-- What a dial through a server gives, by what a dial of that server gives.
use Rattle.std.specs.Prelude.{ℕ, ◌+◌, ◌==◌, ◌&&◌, nat_le, true, false, if◌then◌else◌, List, [], ◌∷◌, length, drop, take, Option, Some, None, option_map}
use Rattle.px_base.specs.Dials.{Met, offers, nameless, unreached, untold, Coming}
use Rattle.px_socks.specs.Replies.{rest_length}

-- how long a reply is of which so many bytes stand behind its first five, if all are there
abbrev pub whole_length : List ℕ → Option ℕ → Option ℕ
whole_length bytes None = None
whole_length bytes (Some more) = if nat_le (5 + more) (length bytes) then Some (5 + more) else None

-- how long the reply is that stands at the front, if one that says "succeeded" does
abbrev pub reply_length : List ℕ → Option ℕ
reply_length bytes = whole_length bytes (rest_length (take 5 bytes))

-- how many bytes at the front are accepted of a server, if those of one that accepts stand there
abbrev pub accepted_length : List ℕ → Option ℕ
accepted_length [] = None
accepted_length (version ∷ []) = None
accepted_length (version ∷ method ∷ rest) = if version == 5 && method == 0 then option_map (λ n. 2 + n) (reply_length rest) else None

-- a link that offers what stands behind so many bytes, or none; its ends fail no more
abbrev pub behind_accepted : List ℕ → Option ℕ → Met
behind_accepted bytes None = unreached
behind_accepted bytes (Some count) = offers (drop count bytes) true true

-- what is met behind the handshake with a server: where the server's link may fail it isn't told
abbrev pub behind_handshake : Met → Met
behind_handshake (offers bytes true true) = behind_accepted bytes (accepted_length bytes)
behind_handshake (offers bytes true false) = untold
behind_handshake (offers bytes false writes) = untold
behind_handshake nameless = unreached
behind_handshake unreached = unreached
behind_handshake untold = untold

-- what the next dial gives over a dialer whose next dial gives that; a server is dialled as it is
abbrev pub through_server : Coming → Coming
through_server c = record { plain = c.plain; named = behind_handshake c.plain }
