-- The mark of a link behind a handshake: the mark of the link below and what the handshake took of it, as one number. Ends of
-- one mark have one handshake too, so a link that is hung up can't be taken for another.
use Rattle.std.specs.Prelude.{ℕ, ◌+◌, ◌*◌, Bool, true, false, List, [], ◌∷◌}
use Rattle.px_socks.specs.declared.ends.HandshakePassage.{HandshakePassage}

-- a number for two numbers; no two pairs have the same
unfoldable pub paired_mark : ℕ → ℕ → ℕ
paired_mark a b = (a + b) * (a + b) + a

-- a number for a list of numbers; no two lists have the same
unfoldable pub list_code : List ℕ → ℕ
list_code [] = 0
list_code (b ∷ bs) = paired_mark b (list_code bs) + 1

-- the mark of an end behind a handshake; 0 where the end doesn't tell its bytes
unfoldable pub mark_behind : Bool → HandshakePassage → ℕ → ℕ
mark_behind true p mark = paired_mark mark (paired_mark p.heard (list_code p.messages)) + 1
mark_behind false p mark = 0
