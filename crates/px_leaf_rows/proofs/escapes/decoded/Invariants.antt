-- Without a backslash, the bytes so far are those of the text.
use Rattle.std.proofs.Common.{◌≡◌, ◌≢◌, All, None, take}
use Rattle.px_leaf_rows.specs.declared.escapes.Place.TheVariants as place
use Rattle.px_leaf_rows.proofs.escapes.decoded.Given as goal

abbrev pub invariant-loop-byte : goal.invariant-loop-byte
invariant-loop-byte l =
    All (λ byte. byte ≢ 92) l.text
    → (l.decoder.place ≡ place.Plain) × (l.decoder.repeat ≡ None) × (l.decoder.bytes.items ≡ take l.byte-index l.text)
