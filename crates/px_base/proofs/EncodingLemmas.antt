-- Bytes that are UTF-8, and others.
use Rattle.std.proofs.Common.{◌≡◌, ℕ, Bool, true, false, List, refl}
use Rattle.std.specs.Str.{IsUtf8, is_utf8}
use Rattle.std.proofs.lemmas.Str.{IsUtf8-from_is_utf8, is_utf8-from_IsUtf8}

by_test : (bs : List ℕ) (b : Bool) → is_utf8 bs ≡ b → ¬ (IsUtf8 bs) → b ≡ false
by_test bs true e not_text = absurd (not_text (IsUtf8-from_is_utf8 bs e))
by_test bs false e not_text = refl

pub is_utf8-no_text : (bs : List ℕ) → ¬ (IsUtf8 bs) → is_utf8 bs ≡ false
is_utf8-no_text bs not_text = by_test bs (is_utf8 bs) refl not_text

pub ruleset text_laws = (is_utf8-no_text, is_utf8-from_IsUtf8)
