-- Dial names as they are printed by those who make them of a server and a target.
use Rattle.std.specs.Prelude.{◌≡◌, ℕ, ◌==◌, ◌||◌, Bool, true, false, if◌then◌else◌, List, [], ◌∷◌, ◌++◌, Some}
use Rattle.std.specs.Str.{byte}
use Rattle.px_base.specs.DialNames.{begins_with_byte, is_slash, scheme, is_dial_name, server_of, target_of}

-- no byte of that kind
abbrev pub HasNone : (ℕ → Bool) → List ℕ → Type 0
HasNone p [] = Unit {0}
HasNone p (b ∷ bs) = (p b ≡ false) × HasNone p bs

-- a colon stands among the bytes
abbrev pub has_colon : List ℕ → Bool
has_colon [] = false
has_colon (b ∷ bs) = b == byte ":" || has_colon bs

-- a host, in brackets where it holds a colon
abbrev pub printed_host : List ℕ → List ℕ
printed_host host = if has_colon host then byte "[" ∷ (host ++ byte "]" ∷ []) else host

-- the dial name of a server's host, its port in digits and a target's host
abbrev pub printed : List ℕ → List ℕ → List ℕ → List ℕ
printed host digits target = scheme ++ ((printed_host host ++ byte ":" ∷ digits) ++ byte "/" ∷ target)

-- a server's host without slashes and closing brackets, that no bracket opens, and digits without slashes
pub record IsPrintable (host digits : List ℕ) : Type 0 where
  pub no_slash : HasNone is_slash host
  pub no_bracket : HasNone (λ b. b == byte "]") host
  pub not_opened : begins_with_byte (byte "[") host ≡ false
  pub digits_no_slash : HasNone is_slash digits

-- it is a dial name of that server's host and port and of that target's host
pub record IsDialNameOf (name host : List ℕ) (p : ℕ) (target : List ℕ) : Type 0 where
  pub named : is_dial_name name ≡ true
  pub server : server_of name ≡ Some (record { host = host; port = p })
  pub target_read : target_of name ≡ target
