-- A printed dial name is read back.
use Rattle.std.proofs.Common.{◌≡◌, ℕ, ◌+◌, Bool, true, false, List, [], ◌∷◌, ◌++◌, length, drop, arith, append_assoc, refl, ◌⊎◌, inl, inr, Some}
use Rattle.std.specs.Prelude.{◌==◌, ◌||◌, nat_lt}
use Rattle.std.specs.Str.{byte}
use Rattle.std.specs.List.{position, position_or_len}
use Rattle.std.proofs.Math.Seq.{take-append_seam, drop-append-add}
use Rattle.std.proofs.lemmas.Grind.{common_steps}
use Rattle.px_base.specs.Ports.{port}
use Rattle.px_base.specs.DialNames.{server, begins_with_byte, bracketed_server, unbracketed, server_in, is_slash, server_of, target_of, is_dial_name}
use Rattle.px_dial_names.specs.Printed.{HasNone, has_colon, printed_host, printed, IsPrintable}

first_at : (p : ℕ → Bool) (xs : List ℕ) (y : ℕ) (ys : List ℕ) → HasNone p xs → p y ≡ true → position_or_len p (xs ++ y ∷ ys) ≡ length xs
first_at p [] y ys h e = rw e refl
first_at p (x ∷ xs) y ys h e = let r = first_at p xs y ys h.1 e in rw (h.0, r) (omega arith)

place_at : (p : ℕ → Bool) (xs : List ℕ) (y : ℕ) (ys : List ℕ) → HasNone p xs → p y ≡ true → position p (xs ++ y ∷ ys) ≡ Some (length xs)
place_at p xs y ys h e =
    let less : nat_lt (length xs) (length (xs ++ y ∷ ys)) ≡ true = grind (arith, common_steps) in
    rw (first_at p xs y ys h e, less) refl

behind_first : (xs : List ℕ) (y : ℕ) (ys : List ℕ) → drop (length xs + 1) (xs ++ y ∷ ys) ≡ ys
behind_first xs y ys = drop-append-add xs (y ∷ ys) 1

none-append : (p : ℕ → Bool) (xs ys : List ℕ) → HasNone p xs → HasNone p ys → HasNone p (xs ++ ys)
none-append p [] ys h k = k
none-append p (x ∷ xs) ys h k = (h.0, none-append p xs ys h.1 k)

no_colon : (bs : List ℕ) → has_colon bs ≡ false → HasNone (λ b. b == byte ":") bs
no_colon [] h = tt
no_colon (b ∷ bs) h = (first (b == byte ":") (has_colon bs) h, no_colon bs (later (b == byte ":") (has_colon bs) h))
  where
    first : (a c : Bool) → (a || c) ≡ false → a ≡ false
    first true c e = e
    first false c e = refl

    later : (a c : Bool) → (a || c) ≡ false → c ≡ false
    later true c e = absurd (cc)
    later false c e = e

not_opened : (host digits : List ℕ) → begins_with_byte (byte "[") host ≡ false → begins_with_byte (byte "[") (host ++ byte ":" ∷ digits) ≡ false
not_opened [] digits h = refl
not_opened (b ∷ bs) digits h = h

unbracketed_read : (host digits : List ℕ) → HasNone (λ b. b == byte ":") host → unbracketed (host ++ byte ":" ∷ digits) (position (λ b. b == byte ":") (host ++ byte ":" ∷ digits)) ≡ server host digits
unbracketed_read host digits h =
    rw (place_at (λ b. b == byte ":") host (byte ":") digits h refl) (rw (take-append_seam host (byte ":" ∷ digits), behind_first host (byte ":") digits) refl)

bracketed_read : (host digits : List ℕ) → HasNone (λ b. b == byte "]") host
    → bracketed_server (host ++ byte "]" ∷ byte ":" ∷ digits) (position (λ b. b == byte "]") (host ++ byte "]" ∷ byte ":" ∷ digits)) ≡ server host digits
bracketed_read host digits h =
    rw (place_at (λ b. b == byte "]") host (byte "]") (byte ":" ∷ digits) h refl) (rw (take-append_seam host (byte "]" ∷ byte ":" ∷ digits), behind_first host (byte "]") (byte ":" ∷ digits)) refl)

two : (b : Bool) → (b ≡ true) ⊎ (b ≡ false)
two true = inl refl
two false = inr refl

server_read : (host digits : List ℕ) → IsPrintable host digits → server_in (printed_host host ++ byte ":" ∷ digits) ≡ server host digits
server_read host digits h = elim (two (has_colon host)) as (λ _. server_in (printed_host host ++ byte ":" ∷ digits) ≡ server host digits) [
  | inl colon ↦
      let parts : (host ++ byte "]" ∷ []) ++ byte ":" ∷ digits ≡ host ++ byte "]" ∷ byte ":" ∷ digits = append_assoc host (byte "]" ∷ []) (byte ":" ∷ digits) in
      rw colon (rw parts (bracketed_read host digits h.no_bracket))
  | inr plain ↦ rw plain (rw (not_opened host digits h.not_opened) (unbracketed_read host digits (no_colon host plain)))
]

shown_no_slash : (host : List ℕ) → HasNone is_slash host → HasNone is_slash (printed_host host)
shown_no_slash host h = elim (two (has_colon host)) as (λ _. HasNone is_slash (printed_host host)) [
  | inl colon ↦ rw colon (refl, none-append is_slash host (byte "]" ∷ []) h (refl, tt))
  | inr plain ↦ rw plain h
]

authority_no_slash : (host digits : List ℕ) → IsPrintable host digits → HasNone is_slash (printed_host host ++ byte ":" ∷ digits)
authority_no_slash host digits h = none-append is_slash (printed_host host) (byte ":" ∷ digits) (shown_no_slash host h.no_slash) (refl, h.digits_no_slash)

pub printed_target : (host digits target : List ℕ) → IsPrintable host digits → target_of (printed host digits target) ≡ target
printed_target host digits target h =
    rw (first_at is_slash (printed_host host ++ byte ":" ∷ digits) (byte "/") target (authority_no_slash host digits h) refl) (behind_first (printed_host host ++ byte ":" ∷ digits) (byte "/") target)

pub printed_server : (host digits target : List ℕ) (p : ℕ) → IsPrintable host digits → port digits ≡ Some p → server_of (printed host digits target) ≡ Some (record { host = host; port = p })
printed_server host digits target p h e =
    rw (first_at is_slash (printed_host host ++ byte ":" ∷ digits) (byte "/") target (authority_no_slash host digits h) refl, take-append_seam (printed_host host ++ byte ":" ∷ digits) (byte "/" ∷ target), server_read host digits h, e) refl

pub printed_name : (host digits target : List ℕ) (p : ℕ) → IsPrintable host digits → port digits ≡ Some p → is_dial_name (printed host digits target) ≡ true
printed_name host digits target p h e =
    rw (place_at is_slash (printed_host host ++ byte ":" ∷ digits) (byte "/") target (authority_no_slash host digits h) refl)
    (rw (take-append_seam (printed_host host ++ byte ":" ∷ digits) (byte "/" ∷ target), server_read host digits h, e) refl)
