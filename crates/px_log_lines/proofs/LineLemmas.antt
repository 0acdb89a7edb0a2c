-- What is kept of a line's text.
use Rattle.std.proofs.Common.{◌≡◌, ◌-◌, ◌<◌, ◌≤◌, get_or, ℕ, suc, zero, List, [], ◌∷◌, ◌++◌, length, take, ap, sym, ◌∙◌, refl, arith}
use Rattle.std.proofs.lemmas.List.{append-nil, append_assoc}
use Rattle.std.proofs.Math.Nat.{sub-zero}
use Rattle.px_log_lines.specs.Lines.{Keeps, shown_bytes, shown_byte}
use Rattle.px_log_lines.specs.declared.texts.TheConstants.{LINE_SHOWN}

-- what is left away at first is left away at last
take_twice : (n : ℕ) (xs ys : List ℕ) → take n (take n xs ++ ys) ≡ take n (xs ++ ys)
take_twice zero xs ys = refl
take_twice (suc n) [] ys = refl
take_twice (suc n) (x ∷ xs) ys = ap (λ (zs : List ℕ). x ∷ zs) (take_twice n xs ys)

take_all : (n : ℕ) (ys : List ℕ) → take n (take n ys) ≡ take n ys
take_all zero ys = refl
take_all (suc n) [] = refl
take_all (suc n) (y ∷ ys) = ap (λ (zs : List ℕ). y ∷ zs) (take_all n ys)

-- what has no room behind other bytes isn't shown behind them
take_room : (n : ℕ) (xs ys : List ℕ) → length xs ≤ n → take n (xs ++ take (n - length xs) ys) ≡ take n (xs ++ ys)
take_room n [] ys fits = rw sub-zero (take_all n ys)
take_room zero (x ∷ xs) ys fits = refl
take_room (suc n) (x ∷ xs) ys fits =
    let less : suc n - suc (length xs) ≡ n - length xs = omega arith in
    rw less (ap (λ (zs : List ℕ). x ∷ zs) (take_room n xs ys (omega (arith, fits))))

pub keeps_room : (old new bytes : List ℕ) → length old ≤ LINE_SHOWN → new ≡ old ++ take (LINE_SHOWN - length old) bytes → Keeps old new bytes
keeps_room old new bytes fits e = record { shown = ap (λ (zs : List ℕ). take LINE_SHOWN zs) e ∙ take_room LINE_SHOWN old bytes fits }

pub keeps_all : (old new bytes : List ℕ) → new ≡ old ++ bytes → Keeps old new bytes
keeps_all old new bytes e = record { shown = ap (λ (zs : List ℕ). take LINE_SHOWN zs) e }

-- nothing was added
pub keeps_none : (old : List ℕ) → Keeps old old []
keeps_none old = record { shown = ap (λ (zs : List ℕ). take LINE_SHOWN zs) (sym (append-nil old)) }

-- one part behind another
pub keeps_then : {old mid new a b : List ℕ} → Keeps old mid a → Keeps mid new b → Keeps old new (a ++ b)
keeps_then {old = old} {mid = mid} {a = a} {b = b} h k = record {
  shown = k.shown ∙ sym (take_twice LINE_SHOWN mid b) ∙ ap (λ (m : List ℕ). take LINE_SHOWN (m ++ b)) h.shown
      ∙ take_twice LINE_SHOWN (old ++ a) b ∙ ap (λ (zs : List ℕ). take LINE_SHOWN zs) (append_assoc old a b);
}

-- a byte behind those before it
pub escaped_more : (bytes : List ℕ) (i : ℕ) → i < length bytes → shown_bytes (take i bytes) ++ shown_byte (get_or bytes i 0) ≡ shown_bytes (take (suc i) bytes)
unfolding shown_bytes
escaped_more [] i h = absurd (omega (arith, h))
escaped_more (x ∷ xs) zero h = sym (append-nil (shown_byte x))
escaped_more (x ∷ xs) (suc i) h =
    append_assoc (shown_byte x) (shown_bytes (take i xs)) (shown_byte (get_or xs i 0)) ∙ ap (λ (zs : List ℕ). shown_byte x ++ zs) (escaped_more xs i (omega (arith, h)))
