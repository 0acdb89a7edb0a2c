-- Bytes that are read ahead, one piece more.
use Rattle.std.proofs.Common.{◌≡◌, ℕ, ◌≤◌, List, ◌++◌, length, drop, sym, ap, ◌∙◌, arith, length-append}
use Rattle.std.proofs.lemmas.List.{drop-append-le}
use mathlib.Core.List.{IsPrefix}

-- what is read moves from what is left to the end of the bytes, also behind those that were used
pub read_on : (at : ℕ) (old new left left' : List ℕ) → at ≤ length old → IsPrefix old new → new ++ left' ≡ old ++ left → drop at old ++ left ≡ drop at new ++ left'
read_on at old new left left' within front e =
    let longer : length old ≤ length new = omega (arith, ap (λ (xs : List ℕ). length xs) front.1, length-append old front.0) in
    sym (drop-append-le at old left within) ∙ ap (λ (xs : List ℕ). drop at xs) (sym e) ∙ drop-append-le at new left' (omega arith)
