-- The set of the kinds and names that were seen.
use Rattle.std.proofs.Common.{◌≡◌, ℕ, Bool, true, false, ◌&&◌, ◌||◌, ◌==◌, cond, List, refl, sym, ap, ap₂, ◌∙◌, nat_cmp, bytes_eq}
use Rattle.std.specs.Cmp.{nat_eq_equiv, tied_then, unsigned_tied}
use Rattle.std.specs.Cmp.Lexicographic.{nat_list_eq_equiv, slice_cmp}
use Rattle.std.specs.Ordering.{is_eq, ordering_then}
use Rattle.std.proofs.lemmas.Map.Text.{is_eq-slice_cmp}

-- two pairs of a rank and a name compare as equal where both are the same
same_pair : (a b : ℕ) (xs ys : List ℕ) → is_eq (ordering_then (nat_cmp a b) (slice_cmp nat_cmp xs ys)) ≡ (b == a && bytes_eq ys xs)
same_pair a b xs ys =
    sym (tied_then (nat_cmp a b) (slice_cmp nat_cmp xs ys))
    ∙ ap₂ ◌&&◌ (unsigned_tied a b ∙ nat_eq_equiv.symm a b) (is_eq-slice_cmp xs ys ∙ nat_list_eq_equiv.symm xs ys)

added_or_seen : (added seen : Bool) → cond added true seen ≡ (seen || added)
added_or_seen true true = refl
added_or_seen true false = refl
added_or_seen false true = refl
added_or_seen false false = refl

-- what is seen once a rank and a name are added
pub seen_once_added : (a b : ℕ) (xs ys : List ℕ) (seen : Bool) →
    cond (is_eq (ordering_then (nat_cmp a b) (slice_cmp nat_cmp xs ys))) true seen ≡ (seen || (b == a && bytes_eq ys xs))
seen_once_added a b xs ys seen = ap (λ t. cond t true seen) (same_pair a b xs ys) ∙ added_or_seen (b == a && bytes_eq ys xs) seen
