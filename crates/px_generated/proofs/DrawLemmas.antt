-- Draws behind draws.
use Rattle.std.proofs.Common.{◌≡◌, ℕ, ◌+◌, ◌*◌, zero, suc, ap, arith, refl, ◌∙◌}
use Rattle.px_generated.specs.Jobs.{draws_before}
use Rattle.px_generated.specs.Draws.{after_draws, next_number}

pub after_draws_add : (m n x : ℕ) → after_draws (m + n) x ≡ after_draws n (after_draws m x)
unfolding after_draws
after_draws_add m zero x = ap (λ k. after_draws k x) (omega arith)
after_draws_add m (suc n) x =
    let more : m + suc n ≡ suc (m + n) = omega arith in
    ap (λ k. after_draws k x) more ∙ ap next_number (after_draws_add m n x)

pub after_draws_none : (x : ℕ) → after_draws 0 x ≡ x
unfolding after_draws
after_draws_none x = refl

-- the three draws of one thing more
pub three_more : (count x : ℕ) → after_draws (3 * (count + 1)) x ≡ after_draws 3 (after_draws (3 * count) x)
three_more count x =
    let more : 3 * (count + 1) ≡ 3 * count + 3 = omega arith in
    ap (λ k. after_draws k x) more ∙ after_draws_add (3 * count) 3 x

-- the draws of one session more
pub draws_before_more : (count seed : ℕ) → draws_before (count + 1) seed ≡ after_draws 300 (draws_before count seed)
unfolding draws_before
draws_before_more count seed =
    let more : 3000 + 300 * (count + 1) ≡ 3000 + 300 * count + 300 = omega arith in
    ap (λ k. after_draws k seed) more ∙ after_draws_add (3000 + 300 * count) 300 seed
