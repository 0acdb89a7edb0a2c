-- How many links are open at the inner dialer, and how many the pool has lent and keeps: known of every dialer, whether it tells or not.
use Rattle.std.specs.Prelude.{◌≡◌, ℕ, ◌+◌, ◌-◌, ◌^◌, ◌<◌}
use Rattle.px_base.specs.Dials.{DialerState}

-- Of so many links as were kept so many are left: each of the others was hung up, once, unless the count is at its end. None was
-- opened.
pub record HangsUpOthers (old new : DialerState) (before after : ℕ) : Type 0 where
  pub opened_same : new.opened ≡ old.opened
  pub hung_up : new.hung_up < 2 ^ 64 - 1 → new.hung_up + after ≡ old.hung_up + before

-- As many links are open at the inner dialer as at the pool, with those that the pool keeps, unless a count is at its end: the pool
-- counts so many opened and so many hung up, beginning with those of the inner dialer over which it was made, and keeps so many.
abbrev pub IsBalanced : DialerState → ℕ → ℕ → ℕ → Type 0
IsBalanced inner opened hung_up kept =
    inner.opened < 2 ^ 64 - 1 → inner.hung_up < 2 ^ 64 - 1 → opened < 2 ^ 64 - 1 → hung_up < 2 ^ 64 - 1 → inner.opened + hung_up ≡ inner.hung_up + (opened + kept)
