-- The first place of a list whose byte passes a test.
use Rattle.std.specs.Prelude.{◌≡◌, ℕ, ◌+◌, ◌<◌, ◌==◌, Bool, true, false, List, length, take, drop, slice_index}
use Rattle.std.specs.List.{after_first, before_first, list_any}

-- no byte passes
pub record LacksPlace (test : ℕ → Bool) (bytes : List ℕ) : Type 0 where
  pub none : list_any test bytes ≡ false
  pub whole : before_first test bytes ≡ bytes

-- the first byte that passes stands there
pub record HasPlace (test : ℕ → Bool) (bytes : List ℕ) (at : ℕ) : Type 0 where
  pub within : at < length bytes
  pub passes : test (slice_index bytes at) ≡ true
  pub some : list_any test bytes ≡ true
  pub front : before_first test bytes ≡ take at bytes
  pub back : after_first test bytes ≡ drop (at + 1) bytes

-- a list is cut round the first byte that passes
pub record IsCut (test : ℕ → Bool) (bytes front back : List ℕ) : Type 0 where
  pub some : list_any test bytes ≡ true
  pub before : front ≡ before_first test bytes
  pub behind : back ≡ after_first test bytes

-- the list begins with this byte, and the rest follows
pub record BeginsWithByte (byte : ℕ) (bytes rest : List ℕ) : Type 0 where
  pub first : (slice_index bytes 0 == byte) ≡ true
  pub behind : rest ≡ drop 1 bytes
