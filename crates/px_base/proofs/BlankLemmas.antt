-- White space at the end of a text.
use Rattle.std.proofs.Common.{◌≡◌, ℕ, true, false, List, [], ◌∷◌, ◌++◌, ◌&&◌, arith}
use Rattle.px_base.specs.Blanks.{is_blank, all_blank, trim_end}
use Rattle.std.proofs.lemmas.Grind.{common_steps}

pub all_blank-last : (bs : List ℕ) (b : ℕ) → all_blank (bs ++ b ∷ []) ≡ (all_blank bs && is_blank b)
all_blank-last [] b = grind (arith, common_steps)
all_blank-last (x ∷ bs) b = grind (arith, common_steps, all_blank-last bs b)

pub trim_end-blank : (bs : List ℕ) (b : ℕ) → is_blank b ≡ true → trim_end (bs ++ b ∷ []) ≡ trim_end bs
trim_end-blank [] b e = grind (arith, common_steps)
trim_end-blank (x ∷ bs) b e = grind (arith, common_steps, trim_end-blank bs b e, all_blank-last bs b)

pub trim_end-other : (bs : List ℕ) (b : ℕ) → is_blank b ≡ false → trim_end (bs ++ b ∷ []) ≡ bs ++ b ∷ []
trim_end-other [] b e = grind (arith, common_steps)
trim_end-other (x ∷ bs) b e = grind (arith, common_steps, trim_end-other bs b e, all_blank-last bs b)

pub ruleset trim_end_rules = (trim_end-blank, trim_end-other)
