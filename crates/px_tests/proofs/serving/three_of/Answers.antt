use Rattle.std.proofs.Common.{rules, All, ◌≡◌, ℕ, zero, suc, ◌<◌, List, [], ◌∷◌, length, slice_index_or, subst, arith}
use Rattle.px_ends.specs.Ends.{EndsState, IsFreshEnds}
use Rattle.px_tests.proofs.serving.three_of.Goals as goal

all_three : (a b c : EndsState) → IsFreshEnds a → IsFreshEnds b → IsFreshEnds c → All IsFreshEnds (a ∷ b ∷ c ∷ [])
all_three a b c x y z zero d h = x
all_three a b c x y z (suc zero) d h = y
all_three a b c x y z (suc (suc zero)) d h = z
all_three a b c x y z (suc (suc (suc k))) d h = absurd (omega (arith, h))

pub returns : goal.returns
returns c =
    let three : c.args.first ∷ c.args.second ∷ c.args.third ∷ [] ≡ c.from_vec.result = search rules in
    subst (λ (l : List EndsState). All IsFreshEnds l) three (all_three _ _ _ c.requires.fresh_first c.requires.fresh_second c.requires.fresh_third)
