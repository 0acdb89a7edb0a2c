-- Port lists that are read item by item.
use Rattle.std.proofs.Common.{◌≡◌, ℕ, ◌+◌, List, [], ◌∷◌, ◌++◌, length, Option, Some, None, refl, ap, append_assoc}
use Rattle.std.specs.Prelude.{option_map}
use Rattle.px_base.specs.declared.ports.PortRange.{PortRange}

-- ranges that were read before those of the rest
abbrev pub behind : List PortRange → Option (List PortRange) → Option (List PortRange)
behind ranges rest = option_map (λ rs. ranges ++ rs) rest

pub behind-none : (rest : Option (List PortRange)) → behind [] rest ≡ rest
behind-none None = refl
behind-none (Some rs) = refl

-- one more range was read
pub behind-push : (ranges : List PortRange) (r : PortRange) (rest : Option (List PortRange)) → behind (ranges ++ r ∷ []) rest ≡ behind ranges (option_map (λ rs. r ∷ rs) rest)
behind-push ranges r None = refl
behind-push ranges r (Some rs) = ap Some (append_assoc ranges (r ∷ []) rs)

pub ruleset behind_rules = (behind-none, behind-push)

-- what is left of a text whose items are read one by one
abbrev pub left : Option (List ℕ) → ℕ
left None = 0
left (Some bs) = length bs + 1
