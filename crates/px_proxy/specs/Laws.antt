-- Which takings the workers' insides give.
use Rattle.px_config.specs.Insides.{Asked, Law}
use Rattle.px_config.specs.declared.insides.Taking.{Taking}

-- what is lawful by the one is lawful by the other
abbrev pub IsWithinLaw : Law → Law → Type 0
IsWithinLaw law other = (a : Asked) (t : Taking) → law a t → other a t
