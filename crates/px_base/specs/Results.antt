-- An answer that is made from another one, unless that is a refusal.
use Rattle.std.specs.Prelude.{Result, Ok, Err}

abbrev pub result_map : {X Y F : Type 0} → (X → Y) → Result X F → Result Y F
result_map made (Ok x) = Ok (made x)
result_map made (Err f) = Err f
