-- The lengths of printed lines.
use Rattle.std.proofs.Common.{◌≡◌, ℕ, suc, ◌+◌, ◌<◌, List, [], ◌∷◌, ◌++◌, length, take, get_or, sym, ◌∙◌, ap, arith, length-append}
use Rattle.std.proofs.Math.Seq.{take-suc}
use Rattle.std.proofs.lemmas.Grind.{flat_map-append}
use Rattle.px_fields.specs.declared.fields.Field.{Field}
use Rattle.px_fields.specs.FieldLines.{field_line}
use Rattle.px_head.specs.Prints.{crlf, field_lines}

-- one more field
pub lines-next : (fields : List Field) (i : ℕ) (f : Field) → i < length fields → f ≡ get_or fields i f
    → length (field_lines (take (i + 1) fields)) ≡ length (field_lines (take i fields)) + (length f.name + 2 + length f.value + 2)
unfolding field_lines
lines-next fields i f within is =
    let count : i + 1 ≡ suc i = omega arith in
    let next : take (i + 1) fields ≡ take i fields ++ f ∷ [] =
    ap (λ n. take n fields) count ∙ take-suc fields i f within ∙ ap (λ (g : Field). take i fields ++ g ∷ []) (sym is) in
    let all : field_lines (take (i + 1) fields) ≡ field_lines (take i fields) ++ ((field_line f ++ crlf) ++ []) =
    ap field_lines next ∙ flat_map-append (λ (g : Field). field_line g ++ crlf) (take i fields) (f ∷ []) in
    let last : length ((field_line f ++ crlf) ++ []) ≡ length f.name + 2 + length f.value + 2 = grind (arith, length-append) in
    let sum = length-append (field_lines (take i fields)) ((field_line f ++ crlf) ++ []) in
    ap (λ (w : List ℕ). length w) all ∙ sum ∙ ap (λ n. length (field_lines (take i fields)) + n) last
