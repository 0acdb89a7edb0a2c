-- A head that is printed part by part.
use Rattle.std.proofs.Common.{◌≡◌, ℕ, ◌-◌, List, [], ◌∷◌, ◌++◌, length, take, sym, ap, ◌∙◌, arith, append_assoc, length-append, Bool}
use Rattle.std.proofs.lemmas.Grind.{flat_map-append}
use Rattle.std.proofs.lemmas.List.{append-nil}
use Rattle.std.proofs.Math.Seq.{take-append_seam}
use Rattle.px_fields.specs.declared.fields.Field.{Field}
use Rattle.px_fields.specs.FieldLines.{field_line}
use Rattle.px_head.specs.Prints.{crlf, field_lines, printed_head}
use Rattle.px_answers.specs.declared.forms.Framed.{Framed}
use Rattle.px_answers.specs.Forms.{connection_field, head_with}
use Rattle.px_answers.specs.Heads.{head_front}

lines_append : (xs ys : List Field) → field_lines (xs ++ ys) ≡ field_lines xs ++ field_lines ys
unfolding field_lines
lines_append xs ys = flat_map-append (λ (g : Field). field_line g ++ crlf) xs ys

lines_one : (f : Field) → field_lines (f ∷ []) ≡ field_line f ++ crlf
unfolding field_lines
lines_one f = append-nil (field_line f ++ crlf)

-- a head without its end
pub front_is : (old : List ℕ) (f : Framed) (out : List ℕ) → out ≡ old ++ printed_head f.first_line f.fields → take (length out - 2) out ≡ old ++ head_front f
unfolding printed_head head_front
front_is old f out e =
    let front = f.first_line ++ crlf ++ field_lines f.fields in
    let parts : out ≡ (old ++ front) ++ crlf = e ∙ sym (append_assoc old front crlf) in
    let len : length out - 2 ≡ length (old ++ front) = rw parts (omega (arith, length-append (old ++ front) crlf)) in
    ap (λ (n : ℕ). take n out) len ∙ ap (take (length (old ++ front))) parts ∙ take-append_seam (old ++ front) crlf

-- parts put out one behind the other
parts : (old a b l x e : List ℕ) → ((((old ++ (a ++ b)) ++ l) ++ x) ++ e) ++ e ≡ old ++ ((a ++ ((b ++ l) ++ (x ++ e))) ++ e)
parts old a b l x e =
    let y : (old ++ (a ++ b)) ++ l ≡ old ++ (a ++ (b ++ l)) = append_assoc old (a ++ b) l ∙ ap (λ (w : List ℕ). old ++ w) (append_assoc a b l) in
    let z : (old ++ (a ++ (b ++ l))) ++ (x ++ e) ≡ old ++ (a ++ ((b ++ l) ++ (x ++ e))) =
    append_assoc old (a ++ (b ++ l)) (x ++ e) ∙ ap (λ (w : List ℕ). old ++ w) (append_assoc a (b ++ l) (x ++ e)) in
    ap (λ (w : List ℕ). w ++ e) (append_assoc ((old ++ (a ++ b)) ++ l) x e ∙ ap (λ (w : List ℕ). w ++ (x ++ e)) y ∙ z)
    ∙ append_assoc old (a ++ ((b ++ l) ++ (x ++ e))) e

-- a head whose framing and Connection were put out behind its front
pub head_is : (old front_out lines_out : List ℕ) (f : Framed) (framing : List Field) (keep : Bool) → front_out ≡ old ++ head_front f → lines_out ≡ front_out ++ field_lines framing
    → lines_out ++ field_line (connection_field keep) ++ crlf ++ crlf ≡ old ++ head_with f framing keep
unfolding printed_head head_front head_with
head_is old front_out lines_out f framing keep e d =
    let c = connection_field keep in
    let all : field_lines (f.fields ++ framing ++ c ∷ []) ≡ (field_lines f.fields ++ field_lines framing) ++ (field_line c ++ crlf) =
    lines_append (f.fields ++ framing) (c ∷ []) ∙ ap (λ (w : List ℕ). w ++ field_lines (c ∷ [])) (lines_append f.fields framing)
    ∙ ap (λ (w : List ℕ). (field_lines f.fields ++ field_lines framing) ++ w) (lines_one c) in
    ap (λ (w : List ℕ). ((w ++ field_line c) ++ crlf) ++ crlf) (d ∙ ap (λ (w : List ℕ). w ++ field_lines framing) e)
    ∙ parts old (f.first_line ++ crlf) (field_lines f.fields) (field_lines framing) (field_line c) crlf
    ∙ ap (λ (w : List ℕ). old ++ (((f.first_line ++ crlf) ++ w) ++ crlf)) (sym all)

-- and where one field frames the body
pub head_one : (old front_out lines_out : List ℕ) (f : Framed) (g : Field) (keep : Bool) → front_out ≡ old ++ head_front f → lines_out ≡ front_out ++ field_line g ++ crlf
    → lines_out ++ field_line (connection_field keep) ++ crlf ++ crlf ≡ old ++ head_with f (g ∷ []) keep
head_one old front_out lines_out f g keep e d =
    head_is old front_out lines_out f (g ∷ []) keep e (d ∙ append_assoc front_out (field_line g) crlf ∙ ap (λ (w : List ℕ). front_out ++ w) (sym (lines_one g)))
