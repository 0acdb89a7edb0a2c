-- The lines of a head.
use Rattle.std.proofs.Common.{◌≡◌, ℕ, List, [], ◌∷◌, ◌++◌, codes, ap, ◌∙◌, append_assoc, refl}
use Rattle.std.proofs.lemmas.List.{append-nil}
use Rattle.std.proofs.lemmas.Grind.{flat_map-append}
use Rattle.px_fields.specs.declared.fields.Field.{Field}
use Rattle.px_fields.specs.FieldLines.{field_line}
use Rattle.px_head.specs.Prints.{crlf, field_lines, printed_head}
use Rattle.px_sending.specs.Heads.{Next, framing_fields, field_line_of, next_fields, next_head, next_line, plain_field}

-- the line of one field
pub line_alone : (name value : List ℕ) → field_lines (plain_field name value ∷ []) ≡ field_line_of name value
unfolding field_lines
line_alone name value = append-nil (field_line_of name value)

lines_join : (fs gs : List Field) → field_lines (fs ++ gs) ≡ field_lines fs ++ field_lines gs
unfolding field_lines
lines_join fs gs = flat_map-append (λ (f : Field). field_line f ++ crlf) fs gs

lines_more : (name value : List ℕ) (fs : List Field) → field_lines (plain_field name value ∷ fs) ≡ field_line_of name value ++ field_lines fs
unfolding field_lines
lines_more name value fs = refl

-- the whole head, line by line
pub head_is : (n : Next) → (((([] ++ (next_line n ++ crlf)) ++ field_line_of (codes "Host") n.host) ++ field_lines n.fields) ++ field_lines (framing_fields n.rule)) ++ (field_line_of (codes "Connection") (codes "close") ++ crlf) ≡ next_head n
unfolding next_head printed_head
head_is n =
    let close : List Field = plain_field (codes "Connection") (codes "close") ∷ [] in
    let lines : field_lines (next_fields n) ≡ field_line_of (codes "Host") n.host ++ (field_lines n.fields ++ (field_lines (framing_fields n.rule) ++ field_line_of (codes "Connection") (codes "close"))) =
    lines_more (codes "Host") n.host (n.fields ++ (framing_fields n.rule ++ close))
    ∙ ap (λ (zs : List ℕ). field_line_of (codes "Host") n.host ++ zs)
    (lines_join n.fields (framing_fields n.rule ++ close) ∙ ap (λ (zs : List ℕ). field_lines n.fields ++ zs)
    (lines_join (framing_fields n.rule) close ∙ ap (λ (zs : List ℕ). field_lines (framing_fields n.rule) ++ zs) (line_alone (codes "Connection") (codes "close")))) in
    by (next_line n) (field_line_of (codes "Host") n.host) (field_lines n.fields) (field_lines (framing_fields n.rule)) (field_line_of (codes "Connection") (codes "close")) (field_lines (next_fields n)) lines
  where
    by : (a h f r c all : List ℕ) → all ≡ h ++ (f ++ (r ++ c)) → (((([] ++ (a ++ crlf)) ++ h) ++ f) ++ r) ++ (c ++ crlf) ≡ a ++ crlf ++ all ++ crlf
    by a h f r c all e = rw e (simp append_assoc)
