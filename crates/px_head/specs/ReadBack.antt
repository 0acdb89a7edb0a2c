-- Fields whose lines read back as they are (RFC 9112, section 5).
use Rattle.std.specs.Prelude.{◌≡◌, Some}
use Rattle.px_fields.specs.FieldLines.{read_field, field_line}
use Rattle.px_fields.specs.declared.fields.Field.{Field}

-- the line that the field prints reads as the field itself
abbrev pub ReadsBack : Field → Type 0
ReadsBack f = read_field (field_line f) ≡ Some f
