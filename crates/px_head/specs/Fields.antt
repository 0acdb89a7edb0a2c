-- The fields of a head.
use Rattle.std.specs.Prelude.{ℕ, List}
use Rattle.httparse.specs.Grammar as grammar
use Rattle.httparse.specs.Spans.{span_bytes}
use Rattle.httparse.specs.declared.spans.HeaderSpan.{HeaderSpan}
use Rattle.px_fields.specs.declared.fields.Field.{Field}

-- a field line of the grammar as a field: its name, and its value without the white space around it
abbrev pub field_of : grammar.Field → Field
field_of f = record { name = f.name; value = grammar.field_value f }

-- the field that a header's spans cover
abbrev pub field_at : List ℕ → HeaderSpan → Field
field_at block h = record { name = span_bytes block h.name; value = span_bytes block h.value }
