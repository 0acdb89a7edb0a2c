-- A head that is printed part by part.
use Rattle.std.specs.Prelude.{ℕ, List, ◌++◌}
use Rattle.px_head.specs.Prints.{crlf, field_lines}
use Rattle.px_answers.specs.declared.forms.Framed.{Framed}

-- the status line and the fields behind the header actions
unfoldable pub head_front : Framed → List ℕ
head_front f = f.first_line ++ crlf ++ field_lines f.fields
