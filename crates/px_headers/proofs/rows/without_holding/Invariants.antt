use Rattle.std.proofs.Common.{◌≡◌, ◌++◌, length}
use Rattle.std.specs.Vec.Iter.{into_iter_items}
use Rattle.px_fields.specs.FieldLines.{field_line}
use Rattle.px_headers.specs.Rows.{holds_word, without_those}
use Rattle.px_headers.proofs.rows.without_holding.Given as goal

abbrev pub invariant-fields : goal.invariant-fields
invariant-fields l = l.kept ++ without_those (λ f. holds_word l.fn.word (field_line f)) (into_iter_items l.rest) ≡ without_those (λ f. holds_word l.fn.word (field_line f)) l.fn.fields

abbrev pub decreases-fields : goal.decreases-fields
decreases-fields l = length (into_iter_items l.rest)
