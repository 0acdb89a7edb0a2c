-- The pieces of a template as they are kept: bytes that follow each other stand together.
use Rattle.std.specs.Prelude.{List, [], ◌∷◌, flat_map, Option}
use Rattle.px_templates.specs.declared.conditions.Condition.{Condition}
use Rattle.px_templates.specs.declared.runs.RunContent.{RunContent}
use Rattle.px_templates.specs.declared.runs.RunContent.TheVariants as content
use Rattle.px_templates.specs.declared.runs.TemplateRun.{TemplateRun}
use Rattle.px_templates.specs.Pieces.{PiecePart, Piece, part_in, plain}

abbrev pub content_pieces : Option Condition → RunContent → List Piece
content_pieces c (content.Bytes bytes) = plain c bytes
content_pieces c (content.Value s) = part_in c (PiecePart.value s) ∷ []

abbrev pub run_pieces : TemplateRun → List Piece
run_pieces r = content_pieces r.condition r.content

-- the pieces that runs hold
unfoldable pub held_pieces : List TemplateRun → List Piece
held_pieces runs = flat_map run_pieces runs
