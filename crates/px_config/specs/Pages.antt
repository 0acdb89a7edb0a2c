-- What the templates and the images of a set give, or the first fault.
use Rattle.std.specs.Prelude.{ℕ, Bool, true, false, List, [], ◌∷◌, ◌++◌, filter_map, Option, Some, None, option_map, Result, Ok, codes, if◌then◌else◌}
use Rattle.px_base.specs.declared.files.Content.{Content}
use Rattle.px_base.specs.declared.files.Content.TheVariants as content
use Rattle.px_action_files.specs.Faults.{Refused, and_then, refused}
use Rattle.px_action_files.specs.declared.faults.FileFault.{FileFault}
use Rattle.px_action_files.specs.declared.faults.FileFault.TheVariants as at
use Rattle.px_templates.specs.Lines.{assembled, included_names}
use Rattle.px_templates.specs.Pages.{built_in, page_name}
use Rattle.px_templates.specs.Pieces.{Piece, open_line, pieces_of}
use Rattle.px_templates.specs.declared.pages.Page.{Page}
use Rattle.px_templates.specs.declared.faults.TemplateFault.{TemplateFault}
use Rattle.px_templates.specs.declared.faults.TemplateFault.TheVariants as template
use Rattle.px_config.specs.Faults.{Fault, at_file, fault_at}
use Rattle.px_config.specs.Names.{full_name}
use Rattle.px_config.specs.Sets.{Item, content_in, may_include}

-- ---- sizes

abbrev pub is_over : Content → Bool
is_over content.Missing = false
is_over content.Over = true
is_over (content.Found bytes) = false

-- each file of these names in a folder is within the limit, or the first that isn't is refused
unfoldable pub all_fit : List Item → List ℕ → List (List ℕ) → Result (Unit {0}) Fault
all_fit items folder [] = Ok tt
all_fit items folder (name ∷ names) =
    if is_over (content_in items (full_name (Some folder) name)) then fault_at name 0 31 else all_fit items folder names

-- ---- texts

abbrev pub found_text : Content → Option (List ℕ)
found_text content.Missing = None
found_text content.Over = None
found_text (content.Found bytes) = Some bytes

-- the text that a set has of a name in a folder
abbrev pub text_in : List Item → List ℕ → List ℕ → Option (List ℕ)
text_in items folder name = found_text (content_in items (full_name (Some folder) name))

abbrev pub text_or : List ℕ → Option (List ℕ) → List ℕ
text_or built None = built
text_or built (Some bytes) = bytes

-- the text of a page's template: of its file, or the built-in one where that is missing
abbrev pub template_text : List Item → List ℕ → Page → List ℕ
template_text items folder page = text_or (built_in page) (text_in items folder (page_name page))

-- the text that a name includes, with the name; one that isn't UTF-8 or has a slash is missing
abbrev pub include_of : List Item → List ℕ → List ℕ → Option (List ℕ × List ℕ)
include_of items folder name = if may_include name then option_map (λ bytes. (name, bytes)) (text_in items folder name) else None

-- the texts that a template includes, by their names
unfoldable pub includes_of : List Item → List ℕ → List (List ℕ) → List (List ℕ × List ℕ)
includes_of items folder names = filter_map (include_of items folder) names

-- ---- templates

abbrev pub pieces_or : Option ℕ → List Piece → Result (List Piece) Refused
pieces_or None pieces = Ok pieces
pieces_or (Some line) pieces = refused line 28

-- the template of a text with what it includes, or the refusal of a block that isn't ended
abbrev pub template_with : List (List ℕ × List ℕ) → List ℕ → Result (List Piece) Refused
template_with includes bytes = pieces_or (open_line (assembled includes bytes)) (pieces_of (assembled includes bytes))

unfoldable pub template_of : List Item → List ℕ → List ℕ → Result (List Piece) Refused
template_of items folder bytes = template_with (includes_of items folder (included_names bytes)) bytes

abbrev pub page_of : List Item → List ℕ → Page → Result (List Piece) Fault
page_of items folder page = at_file (page_name page) (template_of items folder (template_text items folder page))

-- the templates of pages behind others, or the first fault
unfoldable pub pages_of : List Item → List ℕ → List (List Piece) → List Page → Result (List (List Piece)) Fault
pages_of items folder given [] = Ok given
pages_of items folder given (page ∷ pages) = and_then (page_of items folder page) (λ pieces. pages_of items folder (given ++ pieces ∷ []) pages)

-- the refusal of a template as it is reported
abbrev pub seen_template_fault : TemplateFault → FileFault
seen_template_fault (template.OpenCondition line) = at.At line 28
seen_template_fault template.Mem = at.Mem
