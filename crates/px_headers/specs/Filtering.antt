-- Header filters (Privoxy's manual, "Filter Files").
use Rattle.std.specs.Prelude.{ℕ, Bool, List, filter_map, fold, Option, Some, None, is_some, if◌then◌else◌}
use Rattle.std.specs.List.{list_any}
use Rattle.std.specs.Str.{bytes_eq}
use Rattle.px_fields.specs.declared.fields.Field.{Field}
use Rattle.px_fields.specs.FieldLines.{read_field, field_line}
use Rattle.px_actions.specs.Sets.{set_values}
use Rattle.px_actions.specs.declared.kinds.Kind.TheVariants.{ClientHeaderFilter, ServerHeaderFilter}
use Rattle.px_actions.specs.declared.settings.Setting.{Setting}
use Rattle.px_subst.specs.Jobs.{run_filter}
use Rattle.px_subst.specs.declared.words.Vars.{Vars}
use Rattle.px_filter_files.specs.FilterFiles.{FiltersOfFiles, found, jobs_of}
use Rattle.px_filter_files.specs.declared.kinds.FilterKind.{FilterKind}
use Rattle.px_filter_files.specs.declared.kinds.FilterKind.TheVariants.{ClientHeader, ServerHeader}
use Rattle.px_headers.specs.declared.held_back.MessageKind.{MessageKind}
use Rattle.px_headers.specs.declared.held_back.MessageKind.TheVariants.{Request, Response}
use Rattle.px_headers.specs.HeldBack.{is_held_back}
use Rattle.px_headers.specs.Rows.{without_those}

-- the kind of a message's header filters
abbrev pub filter_kind : MessageKind → FilterKind
filter_kind Request = ClientHeader
filter_kind Response = ServerHeader

-- the names of those that are in force, in list order
abbrev pub header_filter_names : MessageKind → List Setting → List (List ℕ)
header_filter_names Request set = set_values set ClientHeaderFilter
header_filter_names Response set = set_values set ServerHeaderFilter

-- what the filter of that name makes of a text
abbrev pub run_header_filter : FiltersOfFiles → FilterKind → Vars → List ℕ → List ℕ → List ℕ
run_header_filter all kind vars text name = (run_filter (jobs_of all (record { kind = kind; name = name })) vars text).text

-- what the filters of those names make of a text, each of the text of the one before
unfoldable pub run_all : FiltersOfFiles → FilterKind → Vars → List (List ℕ) → List ℕ → List ℕ
run_all all kind vars names text = fold (run_header_filter all kind vars) text names

-- there is a filter of one of those names
unfoldable pub some_found : FiltersOfFiles → FilterKind → List (List ℕ) → Bool
some_found all kind names = list_any (λ name. is_some (found all (record { kind = kind; name = name }))) names

-- what a field becomes whose line became that text: the text is read again where it was changed
abbrev pub read_again : Field → List ℕ → Option Field
read_again f text = if bytes_eq text (field_line f) then Some f else read_field text

-- what filters make of a field by their run over its line
abbrev pub made_field : (List ℕ → List ℕ) → Field → Option Field
made_field run f = read_again f (run (field_line f))

-- what they make of fields, one by one
abbrev pub made_fields : (List ℕ → List ℕ) → List Field → List Field
made_fields run fields = filter_map (made_field run) fields

-- the fields' lines through the filters, where there is one of them; a field whose name is held back isn't passed on
abbrev pub filtered_fields : (List ℕ → Bool) → (List ℕ → List ℕ) → List Field → List Field
filtered_fields held run fields = without_those (λ f. held f.name) (made_fields run fields)

unfoldable pub filter_lines : MessageKind → List Field → List Setting → FiltersOfFiles → Vars → List Field → List Field
filter_lines message received set all vars fields =
    if some_found all (filter_kind message) (header_filter_names message set)
    then filtered_fields (is_held_back message received) (run_all all (filter_kind message) vars (header_filter_names message set)) fields
    else fields

-- a first line through the filters, where there is one of them
unfoldable pub filter_line : MessageKind → List Setting → FiltersOfFiles → Vars → List ℕ → Option (List ℕ)
filter_line message set all vars line =
    if some_found all (filter_kind message) (header_filter_names message set)
    then Some (run_all all (filter_kind message) vars (header_filter_names message set) line)
    else None
