-- What the lines of a filter file stand for.
use Rattle.std.specs.Prelude.{ℕ, Bool, false, not, ◌==◌, List, [], ◌∷◌, ◌++◌, length, filter_map, flat_map, find, Option, Some, None, option_map, option_to_list, is_some, unwrap_or, Result, Ok, Err, if◌then◌else◌}
use Rattle.std.specs.List.{list_any}
use Rattle.std.specs.Option.{option_and_then, option_map_or}
use Rattle.std.specs.Result.{result_ok}
use Rattle.std.specs.Str.{is_utf8}
use Rattle.px_text.specs.declared.lines.Line.{Line}
use Rattle.px_subst.specs.Jobs.{JobParts, job_of}
use Rattle.px_filter_files.specs.declared.faults.FilterFault.{FilterFault}
use Rattle.px_filter_files.specs.declared.faults.FilterFault.TheVariants.{At}
use Rattle.px_filter_files.specs.declared.files.NamedFilter.{NamedFilter}
use Rattle.px_filter_files.specs.declared.files.FilterFile.{FilterFile}
use Rattle.px_filter_files.specs.Headings.{HeadingParts, Key, heading_at, key_at, key_in, same_key, is_job_line}

-- the lines up to the next one that begins a part
abbrev pub own_lines : List Line → List Line
own_lines [] = []
own_lines (line ∷ rest) = if is_job_line line then line ∷ own_lines rest else []

-- the job of a line, where its text is UTF-8 and is read as one
abbrev pub job_in_text : List ℕ → Option JobParts
job_in_text text = if is_utf8 text then result_ok (job_of text) else None

-- the jobs of lines; a line that is read as none is left out
abbrev pub jobs_in : List Line → List JobParts
jobs_in lines = filter_map (λ line. job_in_text line.text) lines

-- the numbers of the lines that are left out
abbrev pub skipped_in : List Line → List ℕ
skipped_in lines = filter_map (λ line. if is_some (job_in_text line.text) then None else Some line.number) lines

-- the filter that a line with this heading begins, with the jobs of the lines below
abbrev pub filter_of : Option HeadingParts → ℕ → List Line → Option NamedFilter
filter_of heading number below =
    option_map (λ key. record { kind = key.kind; name = key.name; line = number; filter = jobs_in (own_lines below) })
    (option_and_then key_in heading)

abbrev pub filter_at : Line → List Line → Option NamedFilter
filter_at line below = filter_of (heading_at line.text) line.number below

-- the filters that lines begin, in order
unfoldable pub filters_in : List Line → List NamedFilter
filters_in [] = []
filters_in (line ∷ rest) = option_to_list (filter_at line rest) ++ filters_in rest

-- the numbers of the lines of filters that are no job, in order
unfoldable pub all_skipped : List Line → List ℕ
all_skipped [] = []
all_skipped (line ∷ rest) = (if is_some (key_at line.text) then skipped_in (own_lines rest) else []) ++ all_skipped rest

-- the keys of the filters that lines begin
abbrev pub keys_in : List Line → List Key
keys_in lines = filter_map (λ line. key_at line.text) lines

-- the key is among those of the filters that lines begin
abbrev pub is_among_keys : List Line → Key → Bool
is_among_keys lines key = list_any (same_key key) (keys_in lines)

-- what is refused at a heading: a missing name, or a filter's key that is taken
abbrev pub heading_refusal : (Key → Bool) → HeadingParts → Option ℕ
heading_refusal taken heading =
    if length heading.name == 0 then Some 26
    else if option_map_or taken (key_in heading) false then Some 27
    else None

-- what is refused at a line, by its heading, by which keys are taken and whether any part begins before it
abbrev pub refusal_by : (Key → Bool) → Bool → Option HeadingParts → Option ℕ
refusal_by taken begun heading = option_map_or (heading_refusal taken) heading (if begun then None else Some 25)

-- a part begins among the lines
abbrev pub begins_part : List Line → Bool
begins_part lines = list_any (λ line. not (is_job_line line)) lines

-- what is refused at a line: a job below no part, or a heading
abbrev pub refusal_at : List Line → Line → Option ℕ
refusal_at before line = refusal_by (is_among_keys before) (begins_part before) (heading_at line.text)

-- the first refusal among lines that follow others
unfoldable pub first_filter_fault : List Line → List Line → Option FilterFault
first_filter_fault before [] = None
first_filter_fault before (line ∷ rest) =
    option_map_or (λ number. Some (At line.number number)) (refusal_at before line) (first_filter_fault (before ++ line ∷ []) rest)

-- the filters and the skipped lines, or the first refusal
unfoldable pub file_of : List Line → Result FilterFile FilterFault
file_of lines = option_map_or Err (first_filter_fault [] lines) (Ok (record { filters = filters_in lines; skipped = all_skipped lines }))

abbrev pub key_of : NamedFilter → Key
key_of f = record { kind = f.kind; name = f.name }

-- the filter has this kind and name
abbrev pub has_key : Key → NamedFilter → Bool
has_key key f = same_key key (key_of f)

-- the filters of files in order
abbrev pub filters_of_all : List FilterFile → List NamedFilter
filters_of_all files = flat_map (λ file. file.filters) files

-- how many files there are, and their filters in order
pub record FiltersOfFiles : Type 0 where
  pub files : ℕ
  pub filters : List NamedFilter

-- the first filter of a kind and a name
unfoldable pub found : FiltersOfFiles → Key → Option (List JobParts)
found all key = option_map (λ f. f.filter) (find (has_key key) all.filters)

-- the jobs of the first filter of a kind and a name, or none
abbrev pub jobs_of : FiltersOfFiles → Key → List JobParts
jobs_of all key = unwrap_or (found all key) []
