-- The lines of the main file: a directive's name, white space, and a value (Privoxy's manual, "The Main Configuration File").
use Rattle.std.specs.Prelude.{ℕ, List, [], ◌∷◌, ◌++◌, filter_map, Option, Some, None, option_map, codes, if◌then◌else◌}
use Rattle.std.specs.List.{before_first, after_first}
use Rattle.px_base.specs.Blanks.{is_blank, trimmed}
use Rattle.px_text.specs.declared.lines.Line.{Line}
use Rattle.px_action_files.specs.Files.{is_named}
use Rattle.px_base.specs.Lists.{nonempty}

-- the name of a line's directive goes to the first white space
abbrev pub name_in : List ℕ → List ℕ
name_in text = before_first is_blank text

-- the value is what stands behind it
abbrev pub value_in : List ℕ → List ℕ
value_in text = trimmed (after_first is_blank text)

-- the value that a name and a value give for a directive, if they are of it and there is one
abbrev pub value_given : List ℕ → List ℕ → List ℕ → Option (List ℕ)
value_given word name value = if is_named name word then nonempty value else None

-- the value of a line of this directive, if it has one
abbrev pub value_for : List ℕ → Line → Option (List ℕ)
value_for word line = value_given word (name_in line.text) (value_in line.text)

-- the values of a directive, in the order of its lines
unfoldable pub values_of : List ℕ → List Line → List (List ℕ)
values_of word lines = filter_map (value_for word) lines

-- the name of the file of a list of hosts that a name and a value give: the first word of the value
abbrev pub list_file_given : List ℕ → List ℕ → Option (List ℕ)
list_file_given name value = option_map name_in (value_given (codes "host-list") name value)

abbrev pub list_file_for : Line → Option (List ℕ)
list_file_for line = list_file_given (name_in line.text) (value_in line.text)

-- the names of the files of lists of hosts, in the order of the lines
unfoldable pub list_files_of : List Line → List (List ℕ)
list_files_of lines = filter_map list_file_for lines

-- values with one more behind them, if there is one
abbrev pub with_given_value : List (List ℕ) → Option (List ℕ) → List (List ℕ)
with_given_value values None = values
with_given_value values (Some value) = values ++ value ∷ []

-- the last of some values, or the one before them
abbrev pub last_of : Option (List ℕ) → List (List ℕ) → Option (List ℕ)
last_of before [] = before
last_of before (value ∷ values) = last_of (Some value) values

-- the last value of a directive, if a line has one
abbrev pub last_value : List ℕ → List Line → Option (List ℕ)
last_value word lines = last_of None (values_of word lines)
