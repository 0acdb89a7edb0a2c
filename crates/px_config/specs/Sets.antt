-- Sets of files, and what of them is read.
use Rattle.std.specs.Prelude.{ℕ, ◌==◌, ◌&&◌, Bool, not, List, [], ◌∷◌, filter, flat_map, Some, All, if◌then◌else◌}
use Rattle.std.specs.List.{list_any}
use Rattle.std.specs.Str.{bytes_eq, is_utf8}
use Rattle.px_base.specs.declared.files.Content.{Content}
use Rattle.px_base.specs.declared.files.Content.TheVariants as content
use Rattle.px_base.specs.Contents.{FitsLimit}
use Rattle.px_templates.specs.Lines.{included_names}
use Rattle.px_config.specs.declared.names.TheConstants.{SLASH}
use Rattle.px_config.specs.declared.sets.TheConstants.{FILE_LIMIT}
use Rattle.px_config.specs.Names.{full_name, page_names}

-- a name, and what reading the file gave
abbrev pub Item : Type 0
Item = List ℕ × Content

-- what a set has of a name: the first item of the name counts, and a name without one is missing
abbrev pub content_in : List Item → List ℕ → Content
content_in [] name = content.Missing
content_in (item ∷ items) name = if bytes_eq item.0 name then item.1 else content_in items name

abbrev pub is_in : List Item → List ℕ → Bool
is_in items name = list_any (λ item. bytes_eq item.0 name) items

-- what is found is within a limit
abbrev pub FitsWithin : ℕ → Item → Type 0
FitsWithin limit item = FitsLimit limit item.1

-- what is found is within the limit of the files that are no lists of hosts
abbrev pub FitsItem : Item → Type 0
FitsItem = FitsWithin FILE_LIMIT

-- a text may be included by a name without a slash
abbrev pub may_include : List ℕ → Bool
may_include name = is_utf8 name && not (list_any (λ b. b == SLASH) name)

-- the names of the texts that a template includes, in order
unfoldable pub names_included : Content → List (List ℕ)
names_included content.Missing = []
names_included content.Over = []
names_included (content.Found text) = filter may_include (included_names text)

abbrev pub included_on : List Item → List ℕ → List ℕ → List (List ℕ)
included_on items folder page = names_included (content_in items (full_name (Some folder) page))

-- the names of the texts that the templates in a folder include, in the order of the pages
unfoldable pub included_by : List Item → List ℕ → List (List ℕ) → List (List ℕ)
included_by items folder pages = flat_map (included_on items folder) pages

abbrev pub all_included : List Item → List ℕ → List (List ℕ)
all_included items folder = included_by items folder page_names
