-- Words, and the aliases that stand for words (the manual's chapter on actions files, aliases).
use Rattle.std.specs.Prelude.{ℕ, ◌+◌, ◌==◌, ◌&&◌, ◌||◌, Bool, not, if◌then◌else◌, List, [], ◌∷◌, ◌++◌, length, take, drop, Option, Some, None, Result, Ok, Err, is_some, option_map}
use Rattle.std.specs.List.{find, list_any, position}
use Rattle.std.specs.Str.{byte, str_eq_ignore_ascii_case}
use Rattle.px_base.specs.Blanks.{is_blank, trimmed}
use Rattle.px_text.specs.declared.lines.Line.{Line}
use Rattle.px_actions.specs.Braces.{balances, words}
use Rattle.px_actions.specs.Updates.{word_update}
use Rattle.px_actions.specs.declared.faults.ActionFault.{ActionFault}
use Rattle.px_actions.specs.declared.kinds.Kind.{Kind}
use Rattle.px_actions.specs.declared.changes.Change.{Change}
use Rattle.px_action_files.specs.Faults.{Refused, refused, word_number, at_line, and_then}
use Rattle.px_action_files.specs.Meanings.{AliasSeen}
use Rattle.px_base.specs.Results.{result_map}

-- ---- words

-- the alias of that name, without case
abbrev pub alias_named : List AliasSeen → List ℕ → Option AliasSeen
alias_named known name = find (λ (a : AliasSeen). str_eq_ignore_ascii_case a.name name) known

abbrev pub single_update : Result (Kind × Change) ActionFault → Result (List (Kind × Change)) ActionFault
single_update (Ok u) = Ok (u ∷ [])
single_update (Err f) = Err f

-- the updates of a word that is the name of an alias, or its own update
abbrev pub updates_or : Option AliasSeen → List ℕ → Result (List (Kind × Change)) ActionFault
updates_or (Some a) word = Ok a.updates
updates_or None word = single_update (word_update word)

abbrev pub word_updates : List AliasSeen → List ℕ → Result (List (Kind × Change)) ActionFault
word_updates known word = updates_or (alias_named known word) word

-- the updates of words behind those before them, or the first refusal
unfoldable pub words_updates : List AliasSeen → List (List ℕ) → List (Kind × Change) → Result (List (Kind × Change)) ActionFault
words_updates known [] before = Ok before
words_updates known (word ∷ rest) before = and_then (word_updates known word) (λ us. words_updates known rest (before ++ us))

-- ---- alias lines

abbrev pub is_equals : ℕ → Bool
is_equals b = b == byte "="

abbrev pub is_brace_or_blank : ℕ → Bool
is_brace_or_blank b = is_blank b || (b == byte "{" || b == byte "}")

-- a name isn't empty, and holds no white space and no brace
unfoldable pub is_alias_name : List ℕ → Bool
is_alias_name name = not (length name == 0) && not (list_any is_brace_or_blank name)

abbrev pub named_alias : List ℕ → List (Kind × Change) → AliasSeen
named_alias name updates = record { name = name; updates = updates }

-- the alias of a name and its words, where aliases are known before
abbrev pub alias_by : List AliasSeen → ℕ → List ℕ → List ℕ → Result AliasSeen Refused
alias_by known line name text =
    if not (is_alias_name name) then refused line 44
    else if is_some (alias_named known name) then refused line 20
    else result_map (named_alias name) (at_line line word_number (words_updates known (words text) []))

-- the name up to the first `=`, without the white space at its ends, and the text behind that `=`
unfoldable pub name_and_words : List ℕ → Option (List ℕ × List ℕ)
name_and_words text = option_map (λ at. (trimmed (take at text), drop (at + 1) text)) (position is_equals text)

abbrev pub alias_cut : List AliasSeen → ℕ → Option (List ℕ × List ℕ) → Result AliasSeen Refused
alias_cut known line None = refused line 44
alias_cut known line (Some parts) = alias_by known line parts.0 parts.1

-- the alias of a line
unfoldable pub alias_of : List AliasSeen → Line → Result AliasSeen Refused
alias_of known line =
    if balances line.text then alias_cut known line.number (name_and_words line.text) else refused line.number 16

-- the aliases of lines behind those known, each of which sees those before it, or the first refusal
unfoldable pub aliases_of : List Line → List AliasSeen → Result (List AliasSeen) Refused
aliases_of [] known = Ok known
aliases_of (line ∷ lines) known = and_then (alias_of known line) (λ a. aliases_of lines (known ++ a ∷ []))
