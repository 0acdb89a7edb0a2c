-- The words of the lines of a list.
use Rattle.std.specs.Prelude.{ℕ, ◌==◌, ◌||◌, nat_eq, nat_lt, Bool, if◌then◌else◌, List, [], ◌∷◌, length, drop, filter, slice_index}
use Rattle.std.specs.List.{slice_split, starts_with}
use Rattle.px_base.specs.Blanks.{is_blank}
use Rattle.px_host_lists.specs.declared.TheConstants.{BANG, CARRIAGE_RETURN, FRONT_MARK, HASH, LINE_FEED}

-- the bytes without the byte order mark that they may begin with
abbrev pub unmarked : List ℕ → List ℕ
unmarked bytes = if starts_with nat_eq bytes FRONT_MARK then drop (length FRONT_MARK) bytes else bytes

-- the lines of a list's file
abbrev pub list_lines : List ℕ → List (List ℕ)
list_lines bytes = slice_split (λ b. b == LINE_FEED) (unmarked bytes)

-- space and tab, and the carriage return of lines that end with CR LF
abbrev pub is_space : ℕ → Bool
is_space b = is_blank b || b == CARRIAGE_RETURN

-- what stands between white space
unfoldable pub line_words : List ℕ → List (List ℕ)
line_words line = filter (λ word. nat_lt 0 (length word)) (slice_split is_space line)

abbrev pub begins_comment : List ℕ → Bool
begins_comment word = slice_index word 0 == HASH || slice_index word 0 == BANG

-- the words before the first that begins a comment
unfoldable pub before_comment : List (List ℕ) → List (List ℕ)
before_comment [] = []
before_comment (word ∷ words) = if begins_comment word then [] else word ∷ before_comment words

-- the words of a line without its comment
unfoldable pub used_words : List ℕ → List (List ℕ)
used_words line = before_comment (line_words line)
