-- The lines of a template (Privoxy's manual, "Privoxy's Template Files"): lines that begin with `#` are left out, and one that
-- includes another text stands for that text.
use Rattle.std.specs.Prelude.{ℕ, ◌-◌, Bool, ◌&&◌, ◌==◌, nat_eq, List, [], ◌∷◌, length, take, drop, slice_index, find, filter_map, flat_map, Option, None, option_map, option_and_then, codes, if◌then◌else◌}
use Rattle.std.specs.List.{starts_with, ends_with}
use Rattle.std.specs.Option.{option_map_or}
use Rattle.std.specs.Str.{bytes_eq}
use Rattle.px_base.specs.Blanks.{is_blank, trimmed}
use Rattle.px_base.specs.Lists.{nonempty}

-- a byte in front of the first of lines
abbrev pub in_front_of_lines : ℕ → List (List ℕ) → List (List ℕ)
in_front_of_lines b [] = (b ∷ []) ∷ []
in_front_of_lines b (line ∷ rest) = (b ∷ line) ∷ rest

-- the lines of a text, each with the LF that ends it
unfoldable pub text_lines : List ℕ → List (List ℕ)
text_lines [] = []
text_lines (b ∷ bs) = if b == 10 then (b ∷ []) ∷ text_lines bs else in_front_of_lines b (text_lines bs)

abbrev pub is_comment : List ℕ → Bool
is_comment line = starts_with nat_eq line (codes "#")

-- the bytes without that byte at their end
abbrev pub without_end_byte : ℕ → List ℕ → List ℕ
without_end_byte b bs = if ends_with nat_eq bs (b ∷ []) then take (length bs - 1) bs else bs

-- what stands behind `#include` on a line, without the LF, without white space at both ends, and without a CR at the end
abbrev pub name_behind_include : List ℕ → List ℕ
name_behind_include rest = trimmed (without_end_byte 13 (trimmed (without_end_byte 10 rest)))

-- the name of the text that a line includes, if it includes one: `#include`, white space and the name
unfoldable pub included_name : List ℕ → Option (List ℕ)
included_name line =
    if starts_with nat_eq line (codes "#include") && is_blank (slice_index line 8)
    then nonempty (name_behind_include (drop 8 line)) else None

-- the names of the texts that a text includes, in order
abbrev pub included_names : List ℕ → List (List ℕ)
included_names text = filter_map included_name (text_lines text)

-- the first text of that name
abbrev pub text_named : List (List ℕ × List ℕ) → List ℕ → Option (List ℕ)
text_named includes name = option_map (λ i. i.1) (find (λ i. bytes_eq i.0 name) includes)

-- the lines that don't begin with `#`
unfoldable pub without_comments : List ℕ → List ℕ
without_comments text = flat_map (λ line. if is_comment line then [] else line) (text_lines text)

-- the text that a line includes; a name that is missing gives nothing
abbrev pub included : List (List ℕ × List ℕ) → List ℕ → List ℕ
included includes line = option_map_or without_comments (option_and_then (text_named includes) (included_name line)) []

-- what a line stands for
abbrev pub line_text : List (List ℕ × List ℕ) → List ℕ → List ℕ
line_text includes line = if is_comment line then included includes line else line

-- a template's text without the lines that are left out, and with the texts that it includes
unfoldable pub assembled : List (List ℕ × List ℕ) → List ℕ → List ℕ
assembled includes text = flat_map (line_text includes) (text_lines text)
