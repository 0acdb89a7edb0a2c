-- Which host a word alone stands for: `||h^`, `*.h`, `.h` or `h`.
use Rattle.std.specs.Prelude.{codes, ℕ, ◌+◌, ◌==◌, ◌||◌, Bool, true, false, if◌then◌else◌, List, length, take, drop, slice_index, nat_eq, Option, Some, None, position}
use Rattle.std.specs.List.{list_all, slice_split, starts_with}
use Rattle.std.specs.Str.{str_eq_ignore_ascii_case}
use Rattle.px_host_lists.specs.Names.{host_named}
use Rattle.px_host_lists.specs.declared.TheConstants.{CARET, COMMA, DOLLAR}

-- the options that leave a rule for the whole of a host
abbrev pub is_whole_option : List ℕ → Bool
is_whole_option option =
    (((str_eq_ignore_ascii_case option (codes "important") || str_eq_ignore_ascii_case option (codes "all")) || str_eq_ignore_ascii_case option (codes "doc")) || str_eq_ignore_ascii_case option (codes "document")) || str_eq_ignore_ascii_case option (codes "popup")

-- nothing, or `$` and such options between commas
abbrev pub leaves_whole : List ℕ → Bool
leaves_whole options =
    if length options == 0 then true
    else if slice_index options 0 == DOLLAR then list_all is_whole_option (slice_split (λ b. b == COMMA) (drop 1 options))
    else false

abbrev pub named_where : Bool → List ℕ → Option (List ℕ)
named_where asked name = if asked then host_named name else None

-- the rule at its first `^`
abbrev pub anchored_at : List ℕ → Option ℕ → Option (List ℕ)
anchored_at rule None = None
anchored_at rule (Some at) = named_where (leaves_whole (drop (at + 1) rule)) (take at rule)

-- a name before `^`, and options behind it
unfoldable pub anchored_host : List ℕ → Option (List ℕ)
anchored_host rule = anchored_at rule (position (λ b. b == CARET) rule)

unfoldable pub rule_host : List ℕ → Option (List ℕ)
rule_host word =
    if starts_with nat_eq word (codes "||") then anchored_host (drop 2 word)
    else if starts_with nat_eq word (codes "*.") then host_named (drop 2 word)
    else if starts_with nat_eq word (codes ".") then host_named (drop 1 word)
    else host_named word
