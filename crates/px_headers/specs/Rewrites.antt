-- First lines that header filters changed.
use Rattle.std.specs.Prelude.{ℕ, Bool, true, false, ◌&&◌, ◌||◌, ◌==◌, ◌-◌, nat_eq, nat_le, List, [], ◌∷◌, length, take, drop, codes, Option, Some, None, option_and_then, if◌then◌else◌}
use Rattle.std.specs.List.{starts_with, ends_with, list_all}
use Rattle.std.specs.Option.{option_map_or, option_or}
use Rattle.std.specs.Result.{result_ok}
use Rattle.std.specs.Str.{bytes_eq}
use Rattle.px_base.specs.Numbers.{decimal}
use Rattle.px_fields.specs.FieldLines.{is_value_byte}
use Rattle.px_head.specs.Prints.{status_line}
use Rattle.px_head.specs.declared.responses.ResponseHead.{ResponseHead}
use Rattle.px_patterns.specs.declared.urls.Url.{Url}
use Rattle.px_patterns.specs.Urls.{url_of}
use Rattle.px_actions.specs.declared.settings.Setting.{Setting}
use Rattle.px_subst.specs.declared.words.Vars.{Vars}
use Rattle.px_filter_files.specs.FilterFiles.{FiltersOfFiles}
use Rattle.px_headers.specs.declared.held_back.MessageKind.TheVariants.{Request, Response}
use Rattle.px_headers.specs.Filtering.{filter_line}

-- ---- request lines

-- what stands before a space and `HTTP/1.0` or `HTTP/1.1`
unfoldable pub before_version : List ℕ → Option (List ℕ)
before_version rest =
    if ends_with nat_eq rest (codes " HTTP/1.0") || ends_with nat_eq rest (codes " HTTP/1.1") then Some (take (length rest - 9) rest) else None

-- what stands behind a front
unfoldable pub behind_prefix : List ℕ → List ℕ → Option (List ℕ)
behind_prefix front line = if starts_with nat_eq line front then Some (drop (length front) line) else None

-- the target of a request line of that method
unfoldable pub target_in : List ℕ → List ℕ → Option (List ℕ)
target_in method line = option_and_then before_version (option_and_then (λ rest. behind_prefix (codes " ") rest) (behind_prefix method line))

-- where a changed request line leads: to a URL, by the same method
unfoldable pub rewritten : List ℕ → List ℕ → Option Url
rewritten method line = option_and_then (λ target. result_ok (url_of target)) (target_in method line)

-- where a request line leads that was filtered; one that wasn't, or that is unchanged, leads where it led
abbrev pub leads_to : Url → List ℕ → List ℕ → Option (List ℕ) → Option Url
leads_to url method line None = Some url
leads_to url method line (Some new) = if bytes_eq new line then Some url else rewritten method new

-- where a request of that method and request line goes behind the header filters
unfoldable pub destination : List Setting → FiltersOfFiles → Vars → Url → List ℕ → List ℕ → Option Url
destination set all vars url method line = leads_to url method line (filter_line Request set all vars line)

-- ---- status lines

-- nothing, or a space and a reason without CR, LF and NUL
abbrev pub is_reason_part : List ℕ → Bool
is_reason_part [] = true
is_reason_part (b ∷ bs) = b == 32 && list_all is_value_byte bs

-- digits of that status
abbrev pub is_status : ℕ → List ℕ → Bool
is_status status digits = option_map_or (λ n. n == status) (decimal 999 digits) false

-- three digits of that status, and a reason
unfoldable pub is_status_part : ℕ → List ℕ → Bool
is_status_part status rest =
    (nat_le 3 (length rest) && is_status status (take 3 rest)) && is_reason_part (drop 3 rest)

-- what stands behind `HTTP/1.0` or `HTTP/1.1` and a space
unfoldable pub behind_version : List ℕ → Option (List ℕ)
behind_version line = option_or (behind_prefix (codes "HTTP/1.0 ") line) (behind_prefix (codes "HTTP/1.1 ") line)

-- a status line of that status
abbrev pub is_status_line : ℕ → List ℕ → Bool
is_status_line status line = option_map_or (λ rest. is_status_part status rest) (behind_version line) false

-- a status line that was filtered counts where it is a status line of the same status
abbrev pub kept_status_line : ℕ → List ℕ → Option (List ℕ) → List ℕ
kept_status_line status line None = line
kept_status_line status line (Some new) = if is_status_line status new then new else line

-- the status line behind the header filters
unfoldable pub answer_line : List Setting → FiltersOfFiles → Vars → ResponseHead → List ℕ
answer_line set all vars head = kept_status_line head.status (status_line head) (filter_line Response set all vars (status_line head))
