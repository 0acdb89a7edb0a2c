-- Where a request is redirected to (Privoxy's manual, "Actions", redirect and fast-redirects).
use Rattle.std.specs.Prelude.{ℕ, ◌&&◌, ◌||◌, ◌==◌, Bool, not, nat_eq, nat_lt, List, [], ◌∷◌, length, slice_index, flat_map, Option, Some, None, option_and_then, codes, Result, Ok, Err, if◌then◌else◌}
use Rattle.std.specs.Char.{is_ascii_alphanumeric}
use Rattle.std.specs.List.{starts_with}
use Rattle.std.specs.Option.{option_or}
use Rattle.std.specs.Str.{byte, bytes_eq}
use Rattle.percent_encoding.specs.Percent.{percent_decode, percent_encode_byte}
use Rattle.px_patterns.specs.declared.urls.Url.{Url}
use Rattle.px_patterns.specs.Urls.{shown_url}
use Rattle.px_actions.specs.Sets.{value}
use Rattle.px_actions.specs.declared.kinds.Kind.TheVariants.{FastRedirects, Redirect}
use Rattle.px_actions.specs.declared.settings.Setting.{Setting}
use Rattle.px_subst.specs.declared.faults.JobFault.{JobFault}
use Rattle.px_subst.specs.declared.words.Vars.{Vars}
use Rattle.px_subst.specs.Jobs.{JobParts, job_of, run_job}

-- ---- how a target is written

-- a byte that a target doesn't hold as it is: a control byte, a space, or one from 127 on
abbrev pub is_escaped : ℕ → Bool
is_escaped b = nat_lt b 33 || nat_lt 126 b

-- the byte, or `%` and its two hexadecimal digits in upper case
abbrev pub target_byte : ℕ → List ℕ
target_byte b = if is_escaped b then percent_encode_byte b else b ∷ []

-- a target as it is written
unfoldable pub target_text : List ℕ → List ℕ
target_text target = flat_map target_byte target

-- no redirect goes nowhere or to the URL itself
abbrev pub leading_away : List ℕ → List ℕ → Option (List ℕ)
leading_away printed target = if length target == 0 || bytes_eq target printed then None else Some target

-- ---- redirect

-- a value is a job where it is `s` and a byte that isn't a letter or a digit
abbrev pub is_job_value : List ℕ → Bool
is_job_value value = (slice_index value 0 == byte "s" && nat_lt 1 (length value)) && not (is_ascii_alphanumeric (slice_index value 1))

-- what a job makes of the printed URL; one that isn't read, or that hits nothing, gives nothing
abbrev pub job_target : Vars → List ℕ → Result JobParts JobFault → Option (List ℕ)
job_target vars printed (Ok job) = if (run_job job vars printed).hits == 0 then None else Some (run_job job vars printed).text
job_target vars printed (Err fault) = None

-- a value that isn't a job is the target itself
unfoldable pub value_target : Vars → List ℕ → List ℕ → Option (List ℕ)
value_target vars printed value = if is_job_value value then job_target vars printed (job_of value) else Some value

-- ---- fast-redirects

-- a text begins with `http://` or `https://` and at least one byte behind it
unfoldable pub begins_url : List ℕ → Bool
begins_url text = (starts_with nat_eq text (codes "http://") && nat_lt 7 (length text)) || (starts_with nat_eq text (codes "https://") && nat_lt 8 (length text))

-- what begins so at the last place at which a text does
unfoldable pub last_url : List ℕ → Option (List ℕ)
last_url [] = None
last_url (b ∷ bs) = option_or (last_url bs) (if begins_url (b ∷ bs) then Some (b ∷ bs) else None)

-- the path, decoded where the value asks for that
abbrev pub searched_path : List ℕ → List ℕ → List ℕ
searched_path mode path = if bytes_eq mode (codes "check-decoded-url") then percent_decode path else path

-- ---- both

abbrev pub redirect_target : List ℕ → List Setting → Vars → Option (List ℕ)
redirect_target printed set vars = option_and_then (λ v. option_and_then (leading_away printed) (value_target vars printed v)) (value set Redirect)

abbrev pub fast_target : List ℕ → List ℕ → List Setting → Option (List ℕ)
fast_target printed path set = option_and_then (λ mode. option_and_then (leading_away printed) (last_url (searched_path mode path))) (value set FastRedirects)

-- the target of `redirect`, or else of `fast-redirects`, if there is one
unfoldable pub target_of_redirects : Url → List Setting → Vars → Option (List ℕ)
target_of_redirects url set vars = option_or (redirect_target (shown_url url) set vars) (fast_target (shown_url url) url.path set)
