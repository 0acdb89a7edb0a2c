-- The rules of parameters (the manual's chapter on actions files).
use Rattle.std.specs.Prelude.{ℕ, ◌==◌, ◌&&◌, ◌||◌, Bool, true, false, not, nat_eq, nat_lt, nat_le, if◌then◌else◌, List, [], ◌∷◌, length, drop, Option, Some, None, codes, is_some}
use Rattle.std.specs.List.{starts_with, list_all}
use Rattle.std.specs.Str.{bytes_eq, is_utf8}
use Rattle.px_base.specs.Blanks.{is_blank, trim_front}
use Rattle.px_base.specs.Numbers.{decimal}
use Rattle.px_base.specs.Ports.{port_list}
use Rattle.px_fields.specs.FieldLines.{read_field}
use Rattle.px_fields.specs.Names.{is_held_back_of_request}
use Rattle.px_fields.specs.declared.fields.Field.{Field}
use Rattle.px_actions.specs.Hops.{NextHop, next_hop}
use Rattle.px_actions.specs.declared.kinds.Rule.{Rule}
use Rattle.px_actions.specs.declared.kinds.Rule.TheVariants as rule

-- a control byte other than the tab
abbrev pub is_control : ℕ → Bool
is_control b = (nat_lt b 32 && not (b == 9)) || b == 127

-- UTF-8 without control bytes other than the tab
unfoldable pub is_plain_text : List ℕ → Bool
is_plain_text text = is_utf8 text && list_all (λ b. not (is_control b)) text

-- white space and a next hop
abbrev pub hop_behind : List ℕ → Option NextHop
hop_behind [] = None
hop_behind (b ∷ rest) = if is_blank b then next_hop (trim_front rest) else None

-- the next hop of `forward`, white space and a next hop
unfoldable pub override_hop : List ℕ → Option NextHop
override_hop text = if starts_with nat_eq text (codes "forward") then hop_behind (drop 7 text) else None

-- a field line that may be added to requests
abbrev pub may_add : Option Field → Bool
may_add None = false
may_add (Some field) = not (is_held_back_of_request field.name)

-- what the rule asks beside plain text
unfoldable pub meets : Rule → List ℕ → Bool
meets rule.Nothing p = false
meets rule.Text p = not (length p == 0)
meets rule.TextOrEmpty p = true
meets rule.BlockOrAdd p = bytes_eq p (codes "block") || bytes_eq p (codes "add")
meets rule.RedirectCheck p = bytes_eq p (codes "simple-check") || bytes_eq p (codes "check-decoded-url")
meets rule.ModifiedDate p = (bytes_eq p (codes "block") || bytes_eq p (codes "reset-to-request-time")) || bytes_eq p (codes "randomize")
meets rule.Parent p = is_some (override_hop p)
meets rule.Ports p = not (length p == 0) && is_some (port_list p)
meets rule.Minutes p = nat_le (length p) 9 && is_some (decimal 100000000 p)
meets rule.AddedField p = may_add (read_field p)

-- a parameter without white space at its ends keeps the rule
unfoldable pub keeps_rule : Rule → List ℕ → Bool
keeps_rule rule p = is_plain_text p && meets rule p
