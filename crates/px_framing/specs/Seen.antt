-- What is remembered of codings and of lengths that are read one by one.
use Rattle.std.specs.Prelude.{ℕ, option_map, Bool, true, not, ◌&&◌, ◌||◌, ◌==◌, if◌then◌else◌, List, [], ◌∷◌, Option, Some, None, Result, Ok, Err}
use Rattle.px_framing.specs.declared.rules.CodingsSeen.{CodingsSeen}
use Rattle.px_framing.specs.declared.rules.Lengths.{Lengths}
use Rattle.px_framing.specs.declared.rules.BodyRule.{BodyRule}
use Rattle.px_framing.specs.declared.rules.BodyRule.TheVariants.{Length}
use Rattle.px_framing.specs.declared.rules.BodyFault.{BodyFault}
use Rattle.px_framing.specs.declared.rules.BodyFault.TheVariants.{TwoLengths}
use Rattle.px_base.specs.Numbers.{decimal}
use Rattle.px_fields.specs.Names.{has_name}
use Rattle.px_fields.specs.declared.fields.Field.{Field}
use Rattle.px_framing.specs.Body.{body_limit}
use Rattle.px_framing.specs.Rules.{is_chunked, items_of, codings_name, lengths_name}

-- one more coding
abbrev pub seen_one : CodingsSeen → List ℕ → CodingsSeen
seen_one s coding = record { any = true; alone = not s.any && is_chunked coding; last = is_chunked coding }

-- more codings
abbrev pub seen_all : CodingsSeen → List (List ℕ) → CodingsSeen
seen_all s [] = s
seen_all s (c ∷ cs) = seen_all (seen_one s c) cs

-- the codings of one more field
abbrev pub field_seen : CodingsSeen → Field → CodingsSeen
field_seen s f = if has_name codings_name f then seen_all s (items_of f.value) else s

-- one more length
abbrev pub length_at : Option ℕ → Bool → ℕ → Lengths
length_at None differ m = record { first = Some m; differ = differ }
length_at (Some n) differ m = record { first = Some n; differ = differ || not (m == n) }

abbrev pub length_seen : Lengths → ℕ → Lengths
length_seen seen m = length_at seen.first seen.differ m

-- the length of one more field, unless its value is no length
abbrev pub with_length_field : Lengths → Field → Option Lengths
with_length_field seen f =
    if has_name lengths_name f then option_map (length_seen seen) (decimal body_limit f.value) else Some seen

-- the rule of a first length, where others differed from it or not
abbrev pub by_lengths : BodyRule → Option ℕ → Bool → Result BodyRule BodyFault
by_lengths other None differ = Ok other
by_lengths other (Some n) differ = if differ then Err TwoLengths else Ok (Length n)
