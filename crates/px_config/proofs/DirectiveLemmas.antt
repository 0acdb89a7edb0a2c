-- The name and the value of a line, by its first white space.
use Rattle.std.proofs.Common.{◌≡◌, ℕ, ◌+◌, ◌≤◌, List, [], ◌∷◌, length, take, drop, Bool, true, false, Option, None, Some, refl, sym, ap, ◌∙◌, arith, cond}
use Rattle.std.specs.List.{before_first, after_first, position, position_or_len}
use Rattle.std.proofs.lemmas.Bool.{ltb-false}
use Rattle.std.proofs.lemmas.List.{drop_all, take_all}
use Rattle.px_base.specs.Blanks.{is_blank, trimmed}
use Rattle.px_config.specs.Directives.{name_in, value_in}

none_of : (b : Bool) (n : ℕ) → None ≡ cond b (Some n) None → b ≡ false
none_of true n e = (cc)
none_of false n e = refl

some_of : (b : Bool) (n m : ℕ) → Some m ≡ cond b (Some n) None → n ≡ m
some_of true n m e = (cc)
some_of false n m e = (cc)

pub name_found : (line : List ℕ) (at : ℕ) → Some at ≡ position is_blank line → take at line ≡ name_in line
name_found line at e = ap (λ n. take n line) (sym (some_of _ (position_or_len is_blank line) at e))

pub value_found : (line : List ℕ) (at : ℕ) → Some at ≡ position is_blank line → trimmed (drop (at + 1) line) ≡ value_in line
value_found line at e = ap (λ n. trimmed (drop (n + 1) line)) (sym (some_of _ (position_or_len is_blank line) at e))

pub name_none : (line : List ℕ) → None ≡ position is_blank line → line ≡ name_in line
name_none line e =
    let past : length line ≤ position_or_len is_blank line = ltb-false (position_or_len is_blank line) (length line) (none_of _ _ e) in
    sym (take_all (position_or_len is_blank line) line (omega arith))

pub value_none : (line : List ℕ) → None ≡ position is_blank line → [] ≡ value_in line
unfolding trimmed
value_none line e =
    let past : length line ≤ position_or_len is_blank line = ltb-false (position_or_len is_blank line) (length line) (none_of _ _ e) in
    ap (λ l. trimmed l) (sym (drop_all (position_or_len is_blank line + 1) line (omega arith)))

pub ruleset split_rules = (name_found, value_found, name_none, value_none)
