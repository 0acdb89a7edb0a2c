-- The expression `^/`: it has a match exactly where a slash stands first.
use Rattle.std.proofs.Common.{◌≡◌, ◌<◌, ◌≤◌, ℕ, zero, suc, ◌+◌, ◌-◌, Bool, true, false, List, [], ◌∷◌, Option, None, Some, codes, chars, length, refl, ap, sym, ◌∙◌, arith}
use Rattle.std.specs.Prelude.{◌==◌, ◌&&◌, ◌||◌, IsSomeAnd, nat_lt, nat_le, if◌then◌else◌, is_some, option_and_then, option_map, slice_index, Ok}
use Rattle.std.proofs.lemmas.Bool.{le-leb}
use Rattle.std.proofs.lemmas.Bool.Decides.{nat_tests}
use Rattle.std.proofs.lemmas.Option.{slice_get-get_or}
use Rattle.std.specs.Option.{option_or}
use Rattle.regex_class.specs.Ranges.{Range, in_image, in_range, in_ranges, HasExactly}
use Rattle.ucd_case.specs.CaseFolding.{fold_pairs}
use Rattle.ucd_case.specs.FoldOtherRows.{fold_other_rows}
use Rattle.regex_hir.specs.Find.{Match, find, first_from}
use Rattle.regex_hir.specs.Looks.{holds, holds_between}
use Rattle.regex_hir.specs.Re.{Re, Trace, accept, attempt, byte_in, cat, look}
use Rattle.regex_hir.specs.Text.{byte_before}
use Rattle.regex_hir.specs.declared.look.Look.TheVariants.{Start}
use Rattle.regex_syntax.specs.Brackets.{Nested}
use Rattle.regex_syntax.specs.Fold.{in_unicode_fold}
use Rattle.regex_syntax.specs.Grammar.{Names, read}
use Rattle.regex_syntax.specs.Same.{SameTree}
use Rattle.regex_syntax.specs.Sets.{members}
use Rattle.regex_syntax.proofs.CapturesLemmas.{alike_of_same}
use Rattle.regex_syntax.proofs.SetLemmas.{in_ranges-members}
use Rattle.regex.proofs.ForCallers.{is_match_alike}
use Rattle.regex.proofs.OnLiterals.{regex_on_literals, IsReadAs, class_is, same_refl, same_sym, ◌then◌, cat_cong, cat-empty, alt-fail, byte_in_ascii}
use Rattle.px_patterns.specs.Expressions.{pattern_expression, expression_of, finds, pattern_options}

abbrev slash : List Range
slash = (47, 47) ∷ []

abbrev front_slash : Re
front_slash = cat (look Start) (byte_in slash)

-- ---- no other character folds to a slash

abbrev is_slash : ℕ → Bool
is_slash c = nat_lt c 0x11_0000 && (c == 47)

some_first : List (ℕ × ℕ) → Bool
some_first [] = false
some_first (p ∷ ps) = is_slash p.0 || some_first ps

or_parts : (a b : Bool) → (a || b) ≡ false → (a ≡ false) × (b ≡ false)
or_parts true b neither = cc
or_parts false b neither = (refl, neither)

image-none : (ps : List (ℕ × ℕ)) (rs : List Range) (c : ℕ) → ((k : ℕ) → in_ranges rs k ≡ is_slash k) → some_first ps ≡ false → in_image ps rs c ≡ false
unfolding in_image some_first
image-none [] rs c is none = refl
image-none (p ∷ ps) rs c is none =
    let parts = or_parts (is_slash p.0) (some_first ps) none in
    rw (is p.0 ∙ parts.0, image-none ps rs c is parts.1) refl

no_fold : some_first fold_pairs ≡ false
unfolding some_first fold_pairs fold_other_rows
no_fold = refl

slash_alone : HasExactly slash (in_unicode_fold (members (λ d. d == 47)))
unfolding in_unicode_fold in_ranges in_range
slash_alone c le =
    let none = image-none fold_pairs (members (λ d. d == 47)) c (in_ranges-members (λ d. d == 47)) no_fold in
    rw (none, in_ranges-members (λ d. d == 47) c) (grind (arith, nat_tests))

slash_small : (c : ℕ) → in_ranges slash c ≡ true → c ≤ 127
unfolding in_ranges in_range
slash_small c is = grind (arith, nat_tests)

-- ---- what the grammar reads

written : IsReadAs pattern_options (codes "^/") front_slash
unfolding regex_on_literals
written = alt-fail _ then cat_cong (same_refl _) (cat-empty _ then (class_is _ slash slash_alone then same_sym (byte_in_ascii slash slash_small)))

within_limit : (o : Option (Nested Re × Names)) (b : Re) → IsSomeAnd o (λ (found, _). (found.depth ≤ 250) × SameTree found.value b) →
    (re : Re) × (option_and_then (λ ((re, names) : Nested Re × Names). if nat_le re.depth 250 then Some re.value else None) o ≡ Some re) × SameTree re b
within_limit None b is = absurd is
within_limit (Some (found, names)) b is = (found.value, rw (le-leb found.depth 250 is.0) refl, is.1)

shallow : IsSomeAnd (read pattern_options (chars (codes "^/"))) (λ (found, _). (found.depth ≤ 250) × SameTree found.value front_slash)
unfolding regex_on_literals
shallow = (omega arith, written)

read_slash : (re : Re) × (pattern_expression (codes "^/") ≡ Some re) × SameTree re front_slash
unfolding pattern_expression
read_slash = within_limit (read pattern_options (chars (codes "^/"))) front_slash shallow

pub slash_is_read : expression_of (codes "^/") ≡ Ok (codes "^/")
slash_is_read = rw (ap is_some read_slash.1) refl

-- ---- where it has a match

start_fails : (hay : List ℕ) (i : ℕ) → 0 < i → i ≤ length hay → holds Start hay i ≡ false
unfolding holds holds_between byte_before
start_fails hay i later within =
    let behind : (i == 0) ≡ false = grind (arith, nat_tests) in
    rw (behind, slice_get-get_or hay (i - 1) 0 (omega arith)) refl

attempt_later : (hay : List ℕ) (i : ℕ) → 0 < i → i ≤ length hay → attempt hay front_slash accept i ≡ None
unfolding attempt
attempt_later hay i later within = rw (start_fails hay i later within) refl

none_later : (hay : List ℕ) (n i : ℕ) → 0 < i → i + n ≤ length hay + 1 → first_from (attempt hay front_slash accept) n i ≡ None
unfolding first_from
none_later hay zero i later within = refl
none_later hay (suc n) i later within = rw (attempt_later hay i later (omega arith), none_later hay n (i + 1) (omega arith) (omega arith)) refl

attempt_first : (b : ℕ) (rest : List ℕ) → attempt (b ∷ rest) front_slash accept 0 ≡ (if in_ranges slash b then accept 1 else None)
unfolding attempt holds holds_between byte_before
attempt_first b rest = refl

in_slash : (b : ℕ) → in_ranges slash b ≡ (b == 47)
unfolding in_ranges in_range
in_slash b = grind (arith, nat_tests)

once : (test : Bool) (trace : Trace) (made : Trace → Match) → is_some (option_or (option_map made (if test then Some trace else None)) None) ≡ test
once true trace made = refl
once false trace made = refl

first_place : (hay : List ℕ) → find front_slash hay 0 ≡ first_from (attempt hay front_slash accept) (suc (length hay)) 0
unfolding find
first_place hay = let count : length hay + 1 - 0 ≡ suc (length hay) = omega arith in ap (λ n. first_from (attempt hay front_slash accept) n 0) count

none_there : is_some (first_from (attempt [] front_slash accept) (suc 0) 0) ≡ false
unfolding first_from attempt holds holds_between byte_before
none_there = refl

found_first : (hay : List ℕ) → is_some (find front_slash hay 0) ≡ (slice_index hay 0 == 47)
unfolding first_from
found_first [] = ap is_some (first_place []) ∙ none_there
found_first (b ∷ rest) =
    ap is_some (first_place (b ∷ rest))
    ∙ rw (attempt_first b rest, in_slash b, none_later (b ∷ rest) (length (b ∷ rest)) (0 + 1) (omega arith) (omega arith)) (once (b == 47) _ _)

-- the expression is found exactly where a slash stands first
pub slash_finds : (bytes : List ℕ) → ((k : ℕ) → slice_index bytes k < 256) → (slice_index bytes 0 == 47) ≡ finds (codes "^/") bytes
unfolding finds
slash_finds bytes fits =
    sym (found_first bytes) ∙ sym (is_match_alike (alike_of_same read_slash.2.matches) bytes fits false 0)
    ∙ sym (ap (λ (o : Option Re). is_some (option_and_then (λ re. find re bytes 0) o)) read_slash.1)
