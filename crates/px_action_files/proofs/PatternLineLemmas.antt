-- The lines that are patterns, one block further.
use Rattle.std.proofs.Common.{◌≡◌, ℕ, ◌<◌, ◌≤◌, ◌-◌, zero, suc, List, [], ◌∷◌, ◌++◌, length, get_or, Some, None, option_map, refl, sym, ap, subst, ◌∙◌, arith}
use Rattle.std.specs.Prelude.{slice_get}
use Rattle.std.specs.List.{flat_map}
use Rattle.std.proofs.lemmas.Option.{slice_get-get_or}
use Rattle.px_text.specs.declared.lines.Line.{Line}
use Rattle.px_action_files.specs.Files.{cut, heading_of, lines_under}
use Rattle.px_action_files.specs.PatternLines.{patterns_under, block_patterns, pattern_lines}
use Rattle.px_action_files.proofs.CutLemmas.{first_block}

slice_get-front : {X : Type 0} (xs ys : List X) (i : ℕ) → i < length xs → slice_get (xs ++ ys) i ≡ slice_get xs i
slice_get-front [] ys i h = absurd (omega (arith, h))
slice_get-front (x ∷ xs) ys zero h = refl
slice_get-front (x ∷ xs) ys (suc i) h = slice_get-front xs ys i (omega (arith, h))

slice_get-behind : {X : Type 0} (xs ys : List X) (i : ℕ) → length xs ≤ i → slice_get (xs ++ ys) i ≡ slice_get ys (i - length xs)
slice_get-behind [] ys i h = ap (slice_get ys) (omega arith)
slice_get-behind (x ∷ xs) ys zero h = absurd (omega (arith, h))
slice_get-behind (x ∷ xs) ys (suc i) h = slice_get-behind xs ys i (omega (arith, h)) ∙ ap (slice_get ys) (omega arith)

-- the same blocks have the same patterns
pub same_patterns : (lines others : List Line) → (cut lines).blocks ≡ (cut others).blocks → pattern_lines lines ≡ pattern_lines others
unfolding pattern_lines
same_patterns lines others e = ap (flat_map block_patterns) e

-- the patterns of the first block, and then those of the others
pub patterns_first : (rest : List Line) (heading : Line) (others body later : List Line) → rest ≡ heading ∷ others → (cut rest).front ≡ [] → body ≡ (cut others).front
    → (cut later).blocks ≡ (cut others).blocks → pattern_lines rest ≡ patterns_under (heading_of heading.text) body ++ pattern_lines later
unfolding pattern_lines
patterns_first rest heading others body later e front is_body same =
    let begins : (cut (heading ∷ others)).front ≡ [] = subst (λ ls. (cut ls).front ≡ []) e front in
    ap (λ ls. flat_map block_patterns (cut ls).blocks) e
    ∙ (ap (flat_map block_patterns) (first_block heading others begins)
    ∙ rw (is_body, same) refl)

pub pattern_here : (rest later patterns : List Line) (left : ℕ) (d : Line) → pattern_lines rest ≡ patterns ++ pattern_lines later → left < length patterns
    → slice_get (pattern_lines rest) left ≡ Some (get_or patterns left d)
pattern_here rest later patterns left d e h = rw e (slice_get-front patterns (pattern_lines later) left h ∙ slice_get-get_or patterns left d h)

pub pattern_later : (rest later patterns : List Line) (left : ℕ) → pattern_lines rest ≡ patterns ++ pattern_lines later → length patterns ≤ left
    → slice_get (pattern_lines later) (left - length patterns) ≡ slice_get (pattern_lines rest) left
pattern_later rest later patterns left e h = sym (rw e (slice_get-behind patterns (pattern_lines later) left h))

-- no line has no pattern
pub pattern_nowhere : (rest : List Line) (left : ℕ) → length rest ≡ 0 → slice_get (pattern_lines rest) left ≡ None
unfolding pattern_lines
pattern_nowhere [] left e = refl
pattern_nowhere (line ∷ rest) left e = absurd (omega (arith, e))
