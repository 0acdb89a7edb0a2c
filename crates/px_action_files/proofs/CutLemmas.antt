-- The blocks of lines.
use Rattle.std.proofs.Common.{◌≡◌, Bool, true, false, List, [], ◌∷◌, length, take, drop, refl, sym, ap, subst, ◌∙◌, Ok, arith}
use Rattle.std.proofs.Math.Numerals.{one-add}
use Rattle.std.specs.List.{position_or_len}
use Rattle.px_text.specs.declared.lines.Line.{Line}
use Rattle.px_action_files.specs.Faults.{and_then, IsReported}
use Rattle.px_action_files.specs.Files.{Lines, GivenSoFar, cut, is_heading, lines_under, after_block, after_blocks, nothing_given, file_sections}
use Rattle.px_action_files.specs.declared.faults.FileFault.{FileFault}
use Rattle.px_action_files.proofs.ResultLemmas.{reported_then, reported_map, reported_same}

front-step : (heading : Bool) (line : Line) (lines : List Line) → is_heading line ≡ heading → (cut lines).front ≡ take (position_or_len is_heading lines) lines
    → (cut (line ∷ lines)).front ≡ take (position_or_len is_heading (line ∷ lines)) (line ∷ lines)
front-step true line lines h e = rw h refl
front-step false line lines h e = rw (h, e, one-add) refl

-- the lines before the first heading
pub cut_front : (lines : List Line) → (cut lines).front ≡ take (position_or_len is_heading lines) lines
cut_front [] = refl
cut_front (line ∷ lines) = front-step (is_heading line) line lines refl (cut_front lines)

behind-step : (heading : Bool) (line : Line) (lines : List Line) → is_heading line ≡ heading
    → cut (drop (position_or_len is_heading lines) lines) ≡ record { front = []; blocks = (cut lines).blocks }
    → cut (drop (position_or_len is_heading (line ∷ lines)) (line ∷ lines)) ≡ record { front = []; blocks = (cut (line ∷ lines)).blocks }
behind-step true line lines h e = rw h (rw h refl)
behind-step false line lines h e = rw (h, one-add) e

-- what stands from the first heading on has the same blocks, and nothing before them
pub cut_behind : (lines : List Line) → cut (drop (position_or_len is_heading lines) lines) ≡ record { front = []; blocks = (cut lines).blocks }
cut_behind [] = refl
cut_behind (line ∷ lines) = behind-step (is_heading line) line lines refl (cut_behind lines)

pub ruleset cut_laws = (cut_front, cut_behind)

blocks-step : (heading : Bool) (line : Line) (lines : List Line) → is_heading line ≡ heading → (cut (line ∷ lines)).front ≡ []
    → (cut (line ∷ lines)).blocks ≡ lines_under line (cut lines).front ∷ (cut lines).blocks
blocks-step true line lines h e = rw h refl
blocks-step false line lines h e = let none = rw h at e in absurd (cc)

-- where nothing stands before the first heading, the first line is the heading of the first block
pub first_block : (line : Line) (lines : List Line) → (cut (line ∷ lines)).front ≡ [] → (cut (line ∷ lines)).blocks ≡ lines_under line (cut lines).front ∷ (cut lines).blocks
first_block line lines e = blocks-step (is_heading line) line lines refl e

-- what the blocks add is what the first adds, and then the others
unfolded : (given : GivenSoFar) (b : Lines) (blocks : List Lines) → after_blocks (b ∷ blocks) given ≡ and_then (after_block given b) (after_blocks blocks)
unfolding after_blocks
unfolded given b blocks = refl

first-added : (rest : List Line) (heading : Line) (others body : List Line) (given : GivenSoFar) → rest ≡ heading ∷ others → (cut rest).front ≡ [] → body ≡ (cut others).front
    → after_blocks (cut rest).blocks given ≡ and_then (after_block given (lines_under heading body)) (after_blocks (cut others).blocks)
first-added rest heading others body given e front is_body =
    let begins : (cut (heading ∷ others)).front ≡ [] = subst (λ ls. (cut ls).front ≡ []) e front in
    subst (λ ls. after_blocks (cut ls).blocks given ≡ and_then (after_block given (lines_under heading body)) (after_blocks (cut others).blocks)) (sym e)
    (rw (first_block heading others begins) (rw is_body (unfolded given (lines_under heading (cut others).front) (cut others).blocks)))

-- one block more is read
pub block_added : (rest : List Line) (heading : Line) (others body later : List Line) (given new : GivenSoFar) → rest ≡ heading ∷ others → (cut rest).front ≡ []
    → body ≡ (cut others).front → (cut later).blocks ≡ (cut others).blocks → after_block given (lines_under heading body) ≡ Ok new
    → after_blocks (cut later).blocks new ≡ after_blocks (cut rest).blocks given
block_added rest heading others body later given new e front is_body same added =
    ap (λ bs. after_blocks bs new) same ∙ sym (first-added rest heading others body given e front is_body ∙ ap (λ r. and_then r (after_blocks (cut others).blocks)) added)

-- a block is refused
pub block_refused : (lines rest : List Line) (heading : Line) (others body : List Line) (given : GivenSoFar) (f : FileFault) → rest ≡ heading ∷ others → (cut rest).front ≡ []
    → body ≡ (cut others).front → (cut lines).front ≡ [] → after_blocks (cut rest).blocks given ≡ after_blocks (cut lines).blocks nothing_given
    → IsReported (after_block given (lines_under heading body)) f → IsReported (file_sections lines) f
unfolding file_sections
block_refused lines rest heading others body given f e front is_body none same h =
    rw none (reported_map _ _ f (reported_same _ _ f (sym (first-added rest heading others body given e front is_body) ∙ same) (reported_then _ _ f h)))

-- the last block is read
pub file_read : (lines rest : List Line) (given : GivenSoFar) → (cut lines).front ≡ [] → length rest ≡ 0 → after_blocks (cut rest).blocks given ≡ after_blocks (cut lines).blocks nothing_given
    → file_sections lines ≡ Ok given.sections
unfolding file_sections after_blocks
file_read lines [] given none end same = rw (none, ← same) refl
file_read lines (line ∷ rest) given none end same = absurd (omega arith)
