-- One line further in a text.
use Rattle.std.proofs.Common.{◌≡◌, ℕ, zero, suc, ◌+◌, ◌-◌, ◌<◌, ◌≤◌, true, List, [], ◌∷◌, ◌++◌, length, take, drop, refl, ap, sym, ◌∙◌, arith, slice_index, if◌then◌else◌, Option, None, Some}
use Rattle.std.specs.Prelude.{◌==◌, flat_map, filter_map, option_to_list}
use Rattle.std.specs.List.{cons_option}
use Rattle.std.proofs.lemmas.Bool.{ne_eqb, eq-eqb}
use Rattle.std.proofs.lemmas.List.{drop_all, take_rest}
use Rattle.px_templates.specs.Lines.{assembled, in_front_of_lines, included_name, included_names, is_comment, line_text, text_lines, without_comments}

-- the text has no LF below that place
abbrev pub NoneBelow : List ℕ → ℕ → Type 0
NoneBelow text at = (k : ℕ) → 0 ≤ k → k < at → ¬ ((slice_index text k == 10) ≡ true)

-- the first line of a text, where an LF ends it
lines_of-first : (text : List ℕ) (at : ℕ) → at < length text → (slice_index text at == 10) ≡ true → NoneBelow text at →
    text_lines text ≡ take (suc at) text ∷ text_lines (drop (suc at) text)
unfolding text_lines
lines_of-first [] at within here none = absurd (omega arith)
lines_of-first (b ∷ bs) zero within here none = rw here
lines_of-first (b ∷ bs) (suc at) within here none =
    rw (ne_eqb b 10 (λ e. none 0 (omega arith) (omega arith) (eq-eqb b 10 e)))
    (ap (in_front_of_lines b) (lines_of-first bs at (omega arith) here (λ k low less. none (suc k) (omega arith) (omega arith))))

-- the one line of a text without an LF
lines_of-one : (text : List ℕ) → 0 < length text → NoneBelow text (length text) → text_lines text ≡ text ∷ []
unfolding text_lines
lines_of-one [] some none = absurd (omega arith)
lines_of-one (b ∷ []) some none = rw (ne_eqb b 10 (λ e. none 0 (omega arith) (omega arith) (eq-eqb b 10 e)))
lines_of-one (b ∷ c ∷ bs) some none =
    rw (ne_eqb b 10 (λ e. none 0 (omega arith) (omega arith) (eq-eqb b 10 e)))
    (ap (in_front_of_lines b) (lines_of-one (c ∷ bs) (omega arith) (λ k low less. none (suc k) (omega arith) (omega arith))))

lines_of-nil : (text : List ℕ) → text ≡ [] → text_lines text ≡ []
unfolding text_lines
lines_of-nil text none = ap text_lines none

pub lines_of-at : (text front behind : List ℕ) (at : ℕ) → at < length text → (slice_index text at == 10) ≡ true → NoneBelow text at →
    front ≡ take (at + 1) text → behind ≡ drop (at + 1) text → text_lines text ≡ front ∷ text_lines behind
lines_of-at text front behind at within here none front_is behind_is =
    let e : suc at ≡ at + 1 = omega arith in
    lines_of-first text at within here none ∙ ap (λ n. take n text ∷ text_lines (drop n text)) e
    ∙ ap (λ l. l ∷ text_lines (drop (at + 1) text)) (sym front_is) ∙ ap (λ l. front ∷ text_lines l) (sym behind_is)

pub lines_of-last : (text : List ℕ) → 0 < length text → NoneBelow text (length text) →
    text_lines text ≡ text ∷ text_lines (take (length text - length text) (drop (length text) text))
lines_of-last text some none =
    lines_of-one text some none
    ∙ ap (λ l. text ∷ l) (sym (lines_of-nil _ (take_rest text (length text) ∙ drop_all (length text) text (omega arith))))

-- texts by their first lines
pub without_comments-step : (text line after : List ℕ) → text_lines text ≡ line ∷ text_lines after →
    without_comments text ≡ (if is_comment line then [] else line) ++ without_comments after
unfolding without_comments
without_comments-step text line after split = ap (flat_map (λ l. if is_comment l then [] else l)) split

pub without_comments-nil : (text : List ℕ) → length text ≡ 0 → without_comments text ≡ []
unfolding without_comments text_lines
without_comments-nil [] none = refl
without_comments-nil (b ∷ bs) none = absurd (omega arith)

pub assembled-step : (includes : List (List ℕ × List ℕ)) (text line after : List ℕ) → text_lines text ≡ line ∷ text_lines after →
    assembled includes text ≡ line_text includes line ++ assembled includes after
unfolding assembled
assembled-step includes text line after split = ap (flat_map (line_text includes)) split

pub assembled-nil : (includes : List (List ℕ × List ℕ)) (text : List ℕ) → length text ≡ 0 → assembled includes text ≡ []
unfolding assembled text_lines
assembled-nil includes [] none = refl
assembled-nil includes (b ∷ bs) none = absurd (omega arith)

named : (o : Option (List ℕ)) (rest : List (List ℕ)) → cons_option o rest ≡ option_to_list o ++ rest
named None rest = refl
named (Some name) rest = refl

pub included_names-step : (text line after : List ℕ) → text_lines text ≡ line ∷ text_lines after →
    included_names text ≡ option_to_list (included_name line) ++ included_names after
included_names-step text line after split =
    ap (filter_map included_name) split ∙ named (included_name line) (included_names after)

pub included_names-nil : (text : List ℕ) → length text ≡ 0 → included_names text ≡ []
unfolding text_lines
included_names-nil [] none = refl
included_names-nil (b ∷ bs) none = absurd (omega arith)
