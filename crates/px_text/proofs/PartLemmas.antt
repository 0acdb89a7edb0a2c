-- Physical lines: where the first ends, and what a line holds up to its next `#`.
use Rattle.std.proofs.Common.{◌≡◌, ◌≢◌, ℕ, zero, suc, ◌+◌, ◌-◌, ◌<◌, ◌≤◌, ◌⊎◌, Bool, true, false, List, [], ◌∷◌, ◌++◌, length, take, drop, refl, ap, sym, ◌∙◌, subst, nat_eq, arith, append_assoc, inl, inr, slice_index, All}
use Rattle.std.specs.Prelude.{◌==◌}
use Rattle.std.specs.List.{slice_split, starts_with}
use Rattle.std.specs.Str.Lines.{lines, strip_carriage_return, lines_of_parts}
use Rattle.std.proofs.lemmas.Bool.{cond_both, ne_eqb, eq-eqb, eqb-true, eqb-false}
use Rattle.std.proofs.lemmas.Grind.{common_steps}
use Rattle.std.proofs.lemmas.List.{length-drop, take-append-drop, drop_more, drop-drop, drop_all, take_rest, length-take-le, get_or-take, get_or_default}
use Rattle.std.proofs.lemmas.List.Splits.{slice_split_none, slice_split_at, length-slice_split}
use Rattle.px_text.specs.declared.TheConstants.{BACKSLASH, BYTE_ORDER_MARK, HASH}
use Rattle.px_text.specs.Lines.{uncommented, unescaped_line, without_mark}

-- no byte of the list is `at`
abbrev pub Lacks : ℕ → List ℕ → Type 0
Lacks byte bytes = (k : ℕ) → k < length bytes → slice_index bytes k ≢ byte

parts-cons : (first : List ℕ) (parts : List (List ℕ)) → 0 < length parts → lines_of_parts (first ∷ parts) ≡ strip_carriage_return first ∷ lines_of_parts parts
parts-cons first [] some = absurd (omega arith)
parts-cons first (next ∷ more) some = refl

-- the lines of a text that begins with a whole line
pub lines-cons : (line rest : List ℕ) → All (λ b. (b == 10) ≡ false) line → lines (line ++ 10 ∷ rest) ≡ strip_carriage_return line ∷ lines rest
lines-cons line rest none =
    ap lines_of_parts (slice_split_at (λ b. b == 10) line 10 rest none refl)
    ∙ parts-cons line (slice_split (λ b. b == 10) rest) (omega (arith, length-slice_split (λ b. b == 10) rest))

-- the one line of a text that holds no line end
pub lines-one : (line : List ℕ) → 0 < length line → All (λ b. (b == 10) ≡ false) line → lines line ≡ line ∷ []
lines-one line some none =
    ap lines_of_parts (slice_split_none (λ b. b == 10) line none)
    ∙ (rw (ne_eqb (length line) 0 (λ e. omega (arith, e))))

-- a list round one of its places
pub around : (bytes : List ℕ) (at : ℕ) → at < length bytes → bytes ≡ take at bytes ++ slice_index bytes at ∷ drop (at + 1) bytes
around bytes at within = sym (take-append-drop at bytes) ∙ ap (λ l. take at bytes ++ l) (drop_more bytes at 0 within)

-- the front of a list before the first place that holds a byte lacks that byte
pub Lacks-front : (byte : ℕ) (bytes : List ℕ) (at : ℕ) → at ≤ length bytes → ((k : ℕ) → 0 ≤ k → k < at → ¬ ((slice_index bytes k == byte) ≡ true)) → Lacks byte (take at bytes)
Lacks-front byte bytes at fits none k within e =
    none k (omega arith) (omega (arith, length-take-le at bytes fits)) (eq-eqb (slice_index bytes k) byte (sym (get_or-take at bytes k 0 (omega (arith, length-take-le at bytes fits))) ∙ e))

Lacks-less : (byte : ℕ) (bytes : List ℕ) (m n : ℕ) → m ≤ n → n ≤ length bytes → Lacks byte (take n bytes) → Lacks byte (take m bytes)
Lacks-less byte bytes m n less fits none k within e =
    none k (omega (arith, length-take-le m bytes (omega arith), length-take-le n bytes fits))
    (get_or-take n bytes k 0 (omega (arith, length-take-le m bytes (omega arith))) ∙ (sym (get_or-take m bytes k 0 (omega (arith, length-take-le m bytes (omega arith)))) ∙ e))

pub All-from-Lacks : (byte : ℕ) (bytes : List ℕ) → Lacks byte bytes → All (λ b. (b == byte) ≡ false) bytes
All-from-Lacks byte bytes none k d within = rw (get_or_default bytes k d 0 within) (ne_eqb (slice_index bytes k) byte (none k within))

-- the first line of a text, which ends at its first line feed
pub lines-at : (text : List ℕ) (at : ℕ) → at < length text → (slice_index text at == 10) ≡ true → ((k : ℕ) → 0 ≤ k → k < at → ¬ ((slice_index text k == 10) ≡ true)) →
    lines text ≡ strip_carriage_return (take at text) ∷ lines (take (length text - (at + 1)) (drop (at + 1) text))
lines-at text at within here none =
    ap lines (around text at within)
    ∙ ap (λ b. lines (take at text ++ b ∷ drop (at + 1) text)) (eqb-true (slice_index text at) 10 here)
    ∙ lines-cons (take at text) (drop (at + 1) text) (All-from-Lacks 10 (take at text) (Lacks-front 10 text at (omega arith) none))
    ∙ ap (λ l. strip_carriage_return (take at text) ∷ lines l) (sym (take_rest text (at + 1)))

-- the one line of a text without a line feed
pub lines-last : (text : List ℕ) → 0 < length text → ((k : ℕ) → 0 ≤ k → k < length text → ¬ ((slice_index text k == 10) ≡ true)) →
    lines text ≡ text ∷ lines (take (length text - length text) (drop (length text) text))
lines-last text some none =
    lines-one text some (All-from-Lacks 10 text (λ k within e. none k (omega arith) within (eq-eqb (slice_index text k) 10 e)))
    ∙ ap (λ l. text ∷ lines l) (sym (take_rest text (length text) ∙ drop_all (length text) text (omega arith)))

-- what a line holds behind the byte `before`
abbrev pub clean : ℕ → List ℕ → List ℕ
clean before bytes = unescaped_line (uncommented before bytes)

-- whether what is left begins with a `#` that is kept
abbrev keeps_hash : ℕ → List ℕ → Bool
keeps_hash before bytes = starts_with nat_eq (uncommented before bytes) (HASH ∷ [])

keeps_hash-other : (before b : ℕ) (bytes : List ℕ) → b ≢ HASH → keeps_hash before (b ∷ bytes) ≡ false
unfolding uncommented
keeps_hash-other before b bytes other = rw (ne_eqb b HASH other) (rw (ne_eqb HASH b (λ e. other (sym e))))

uncommented-bare : (before : ℕ) (bytes : List ℕ) → before ≢ BACKSLASH → uncommented before (HASH ∷ bytes) ≡ []
unfolding uncommented
uncommented-bare before bytes bare = rw (ne_eqb before BACKSLASH bare)

clean-other : (before b : ℕ) (bytes : List ℕ) → b ≢ HASH → keeps_hash b bytes ≡ false → clean before (b ∷ bytes) ≡ b ∷ clean b bytes
unfolding uncommented unescaped_line
clean-other before b bytes other plain = rw (ne_eqb b HASH other) (rw plain (grind (arith, common_steps)))

-- only whether the byte in front is a backslash counts
pub uncommented-before : (p q : ℕ) (bytes : List ℕ) → p ≢ BACKSLASH → q ≢ BACKSLASH → uncommented p bytes ≡ uncommented q bytes
unfolding uncommented
uncommented-before p q [] one other = refl
uncommented-before p q (b ∷ bytes) one other = rw (ne_eqb p BACKSLASH one) (rw (ne_eqb q BACKSLASH other))

-- a line without `#` is kept as it is
pub clean-plain : (before : ℕ) (bytes : List ℕ) → Lacks HASH bytes → clean before bytes ≡ bytes
unfolding uncommented unescaped_line
clean-plain before [] none = refl
clean-plain before (b ∷ []) none = clean-other before b [] (none 0 (omega arith)) refl
clean-plain before (b ∷ c ∷ bytes) none =
    clean-other before b (c ∷ bytes) (none 0 (omega arith)) (keeps_hash-other b c bytes (none 1 (omega arith)))
    ∙ ap (λ l. b ∷ l) (clean-plain b (c ∷ bytes) (λ k within. none (suc k) (omega arith)))

-- the last byte of a list behind the byte `before`
abbrev pub last_of : ℕ → List ℕ → ℕ
last_of before [] = before
last_of before (b ∷ bytes) = last_of b bytes

pub last_of-take : (before : ℕ) (bytes : List ℕ) (n : ℕ) → n < length bytes → last_of before (take (suc n) bytes) ≡ slice_index bytes n
last_of-take before [] n within = absurd (omega arith)
last_of-take before (b ∷ bytes) zero within = refl
last_of-take before (b ∷ bytes) (suc n) within = last_of-take b bytes n (omega arith)

-- a line ends at a `#` with no backslash directly before it
pub clean-comment : (before : ℕ) (front rest : List ℕ) → Lacks HASH front → last_of before front ≢ BACKSLASH → clean before (front ++ HASH ∷ rest) ≡ front
unfolding uncommented unescaped_line
clean-comment before [] rest none bare = ap unescaped_line (uncommented-bare before rest bare)
clean-comment before (b ∷ []) rest none bare =
    clean-other before b (HASH ∷ rest) (none 0 (omega arith)) (ap (λ l. starts_with nat_eq l (HASH ∷ [])) (uncommented-bare b rest bare))
    ∙ ap (λ l. b ∷ unescaped_line l) (uncommented-bare b rest bare)
clean-comment before (b ∷ c ∷ front) rest none bare =
    clean-other before b (c ∷ front ++ HASH ∷ rest) (none 0 (omega arith)) (keeps_hash-other b c (front ++ HASH ∷ rest) (none 1 (omega arith)))
    ∙ ap (λ l. b ∷ l) (clean-comment b (c ∷ front) rest (λ k within. none (suc k) (omega arith)) bare)

backslash≢hash : BACKSLASH ≢ HASH
backslash≢hash = eqb-false BACKSLASH HASH refl

-- a `#` with a backslash directly before it is kept without the backslash
pub clean-escaped : (before : ℕ) (front rest : List ℕ) → Lacks HASH front → clean before (front ++ BACKSLASH ∷ HASH ∷ rest) ≡ front ++ HASH ∷ clean HASH rest
unfolding uncommented unescaped_line
clean-escaped before [] rest none = refl
clean-escaped before (b ∷ []) rest none =
    clean-other before b (BACKSLASH ∷ HASH ∷ rest) (none 0 (omega arith)) (keeps_hash-other b BACKSLASH (HASH ∷ rest) backslash≢hash)
    ∙ ap (λ l. b ∷ l) (clean-escaped b [] rest (λ k within. absurd (omega arith)))
clean-escaped before (b ∷ c ∷ front) rest none =
    clean-other before b (c ∷ front ++ BACKSLASH ∷ HASH ∷ rest) (none 0 (omega arith)) (keeps_hash-other b c (front ++ BACKSLASH ∷ HASH ∷ rest) (none 1 (omega arith)))
    ∙ ap (λ l. b ∷ l) (clean-escaped b (c ∷ front) rest (λ k within. none (suc k) (omega arith)))

last_of-at : (bytes : List ℕ) (at : ℕ) → at < length bytes → (at ≡ 0) ⊎ (slice_index bytes (at - 1) ≢ BACKSLASH) → last_of 0 (take at bytes) ≢ BACKSLASH
last_of-at bytes zero within bare = eqb-false 0 BACKSLASH refl
last_of-at bytes (suc at) within bare = elim bare [ inl none ↦ absurd (omega (arith, none)) | inr other ↦ λ e. other (ap (slice_index bytes) (let back : suc at - 1 ≡ at = omega arith in back) ∙ (sym (last_of-take 0 bytes at (omega arith)) ∙ e)) ]

-- no byte of the list below this place is `byte`
abbrev pub NoneBelow : ℕ → List ℕ → ℕ → Type 0
NoneBelow byte bytes at = (k : ℕ) → 0 ≤ k → k < at → ¬ ((slice_index bytes k == byte) ≡ true)

-- a line without `#`
pub plain_line : (bytes : List ℕ) → NoneBelow HASH bytes (length bytes) → clean 0 bytes ≡ bytes
plain_line bytes none = clean-plain 0 bytes (λ k within e. none k (omega arith) within (eq-eqb (slice_index bytes k) HASH e))

-- the first `#` of a line, where it begins a comment
pub comment_at : (bytes : List ℕ) (at : ℕ) → at < length bytes → (slice_index bytes at == HASH) ≡ true → NoneBelow HASH bytes at → (at ≡ 0) ⊎ (slice_index bytes (at - 1) ≢ BACKSLASH) → clean 0 bytes ≡ take at bytes
comment_at bytes at within here none bare =
    ap (clean 0) (around bytes at within)
    ∙ ap (λ b. clean 0 (take at bytes ++ b ∷ drop (at + 1) bytes)) (eqb-true (slice_index bytes at) HASH here)
    ∙ clean-comment 0 (take at bytes) (drop (at + 1) bytes) (Lacks-front HASH bytes at (omega arith) none) (last_of-at bytes at within bare)

escaped_at-suc : (bytes : List ℕ) (at : ℕ) → at + 1 < length bytes → slice_index bytes at ≡ BACKSLASH → slice_index bytes (at + 1) ≡ HASH → Lacks HASH (take (at + 1) bytes) → clean 0 bytes ≡ take at bytes ++ HASH ∷ clean 0 (drop (at + 1 + 1) bytes)
escaped_at-suc bytes at within slash hash none =
    ap (clean 0) (around bytes at (omega arith))
    ∙ ap (λ l. clean 0 (take at bytes ++ slice_index bytes at ∷ l)) (drop_more bytes (at + 1) 0 within)
    ∙ ap (λ b. clean 0 (take at bytes ++ b ∷ slice_index bytes (at + 1) ∷ drop (at + 1 + 1) bytes)) slash
    ∙ ap (λ b. clean 0 (take at bytes ++ BACKSLASH ∷ b ∷ drop (at + 1 + 1) bytes)) hash
    ∙ clean-escaped 0 (take at bytes) (drop (at + 1 + 1) bytes) (Lacks-less HASH bytes at (at + 1) (omega arith) (omega arith) none)
    ∙ ap (λ l. take at bytes ++ HASH ∷ unescaped_line l) (uncommented-before HASH 0 (drop (at + 1 + 1) bytes) (λ e. backslash≢hash (sym e)) (eqb-false 0 BACKSLASH refl))

-- the first `#` of a line, where a backslash stands directly before it, with what follows it
pub escaped_at : (bytes after : List ℕ) (at : ℕ) → 0 < at → at < length bytes → (slice_index bytes at == HASH) ≡ true → NoneBelow HASH bytes at → slice_index bytes (at - 1) ≡ BACKSLASH →
    after ≡ drop at bytes → clean 0 bytes ≡ take (at - 1) bytes ++ HASH ∷ clean 0 (take (length after - 1) (drop 1 after))
escaped_at bytes after at some within here none slash is =
    let back : at - 1 + 1 ≡ at = omega arith in
    escaped_at-suc bytes (at - 1) (omega arith) slash (ap (slice_index bytes) back ∙ eqb-true (slice_index bytes at) HASH here)
    (subst (λ (n : ℕ). Lacks HASH (take n bytes)) (sym back) (Lacks-front HASH bytes at (omega arith) none))
    ∙ ap (λ l. take (at - 1) bytes ++ HASH ∷ clean 0 l)
    (ap (λ n. drop (n + 1) bytes) back ∙ (sym (drop-drop 1 at bytes) ∙ (ap (drop 1) (sym is) ∙ sym (take_rest after 1))))

-- a text that was added in two steps
pub added_twice : (joined front rest once twice : List ℕ) (b : ℕ) → once ≡ joined ++ front → twice ≡ once ++ b ∷ [] → joined ++ (front ++ b ∷ rest) ≡ twice ++ rest
added_twice joined front rest once twice b one two = rw two (rw one (simp append_assoc))

-- the byte order mark is dropped, and nothing is added
pub length-without_mark : (text rest : List ℕ) → rest ≡ without_mark text → length rest ≤ length text
length-without_mark text rest is =
    rw is (cond_both (starts_with nat_eq text BYTE_ORDER_MARK) (drop 3 text) text (λ (l : List ℕ). length l ≤ length text) (λ _. omega (arith, length-drop 3 text)) (λ _. omega arith))
