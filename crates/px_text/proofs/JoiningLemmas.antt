-- Lines that are joined from the left give the lines that the definition joins from the right.
use Rattle.std.proofs.Common.{◌≡◌, ℕ, ◌+◌, ◌<◌, ◌≤◌, true, false, List, [], ◌∷◌, ◌++◌, length, length-append, refl, ap, sym, arith, append_assoc, inl, inr, Option, None, Some}
use Rattle.std.specs.Prelude.{nat_le, nat_lt}
use Rattle.std.specs.Str.{is_utf8}
use Rattle.std.proofs.lemmas.Bool.{cases_Bool, le-leb, lt-leb}
use Rattle.px_base.specs.Blanks.{trimmed}
use Rattle.px_text.specs.declared.TheConstants.{LINE_LIMIT}
use Rattle.px_text.specs.declared.faults.TextFault.TheVariants.{NotText, TooLong}
use Rattle.px_text.specs.declared.lines.Line.{Line}
use Rattle.px_text.specs.Faults.{earlier, first_not_text, first_too_long}
use Rattle.px_text.specs.Lines.{is_continued, joined_lines, joined_to, kept_lines, part}

abbrev pub line_of : ℕ → List ℕ → Line
line_of number text = record { number = number; text = text }

-- joining twice is joining once
joined_to-joined_to : (m n : ℕ) (front back : List ℕ) (lines : List Line) → joined_to m front (joined_to n back lines) ≡ joined_to m (front ++ back) lines
unfolding joined_to
joined_to-joined_to m n front back [] = refl
joined_to-joined_to m n front back (line ∷ lines) = ap (λ text. line_of m text ∷ lines) (sym (append_assoc front back line.text))

-- what follows where a physical line is continued, and where it isn't
pub joined_to-continued : (m n : ℕ) (text line : List ℕ) (rest : List (List ℕ)) → is_continued line ≡ true →
    joined_to m text (joined_lines n (line ∷ rest)) ≡ joined_to m (text ++ part line) (joined_lines (n + 1) rest)
unfolding joined_lines
joined_to-continued m n text line rest continued = rw continued (joined_to-joined_to m n text (part line) (joined_lines (n + 1) rest))

pub joined_to-last : (m n : ℕ) (text line : List ℕ) (rest : List (List ℕ)) → is_continued line ≡ false →
    joined_to m text (joined_lines n (line ∷ rest)) ≡ line_of m (text ++ part line) ∷ joined_lines (n + 1) rest
unfolding joined_lines joined_to
joined_to-last m n text line rest last = rw last refl

-- an empty text in front changes nothing
joined_to-own : (n : ℕ) (line : List ℕ) (rest : List (List ℕ)) → joined_to n [] (joined_lines n (line ∷ rest)) ≡ joined_lines n (line ∷ rest)
unfolding joined_lines joined_to
joined_to-own n line rest =
    elim (cases_Bool (is_continued line)) [ inl does ↦ rw does (joined_to-joined_to n n [] (part line) (joined_lines (n + 1) rest)) | inr fails ↦ rw fails refl ]

pub kept-own : (n : ℕ) (rest : List (List ℕ)) → kept_lines (joined_to n [] (joined_lines n rest)) ≡ kept_lines (joined_lines n rest)
unfolding joined_lines joined_to kept_lines trimmed
kept-own n [] = refl
kept-own n (line ∷ rest) = ap kept_lines (joined_to-own n line rest)

pub first_too_long-own : (n : ℕ) (rest : List (List ℕ)) → first_too_long (joined_to n [] (joined_lines n rest)) ≡ first_too_long (joined_lines n rest)
unfolding joined_lines joined_to first_too_long
first_too_long-own n [] = refl
first_too_long-own n (line ∷ rest) = ap first_too_long (joined_to-own n line rest)

pub kept-cons : (line : Line) (lines : List Line) → kept_lines (line ∷ lines) ≡ kept_lines (line ∷ []) ++ kept_lines lines
unfolding kept_lines
kept-cons line lines = elim (cases_Bool (nat_lt 0 (length (trimmed line.text)))) [ inl does ↦ rw does refl | inr fails ↦ rw fails refl ]

-- the number of a first fault is at least `n`
abbrev pub IsFrom : ℕ → Option ℕ → Type 0
IsFrom n None = Unit {0}
IsFrom n (Some line) = n ≤ line

pub from_later : (m n : ℕ) (o : Option ℕ) → m ≤ n → IsFrom n o → IsFrom m o
from_later m n None later from = tt
from_later m n (Some line) later from = omega arith

pub first_not_text-from : (n : ℕ) (lines : List (List ℕ)) → IsFrom n (first_not_text n lines)
unfolding first_not_text
first_not_text-from n [] = tt
first_not_text-from n (line ∷ rest) =
    elim (cases_Bool (is_utf8 line)) [ inl does ↦ rw does (from_later n (n + 1) (first_not_text (n + 1) rest) (omega arith) (first_not_text-from (n + 1) rest)) | inr fails ↦ rw fails (omega arith) ]

-- each joined line from `n` on has a number of at least `n`
abbrev AreFrom : ℕ → List Line → Type 0
AreFrom n [] = Unit {0}
AreFrom n (line ∷ lines) = (n ≤ line.number) × AreFrom n lines

AreFrom-later : (m n : ℕ) (lines : List Line) → m ≤ n → AreFrom n lines → AreFrom m lines
AreFrom-later m n [] later from = tt
AreFrom-later m n (line ∷ lines) later from = (omega (arith, from.0), AreFrom-later m n lines later from.1)

AreFrom-joined_to : (n : ℕ) (text : List ℕ) (lines : List Line) → AreFrom n lines → AreFrom n (joined_to n text lines)
unfolding joined_to
AreFrom-joined_to n text [] from = (omega arith, tt)
AreFrom-joined_to n text (line ∷ lines) from = (omega arith, from.1)

AreFrom-joined : (n : ℕ) (lines : List (List ℕ)) → AreFrom n (joined_lines n lines)
unfolding joined_lines
AreFrom-joined n [] = tt
AreFrom-joined n (line ∷ rest) =
    let later = AreFrom-later n (n + 1) (joined_lines (n + 1) rest) (omega arith) (AreFrom-joined (n + 1) rest) in
    elim (cases_Bool (is_continued line)) [
      | inl does ↦ rw does (AreFrom-joined_to n (part line) (joined_lines (n + 1) rest) later)
      | inr fails ↦ rw fails (omega arith, later)
    ]

first_too_long-from : (n : ℕ) (lines : List Line) → AreFrom n lines → IsFrom n (first_too_long lines)
unfolding first_too_long
first_too_long-from n [] from = tt
first_too_long-from n (line ∷ lines) from =
    elim (cases_Bool (nat_le (length line.text) LINE_LIMIT)) [ inl does ↦ rw does (first_too_long-from n lines from.1) | inr fails ↦ rw fails from.0 ]

pub first_too_long-joined_to : (m n : ℕ) (text : List ℕ) (rest : List (List ℕ)) → m ≤ n → IsFrom m (first_too_long (joined_to m text (joined_lines n rest)))
first_too_long-joined_to m n text rest ordered =
    first_too_long-from m (joined_to m text (joined_lines n rest)) (AreFrom-joined_to m text (joined_lines n rest) (AreFrom-later m n (joined_lines n rest) ordered (AreFrom-joined n rest)))

pub first_too_long-joined : (n : ℕ) (rest : List (List ℕ)) → IsFrom n (first_too_long (joined_lines n rest))
first_too_long-joined n rest = first_too_long-from n (joined_lines n rest) (AreFrom-joined n rest)

-- a joined line of too many bytes is the first one that is too long, whatever is joined to it
pub first_too_long-here : (m : ℕ) (text : List ℕ) (lines : List Line) → LINE_LIMIT < length text → first_too_long (joined_to m text lines) ≡ Some m
unfolding joined_to first_too_long
first_too_long-here m text [] long = rw (lt-leb (length text) LINE_LIMIT long) refl
first_too_long-here m text (line ∷ lines) long = rw (lt-leb (length (text ++ line.text)) LINE_LIMIT (omega (arith, length-append text line.text))) refl

pub first_too_long-line : (m : ℕ) (text : List ℕ) (lines : List Line) → LINE_LIMIT < length text → first_too_long (line_of m text ∷ lines) ≡ Some m
unfolding first_too_long
first_too_long-line m text lines long = rw (lt-leb (length text) LINE_LIMIT long) refl

pub first_too_long-fits : (m : ℕ) (text : List ℕ) (lines : List Line) → length text ≤ LINE_LIMIT → first_too_long (line_of m text ∷ lines) ≡ first_too_long lines
unfolding first_too_long
first_too_long-fits m text lines fits = rw (le-leb (length text) LINE_LIMIT fits) refl

-- a line that isn't UTF-8 comes first, where no line before it is too long
pub earlier-not_text : (line : ℕ) (long : Option ℕ) → IsFrom line long → earlier (Some line) long ≡ Some (NotText line)
earlier-not_text line None from = refl
earlier-not_text line (Some m) from = rw (le-leb line m from) refl

-- a line that is too long comes first, where each line up to it is UTF-8
pub earlier-too_long : (m : ℕ) (line : Option ℕ) → IsFrom (m + 1) line → earlier line (Some m) ≡ Some (TooLong m)
earlier-too_long m None from = refl
earlier-too_long m (Some line) from = rw (lt-leb line m (omega arith)) refl
