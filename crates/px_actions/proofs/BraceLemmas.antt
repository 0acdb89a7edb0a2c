-- Texts as they count, their pieces and their words.
use Rattle.std.proofs.Common.{◌≡◌, ℕ, zero, suc, ◌+◌, ◌<◌, Bool, true, false, List, [], ◌∷◌, length, take, drop, refl, sym, ◌∙◌, arith, filter, add-one}
use Rattle.std.specs.List.{onto_first}
use Rattle.std.specs.Prelude.{not, ◌==◌, ◌&&◌, if◌then◌else◌}
use Rattle.px_base.specs.Blanks.{is_blank, trim_front}
use Rattle.px_actions.specs.Braces.{counted_text, counted_byte, is_behind, open_after, depths, pieces, piece_length, words}

pub counted_length : (behind : Bool) (text : List ℕ) → length (counted_text behind text) ≡ length text
counted_length behind [] = refl
counted_length behind (b ∷ rest) = grind (arith, counted_length (is_behind behind b) rest)

-- the pieces behind the first
abbrev later : List ℕ → List ℕ → List (List ℕ)
later [] opened = []
later (b ∷ rest) [] = []
later (b ∷ rest) (o ∷ opened) = if is_blank b && o == 0 then pieces rest opened else later rest opened

abbrev is_some_piece : List ℕ → Bool
is_some_piece piece = not (length piece == 0)

split-step : (gap : Bool) (b : ℕ) (rest : List ℕ) (n : ℕ) (all behind : List (List ℕ)) → all ≡ take n rest ∷ behind
    → (if gap then [] ∷ all else onto_first b all) ≡ take (if gap then 0 else n + 1) (b ∷ rest) ∷ (if gap then all else behind)
split-step true b rest n all behind e = refl
split-step false b rest n all behind e = rw (e, add-one) refl

pieces-first : (text opened : List ℕ) → pieces text opened ≡ take (piece_length text opened) text ∷ later text opened
pieces-first [] opened = refl
pieces-first (b ∷ rest) [] = refl
pieces-first (b ∷ rest) (o ∷ opened) =
    split-step (is_blank b && o == 0) b rest (piece_length rest opened) (pieces rest opened) (later rest opened) (pieces-first rest opened)

-- white space is no brace and no backslash
blank_opens : (b : ℕ) (behind : Bool) → is_blank b ≡ true → open_after 0 (counted_byte behind b) ≡ 0
blank_opens b behind h = grind arith

blank_behind : (b : ℕ) (behind : Bool) → is_blank b ≡ true → is_behind behind b ≡ false
blank_behind b behind h = grind arith

-- white space at the front changes no word
words-blank : (b : ℕ) (rest : List ℕ) → is_blank b ≡ true → words (b ∷ rest) ≡ words rest
unfolding words
words-blank b rest h =
    let opens = blank_opens b false h in
    let behind = blank_behind b false h in
    rw (h, opens, behind) refl

front-step : (blank : Bool) (b : ℕ) (rest : List ℕ) → is_blank b ≡ blank → words (trim_front rest) ≡ words rest
    → words (if blank then trim_front rest else b ∷ rest) ≡ words (b ∷ rest)
front-step true b rest h e = e ∙ sym (words-blank b rest h)
front-step false b rest h e = refl

pub words-trim_front : (text : List ℕ) → words (trim_front text) ≡ words text
words-trim_front [] = refl
words-trim_front (b ∷ rest) = front-step (is_blank b) b rest refl (words-trim_front rest)

-- where a piece ends, the words go on as behind the white space
gap-words : (b opened : ℕ) (behind : Bool) (rest : List ℕ) → (is_blank b && opened == 0) ≡ true
    → filter is_some_piece (pieces rest (depths (open_after opened (counted_byte behind b)) (counted_text (is_behind behind b) rest))) ≡ words (b ∷ rest)
unfolding words
gap-words b opened behind rest h =
    let blank : is_blank b ≡ true = grind arith in
    let none : opened ≡ 0 = grind arith in
    let opens = blank_opens b behind blank in
    let goes_on = blank_behind b behind blank in
    rw none (rw (opens, goes_on) (sym (words-blank b rest blank)))

gap-step : (gap : Bool) (b n : ℕ) (rest opened : List ℕ) → (gap ≡ true → filter is_some_piece (pieces rest opened) ≡ words (b ∷ rest))
    → filter is_some_piece (later rest opened) ≡ words (drop n rest)
    → filter is_some_piece (if gap then pieces rest opened else later rest opened) ≡ words (drop (if gap then 0 else n + 1) (b ∷ rest))
gap-step true b n rest opened here e = here refl
gap-step false b n rest opened here e = rw add-one e

-- what stands behind the first piece has the words of the later pieces
later-words : (opened : ℕ) (behind : Bool) (text : List ℕ)
    → filter is_some_piece (later text (depths opened (counted_text behind text))) ≡ words (drop (piece_length text (depths opened (counted_text behind text))) text)
unfolding words
later-words opened behind [] = refl
later-words opened behind (b ∷ rest) =
    gap-step (is_blank b && opened == 0) b (piece_length rest (depths (open_after opened (counted_byte behind b)) (counted_text (is_behind behind b) rest))) rest (depths (open_after opened (counted_byte behind b)) (counted_text (is_behind behind b) rest))
    (gap-words b opened behind rest)
    (later-words (open_after opened (counted_byte behind b)) (is_behind behind b) rest)

begins-step : (blank : Bool) (b c : ℕ) (text rest : List ℕ) → is_blank c ≡ blank → (trim_front text ≡ b ∷ rest → is_blank b ≡ false)
    → (if blank then trim_front text else c ∷ text) ≡ b ∷ rest → is_blank b ≡ false
begins-step true b c text rest h e f = e f
begins-step false b c text rest h e f = grind arith

front_begins : (text rest : List ℕ) (b : ℕ) → trim_front text ≡ b ∷ rest → is_blank b ≡ false
front_begins [] rest b e = absurd (cc)
front_begins (c ∷ text) rest b e = begins-step (is_blank c) b c text rest refl (front_begins text rest b) e

filter_some : (piece : List ℕ) (others : List (List ℕ)) → 0 < length piece
    → filter is_some_piece (piece ∷ others) ≡ piece ∷ filter is_some_piece others
filter_some [] others h = absurd (omega arith)
filter_some (b ∷ rest) others h = grind arith

words-cut : (text word rest : List ℕ) (behind : List (List ℕ)) → pieces text (depths 0 (counted_text false text)) ≡ word ∷ behind → 0 < length word
    → filter is_some_piece behind ≡ words rest → words text ≡ word ∷ words rest
unfolding words
words-cut text word rest behind cut some e = rw (cut, filter_some word behind some, e) refl

take_some : (n b : ℕ) (rest : List ℕ) → 0 < n → 0 < length (take n (b ∷ rest))
take_some zero b rest h = absurd (omega arith)
take_some (suc n) b rest h = omega arith

words-first : (b : ℕ) (rest : List ℕ) (n : ℕ) → n ≡ piece_length (b ∷ rest) (depths 0 (counted_text false (b ∷ rest))) → 0 < n
    → words (b ∷ rest) ≡ take n (b ∷ rest) ∷ words (drop n (b ∷ rest))
words-first b rest n m some =
    let opened = depths 0 (counted_text false (b ∷ rest)) in
    let first = pieces-first (b ∷ rest) opened in
    let cut : pieces (b ∷ rest) opened ≡ take n (b ∷ rest) ∷ later (b ∷ rest) opened = rw m first in
    let behind : filter is_some_piece (later (b ∷ rest) opened) ≡ words (drop n (b ∷ rest)) = rw m (later-words 0 false (b ∷ rest)) in
    words-cut (b ∷ rest) (take n (b ∷ rest)) (drop n (b ∷ rest)) (later (b ∷ rest) opened) cut (take_some n b rest some) behind

piece_some : (b : ℕ) (rest : List ℕ) → is_blank b ≡ false → 0 < piece_length (b ∷ rest) (depths 0 (counted_text false (b ∷ rest)))
piece_some b rest h = rw h (omega arith)

-- the first word of a text, and the words behind it
pub words-split : (text front : List ℕ) (n : ℕ) → front ≡ trim_front text → 0 < length front → n ≡ piece_length front (depths 0 (counted_text false front))
    → (words text ≡ take n front ∷ words (drop n front)) × (0 < n)
words-split text [] n e some m = absurd (omega arith)
words-split text (b ∷ rest) n e some m =
    let no_blank = front_begins text rest b (sym e) in
    let more : 0 < n = rw m (piece_some b rest no_blank) in
    let same : words (b ∷ rest) ≡ words text = rw e (words-trim_front text) in
    (sym same ∙ words-first b rest n m more, more)
