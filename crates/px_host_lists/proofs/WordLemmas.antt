-- The next word of a line.
use Rattle.std.proofs.Common.{◌≡◌, ◌≢◌, ℕ, suc, ◌+◌, ◌<◌, Bool, true, false, cond, List, [], ◌∷◌, length, take, drop, refl, ap, sym, subst, ◌∙◌, arith, true≢false}
use Rattle.std.specs.Prelude.{nat_lt, filter, not}
use Rattle.std.specs.List.{onto_first, position_or_len, prefix_len, slice_split}
use Rattle.std.proofs.lemmas.List.Splits.{slice_split-cons_no, slice_split-cons_yes}
use Rattle.std.proofs.lemmas.Bool.{ltb-false}
use Rattle.px_host_lists.specs.Words.{before_comment, begins_comment, is_space, line_words, used_words}

-- the parts that aren't empty
abbrev filled : List (List ℕ) → List (List ℕ)
filled parts = filter (λ word. nat_lt 0 (length word)) parts

one-more : (n : ℕ) → 1 + n ≡ suc n
one-more n = omega arith

space-word : (b : ℕ) (text : List ℕ) → is_space b ≡ true → line_words (b ∷ text) ≡ line_words text
unfolding line_words
space-word b text e = ap filled (slice_split-cons_yes is_space b text e)

front_by : (b : ℕ) (text : List ℕ) (s : Bool) → is_space b ≡ s → line_words (drop (prefix_len is_space text) text) ≡ line_words text →
    line_words (drop (cond s (1 + prefix_len is_space text) 0) (b ∷ text)) ≡ line_words (b ∷ text)
front_by b text true e same = ap (λ n. line_words (drop n (b ∷ text))) (one-more (prefix_len is_space text)) ∙ (same ∙ sym (space-word b text e))
front_by b text false e same = refl

-- white space at the front has no words
words-front : (text : List ℕ) → line_words (drop (prefix_len is_space text) text) ≡ line_words text
words-front [] = refl
words-front (b ∷ text) = front_by b text (is_space b) refl (words-front text)

-- a text cut at its first white space
record IsCut (text : List ℕ) (n : ℕ) : Type 0 where
  parts : List (List ℕ)
  first : slice_split is_space text ≡ take n text ∷ parts
  more : filled parts ≡ line_words (drop n text)

cut_by : (b : ℕ) (text : List ℕ) (s : Bool) → is_space b ≡ s → IsCut text (position_or_len is_space text) → IsCut (b ∷ text) (cond (not s) (1 + position_or_len is_space text) 0)
unfolding line_words
cut_by b text true e cut = record { parts = slice_split is_space text; first = slice_split-cons_yes is_space b text e; more = sym (space-word b text e) }
cut_by b text false e cut =
    subst (IsCut (b ∷ text)) (sym (one-more (position_or_len is_space text)))
    (record { parts = cut.parts; first = slice_split-cons_no is_space b text e ∙ ap (onto_first b) cut.first; more = cut.more })

cut : (text : List ℕ) → IsCut text (position_or_len is_space text)
unfolding line_words
cut [] = record { parts = []; first = refl; more = refl }
cut (b ∷ text) = cut_by b text (is_space b) refl (cut text)

word_by : (first : List ℕ) (parts : List (List ℕ)) (b : Bool) → nat_lt 0 (length first) ≡ b → 0 < length first → cond b (first ∷ filled parts) (filled parts) ≡ first ∷ filled parts
word_by first parts true e some = refl
word_by first parts false e some = absurd (omega (arith, ltb-false 0 (length first) e))

words-first : (n : ℕ) (text : List ℕ) → IsCut text n → 0 < length (take n text) → line_words text ≡ take n text ∷ line_words (drop n text)
unfolding line_words
words-first n text is some = ap filled is.first ∙ (word_by (take n text) is.parts (nat_lt 0 (length (take n text))) refl some ∙ ap (λ l. take n text ∷ l) is.more)

-- where a word begins
record Begins (text : List ℕ) (n : ℕ) : Type 0 where
  words : line_words text ≡ take n text ∷ line_words (drop n text)
  same : begins_comment (take n text) ≡ begins_comment text

begins_suc : (b : ℕ) (text : List ℕ) (n : ℕ) → IsCut (b ∷ text) (suc n) → Begins (b ∷ text) (suc n)
begins_suc b text n is = record { words = words-first (suc n) (b ∷ text) is (omega arith); same = refl }

begins_by : (b : ℕ) (text : List ℕ) (s : Bool) → s ≡ false → IsCut (b ∷ text) (cond (not s) (1 + position_or_len is_space text) 0) → Begins (b ∷ text) (cond (not s) (1 + position_or_len is_space text) 0)
begins_by b text true e is = absurd (true≢false e)
begins_by b text false e is =
    subst (Begins (b ∷ text)) (sym (one-more (position_or_len is_space text)))
    (begins_suc b text (position_or_len is_space text) (subst (IsCut (b ∷ text)) (one-more (position_or_len is_space text)) is))

begins : (b : ℕ) (text : List ℕ) → is_space b ≡ false → Begins (b ∷ text) (position_or_len is_space (b ∷ text))
begins b text e = begins_by b text (is_space b) e (cut (b ∷ text))

stops_by : (x : ℕ) (text : List ℕ) (b : ℕ) (more : List ℕ) (s : Bool) → is_space x ≡ s → (drop (prefix_len is_space text) text ≡ b ∷ more → is_space b ≡ false) →
    drop (cond s (1 + prefix_len is_space text) 0) (x ∷ text) ≡ b ∷ more → is_space b ≡ false
stops_by x text b more true is below e = below (ap (λ n. drop n (x ∷ text)) (sym (one-more (prefix_len is_space text))) ∙ e)
stops_by x text b more false is below e = ap is_space (let same : b ≡ x = cc in same) ∙ is

-- no white space stands behind the white space at the front
stops : (text : List ℕ) (b : ℕ) (more : List ℕ) → drop (prefix_len is_space text) text ≡ b ∷ more → is_space b ≡ false
stops [] b more e = absurd (cc)
stops (x ∷ text) b more e = stops_by x text b more (is_space x) refl (stops text b more) e

uncommented_by : (word : List ℕ) (words : List (List ℕ)) (b : Bool) → begins_comment word ≡ b → before_comment (word ∷ words) ≡ cond b [] (word ∷ before_comment words)
unfolding before_comment
uncommented_by word words b e = ap (λ v. cond v [] (word ∷ before_comment words)) e

used-front : (text rest : List ℕ) → rest ≡ drop (prefix_len is_space text) text → used_words text ≡ before_comment (line_words rest)
unfolding used_words
used-front text rest e = ap before_comment (sym (words-front text) ∙ ap line_words (sym e))

-- white space alone has no words
pub used-none : (text rest : List ℕ) → rest ≡ drop (prefix_len is_space text) text → length rest ≡ 0 → used_words text ≡ []
unfolding before_comment line_words
used-none text [] e none = used-front text [] e
used-none text (b ∷ rest) e none = absurd (omega (arith, none))

-- a comment has no words
pub used-comment : (text rest : List ℕ) → rest ≡ drop (prefix_len is_space text) text → begins_comment rest ≡ true → used_words text ≡ []
used-comment text [] e is = absurd (true≢false (sym is))
used-comment text (b ∷ rest) e is =
    let at : Begins (b ∷ rest) (position_or_len is_space (b ∷ rest)) = begins b rest (stops text b rest (sym e)) in
    used-front text (b ∷ rest) e
    ∙ (ap before_comment at.words ∙ uncommented_by (take (position_or_len is_space (b ∷ rest)) (b ∷ rest)) (line_words (drop (position_or_len is_space (b ∷ rest)) (b ∷ rest))) true (at.same ∙ is))

-- the next word, and the words of what follows it
pub used-some : (text rest : List ℕ) (n : ℕ) → rest ≡ drop (prefix_len is_space text) text → length rest ≢ 0 → begins_comment rest ≡ false → n ≡ position_or_len is_space rest →
    used_words text ≡ take n rest ∷ used_words (drop n rest)
unfolding used_words
used-some text [] n e some is at = absurd (some refl)
used-some text (b ∷ rest) n e some is at =
    let here : Begins (b ∷ rest) n = subst (Begins (b ∷ rest)) (sym at) (begins b rest (stops text b rest (sym e))) in
    used-front text (b ∷ rest) e
    ∙ (ap before_comment here.words ∙ uncommented_by (take n (b ∷ rest)) (line_words (drop n (b ∷ rest))) false (here.same ∙ is))
