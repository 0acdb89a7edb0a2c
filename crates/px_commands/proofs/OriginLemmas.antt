-- A text has one first entry, and so one list of answers.
use Rattle.std.proofs.Common.{◌≡◌, ℕ, suc, ◌+◌, ◌≤◌, ◌<◌, Bool, true, false, ◌==◌, not, ◌&&◌, cond, List, [], ◌∷◌, ◌++◌, length, take, drop, get_or, Option, Some, None, refl, sym, ap, ◌∙◌, subst, arith, ltb, leb, add-one, take-append-drop, length-take-le, append_assoc, append-nil, length-append, inl, inr}
use Rattle.std.specs.Prelude.{unwrap_or, codes}
use Rattle.std.specs.List.{position, position_or_len}
use Rattle.std.proofs.lemmas.Bool.{ltb-true, leb-true, le-leb, lt-ltb, and_parts, eqb-true}
use Rattle.std.proofs.lemmas.List.Sums.{split_at_first, passes_at_first}
use Rattle.std.proofs.lemmas.Grind.{common_steps}
use Rattle.px_base.specs.Numbers.{decimal, all_digits, with_digits, is_digit}
use Rattle.px_base.specs.declared.dials.Answer.{Answer}
use Rattle.px_base.specs.declared.dials.Answer.TheVariants as answer
use Rattle.px_commands.specs.Origins.{plain_answer, BeginsEntry, BeginsCounted, BeginsWithWord, IsOrigin}
use Rattle.px_commands.specs.Entries.{is_line_feed, counted_front, entry_at, first_counted_entry}

-- what two equal options hold
held : {A : Type 0} (x y : A) → Some x ≡ Some y → x ≡ y
held x y e = ap (λ o. unwrap_or o x) e

-- what is read as a number is digits
decimal-digits : (most n : ℕ) (bs : List ℕ) → decimal most bs ≡ Some n → all_digits bs ≡ true
unfolding decimal
decimal-digits most n bs e = by (not (length bs == 0)) (all_digits bs) (leb (with_digits 0 bs) most) e
  where
    by : (x y z : Bool) → cond (x && (y && z)) (Some (with_digits 0 bs)) None ≡ Some n → y ≡ true
    by true true z h = refl
    by true false z h = (cc)
    by false y z h = (cc)

-- a digit is no LF
digit_no_lf : (b : ℕ) → is_digit b ≡ true → is_line_feed b ≡ false
digit_no_lf b h = grind (arith, common_steps)

-- the first LF of a text that begins with digits and an LF
first_lf : (ds rest : List ℕ) → all_digits ds ≡ true → position_or_len is_line_feed (ds ++ 10 ∷ rest) ≡ length ds
first_lf [] rest h = refl
first_lf (d ∷ ds) rest h =
    let p = and_parts (is_digit d) (all_digits ds) h in
    rw (digit_no_lf d p.0) (omega (arith, first_lf ds rest p.1))

take-front : (xs ys : List ℕ) → take (length xs) (xs ++ ys) ≡ xs
take-front xs ys = grind (arith, common_steps)

drop-front : (xs ys : List ℕ) (y : ℕ) → drop (length xs + 1) (xs ++ y ∷ ys) ≡ ys
drop-front [] ys y = refl
drop-front (x ∷ xs) ys y = rw (add-one (suc (length xs))) (rw add-one at (drop-front xs ys y))

drop-length : (xs ys : List ℕ) → drop (length xs) (xs ++ ys) ≡ ys
drop-length xs ys = grind (arith, common_steps)

-- an entry is the first entry
counted-front : (bytes rest : List ℕ) → counted_front (bytes ++ rest) (Some (length bytes)) ≡ Some (bytes, rest)
counted-front bytes rest =
    let fits : leb (length bytes) (length (bytes ++ rest)) ≡ true = le-leb _ _ (grind (arith, common_steps)) in
    rw (fits, take-front bytes rest, drop-length bytes rest) refl

entry-front : (ds bytes rest : List ℕ) → length ds ≤ 8 → decimal 99999999 ds ≡ Some (length bytes) → entry_at (ds ++ 10 ∷ (bytes ++ rest)) (Some (length ds)) ≡ Some (bytes, rest)
entry-front ds bytes rest short counts =
    let few : leb (length ds) 8 ≡ true = le-leb _ _ short in
    rw (few, drop-front ds (bytes ++ rest) 10, take-front ds (10 ∷ (bytes ++ rest)), counts) (counted-front bytes rest)

position-front : (ds rest : List ℕ) → all_digits ds ≡ true → position is_line_feed (ds ++ 10 ∷ rest) ≡ Some (length ds)
position-front ds rest h =
    let at = first_lf ds rest h in
    let inside : ltb (length ds) (length (ds ++ 10 ∷ rest)) ≡ true = lt-ltb _ _ (grind (arith, common_steps)) in
    rw (at, inside) refl

pub begins-first : (text bytes rest : List ℕ) → BeginsCounted text bytes rest → first_counted_entry text ≡ Some (bytes, rest)
unfolding first_counted_entry
begins-first text bytes rest h =
    let at = position-front h.digits (bytes ++ rest) (decimal-digits 99999999 (length bytes) h.digits h.counts) in
    rw (h.parts, at) (entry-front h.digits bytes rest h.short h.counts)

-- the first entry is an entry
counted-parts : (behind bytes rest : List ℕ) (n : Option ℕ) → counted_front behind n ≡ Some (bytes, rest) → (n ≡ Some (length bytes)) × (behind ≡ bytes ++ rest)
counted-parts behind bytes rest None e = (cc)
counted-parts behind bytes rest (Some n) e = by (leb n (length behind)) refl e
  where
    by : (b : Bool) → leb n (length behind) ≡ b → cond {A = Option (List ℕ × List ℕ)} b (Some (take n behind, drop n behind)) None ≡ Some (bytes, rest) → (Some n ≡ Some (length bytes)) × (behind ≡ bytes ++ rest)
    by false h k = (cc)
    by true h k =
        let l : n ≤ length behind = leb-true _ _ h in
        let pair : ◌≡◌ {A = List ℕ × List ℕ} (take n behind, drop n behind) (bytes, rest) = held _ _ k in
        let t : take n behind ≡ bytes = ap (λ (p : List ℕ × List ℕ). p.0) pair in
        let d : drop n behind ≡ rest = ap (λ (p : List ℕ × List ℕ). p.1) pair in
        (ap Some (sym (length-take-le n behind l) ∙ ap length t), sym (take-append-drop n behind) ∙ ap (λ xs. xs ++ drop n behind) t ∙ ap (λ xs. bytes ++ xs) d)

entry-begins : (text bytes rest : List ℕ) (at : Option ℕ) → ((i : ℕ) → at ≡ Some i → text ≡ take i text ++ 10 ∷ drop (i + 1) text) → ((i : ℕ) → at ≡ Some i → i < length text) → entry_at text at ≡ Some (bytes, rest) → BeginsCounted text bytes rest
entry-begins text bytes rest None cut within e = (cc)
entry-begins text bytes rest (Some i) cut within e = by (leb i 8) refl e
  where
    by : (b : Bool) → leb i 8 ≡ b → cond b (counted_front (drop (i + 1) text) (decimal 99999999 (take i text))) None ≡ Some (bytes, rest) → BeginsCounted text bytes rest
    by false h k = (cc)
    by true h k =
        let p = counted-parts (drop (i + 1) text) bytes rest (decimal 99999999 (take i text)) k in
        record {
          digits = take i text;
          short = omega (arith, length-take-le i text (omega (arith, within i refl)), leb-true _ _ h);
          counts = p.0;
          parts = cut i refl ∙ ap (λ xs. take i text ++ 10 ∷ xs) p.1;
        }

-- a text by its first LF
cut_at_lf : (text : List ℕ) (i : ℕ) → position is_line_feed text ≡ Some i → (i < length text) × (text ≡ take i text ++ 10 ∷ drop (i + 1) text)
cut_at_lf text i e = by (ltb (position_or_len is_line_feed text) (length text)) refl e
  where
    by : (b : Bool) → ltb (position_or_len is_line_feed text) (length text) ≡ b → cond b (Some (position_or_len is_line_feed text)) None ≡ Some i → (i < length text) × (text ≡ take i text ++ 10 ∷ drop (i + 1) text)
    by false h k = (cc)
    by true h k =
        let l : position_or_len is_line_feed text < length text = ltb-true _ _ h in
        let same : position_or_len is_line_feed text ≡ i = (cc) in
        let here : get_or text (position_or_len is_line_feed text) 10 ≡ 10 = eqb-true _ _ (passes_at_first is_line_feed text 10 l) in
        let parts : text ≡ take (position_or_len is_line_feed text) text ++ 10 ∷ drop (position_or_len is_line_feed text + 1) text = split_at_first is_line_feed text 10 l ∙ ap (λ b. take (position_or_len is_line_feed text) text ++ b ∷ drop (position_or_len is_line_feed text + 1) text) here in
        (subst (λ (j : ℕ). j < length text) same l, subst (λ (j : ℕ). text ≡ take j text ++ 10 ∷ drop (j + 1) text) same parts)

pub first-begins : (text bytes rest : List ℕ) → first_counted_entry text ≡ Some (bytes, rest) → BeginsCounted text bytes rest
unfolding first_counted_entry
first-begins text bytes rest e = entry-begins text bytes rest (position is_line_feed text) (λ i k. (cut_at_lf text i k).1) (λ i k. (cut_at_lf text i k).0) e

-- ---- word lines

cancel : (word xs ys : List ℕ) → word ++ xs ≡ word ++ ys → xs ≡ ys
cancel word xs ys e = sym (drop-length word xs) ∙ ap (drop (length word)) e ∙ drop-length word ys

-- one word line ends in one place
one_word : (word text rest other : List ℕ) → BeginsWithWord word text rest → BeginsWithWord word text other → rest ≡ other
one_word word text rest other (inl h) (inl k) = tail_is (cancel word (10 ∷ rest) (10 ∷ other) (sym h ∙ k))
  where
    tail_is : 10 ∷ rest ≡ 10 ∷ other → rest ≡ other
    tail_is e = ap (drop 1) e
one_word word text rest other (inl h) (inr k) = absurd (omega (arith, ap length (sym h ∙ k.0), length-append word (10 ∷ rest)))
one_word word text rest other (inr h) (inl k) = absurd (omega (arith, ap length (sym k ∙ h.0), length-append word (10 ∷ other)))
one_word word text rest other (inr h) (inr k) = h.1 ∙ sym k.1

-- what stands in the word stands in the text
word_at : (word text rest : List ℕ) (i : ℕ) → i < length word → BeginsWithWord word text rest → get_or text i 0 ≡ get_or word i 0
word_at word text rest i within (inl h) = ap (λ (xs : List ℕ). get_or xs i 0) h ∙ grind (arith, common_steps, within)
word_at word text rest i within (inr h) = ap (λ (xs : List ℕ). get_or xs i 0) h.0

-- a word line isn't the other one
no_two : (text rest other : List ℕ) → BeginsWithWord (codes "no-name") text rest → BeginsWithWord (codes "not-reached") text other → ⊥
no_two text rest other h k =
    let a : get_or text 2 0 ≡ 45 = word_at (codes "no-name") text rest 2 (omega arith) h in
    let b : get_or text 2 0 ≡ 116 = word_at (codes "not-reached") text other 2 (omega arith) k in
    omega (arith, a, b)

-- an entry of bytes begins with a digit
digit_first : (text bytes rest : List ℕ) → BeginsCounted text bytes rest → is_digit (get_or text 0 0) ≡ true
unfolding decimal
digit_first text bytes rest h = by h.digits h.counts h.parts
  where
    by : (ds : List ℕ) → decimal 99999999 ds ≡ Some (length bytes) → text ≡ ds ++ 10 ∷ (bytes ++ rest) → is_digit (get_or text 0 0) ≡ true
    by [] counts parts = (cc)
    by (d ∷ ds) counts parts = rw parts (and_parts (is_digit d) (all_digits ds) (decimal-digits 99999999 (length bytes) (d ∷ ds) counts)).0

no_word : (word text bytes rest other : List ℕ) → 0 < length word → get_or word 0 0 ≡ 110 → BeginsCounted text bytes rest → BeginsWithWord word text other → ⊥
no_word word text bytes rest other some n h k =
    let first : get_or text 0 0 ≡ 110 = word_at word text other 0 some k ∙ n in
    no_digit (rw first at (digit_first text bytes rest h))
  where
    no_digit : is_digit 110 ≡ true → ⊥
    no_digit e = absurd (cc)

pub word_none : (word text rest : List ℕ) → ((other : List ℕ) → text ≡ word ++ other → ⊥) → BeginsWithWord word text rest → ⊥
word_none word text rest none (inl e) = none (10 ∷ rest) e
word_none word text rest none (inr h) = none [] (h.0 ∙ sym (append-nil word))

pub word_bare : (word text : List ℕ) → text ≡ word ++ [] → BeginsWithWord word text []
word_bare word text e = inr (e ∙ append-nil word, refl)

pub word_line : (word text rest : List ℕ) → text ≡ word ++ 10 ∷ rest → BeginsWithWord word text rest
word_line word text rest e = inl e

pub word_other : (word text rest more : List ℕ) (x : ℕ) → text ≡ word ++ x ∷ more → (x ≡ 10 → ⊥) → BeginsWithWord word text rest → ⊥
word_other word text rest more x e other (inl h) =
    let same : x ≡ 10 = ap (λ (zs : List ℕ). get_or zs 0 0) (cancel word (x ∷ more) (10 ∷ rest) (sym e ∙ h)) in
    other same
word_other word text rest more x e other (inr h) = absurd (omega (arith, ap length (sym h.0 ∙ e), length-append word (x ∷ more)))

pub ruleset word_rules = (word_none, word_bare, word_line, word_other)

-- ---- a text begins with one entry at most

one_entry : (text rest other : List ℕ) (a b : Answer) → BeginsEntry text a rest → BeginsEntry text b other → (a ≡ b) × (rest ≡ other)
one_entry text rest other answer.NoName answer.NoName h k = (refl, one_word _ text rest other h k)
one_entry text rest other answer.NoName answer.NotReached h k = absurd (no_two text rest other h k)
one_entry text rest other answer.NoName (answer.Link bytes cuts rs ws) h k = absurd (no_word (codes "no-name") text bytes other rest (omega arith) refl k.1 h)
one_entry text rest other answer.NotReached answer.NoName h k = absurd (no_two text other rest k h)
one_entry text rest other answer.NotReached answer.NotReached h k = (refl, one_word _ text rest other h k)
one_entry text rest other answer.NotReached (answer.Link bytes cuts rs ws) h k = absurd (no_word (codes "not-reached") text bytes other rest (omega arith) refl k.1 h)
one_entry text rest other (answer.Link bytes cuts rs ws) answer.NoName h k = absurd (no_word (codes "no-name") text bytes rest other (omega arith) refl h.1 k)
one_entry text rest other (answer.Link bytes cuts rs ws) answer.NotReached h k = absurd (no_word (codes "not-reached") text bytes rest other (omega arith) refl h.1 k)
one_entry text rest other (answer.Link bytes cuts rs ws) (answer.Link bytes2 cuts2 rs2 ws2) h k =
    let both : ◌≡◌ {A = Option (List ℕ × List ℕ)} (Some (bytes, rest)) (Some (bytes2, other)) = sym (begins-first text bytes rest h.1) ∙ begins-first text bytes2 other k.1 in
    let pair : ◌≡◌ {A = List ℕ × List ℕ} (bytes, rest) (bytes2, other) = held _ _ both in
    (h.0 ∙ ap (λ (p : List ℕ × List ℕ). plain_answer p.0) pair ∙ sym k.0, ap (λ (p : List ℕ × List ℕ). p.1) pair)

-- an entry of bytes that was read
pub bytes_entry : (text bytes rest : List ℕ) → first_counted_entry text ≡ Some (bytes, rest) → BeginsEntry text (plain_answer bytes) rest
bytes_entry text bytes rest e = (refl, first-begins text bytes rest e)

-- no entry was read
pub no_entry : (text : List ℕ) → ((rest : List ℕ) → BeginsWithWord (codes "no-name") text rest → ⊥) → ((rest : List ℕ) → BeginsWithWord (codes "not-reached") text rest → ⊥) → first_counted_entry text ≡ None
    → (a : Answer) (rest : List ℕ) → BeginsEntry text a rest → ⊥
no_entry text name reach none answer.NoName rest h = name rest h
no_entry text name reach none answer.NotReached rest h = reach rest h
no_entry text name reach none (answer.Link bytes cuts rs ws) rest h =
    let both : ◌≡◌ {A = Option (List ℕ × List ℕ)} (Some (bytes, rest)) None = sym (begins-first text bytes rest h.1) ∙ none in
    (cc)

-- ---- one entry more

origin_before : (text rest : List ℕ) (a : Answer) (answers : List Answer) → BeginsEntry text a rest → 0 < length text → IsOrigin text answers → (more : List Answer) × (answers ≡ a ∷ more) × IsOrigin rest more
origin_before text rest a [] e some h = absurd (omega (arith, ap length h))
origin_before text rest a (b ∷ more) e some h =
    let same = one_entry text h.0 rest b a h.1 e in
    (more, ap (λ x. x ∷ more) same.0, subst (λ (xs : List ℕ). IsOrigin xs more) same.1 h.2)

pub no_origin : (text : List ℕ) (answers : List Answer) → ((a : Answer) (rest : List ℕ) → BeginsEntry text a rest → ⊥) → 0 < length text → IsOrigin text answers → ⊥
no_origin text [] none some h = omega (arith, ap length h)
no_origin text (a ∷ more) none some h = none a h.0 h.1

-- answers were read from the front of a text, and the rest is to come
pub record ReadsOrigin (text rest : List ℕ) (answers : List Answer) : Type 0 where
  pub so_far : (more : List Answer) → IsOrigin rest more → IsOrigin text (answers ++ more)
  pub to_come : (all : List Answer) → IsOrigin text all → (more : List Answer) × (all ≡ answers ++ more) × IsOrigin rest more

pub one_more : (text rest behind : List ℕ) (answers : List Answer) (a : Answer) → BeginsEntry rest a behind → 0 < length rest → ReadsOrigin text rest answers → ReadsOrigin text behind (answers ++ a ∷ [])
one_more text rest behind answers a e some h = record {
  so_far = λ more k. rw append_assoc (h.so_far (a ∷ more) (behind, e, k));
  to_come = λ all k.
      let left = h.to_come all k in
      let more = origin_before rest behind a left.0 e some left.2 in
      (more.0, left.1 ∙ ap (λ xs. answers ++ xs) more.1 ∙ sym (append_assoc answers (a ∷ []) more.0), more.2);
}

-- nothing is left
pub whole : (text rest : List ℕ) (answers : List Answer) → length rest ≡ 0 → ReadsOrigin text rest answers → IsOrigin text answers
whole text [] answers none h = rw append-nil at (h.so_far [] refl)
whole text (b ∷ rest) answers none h = absurd (omega arith)
