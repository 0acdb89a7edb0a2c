-- The lines of bytes: the first one, and the lines of bytes that are lines one after another.
use Rattle.std.proofs.Common.{◌≡◌, ℕ, zero, suc, ◌<◌, Bool, true, false, ◌==◌, cond, List, [], ◌∷◌, ◌++◌, length, take, get_or, refl, sym, ap, ◌∙◌, arith, append_assoc, eqb-true, IsTrue, All, not, ◌&&◌}
use Rattle.std.specs.List.{concat, list_all}
use Rattle.std.proofs.lemmas.List.Folds.{list_all-append}
use Rattle.std.proofs.lemmas.List.Elements.{All-head, All-tail, All-cons, All-nil}
use Rattle.px_head.specs.Blocks.{whole_lines, byte_before_lines, NoFeed, IsLine}

none-at : (c d : Bool) (b : ℕ) (ls : List (List ℕ)) → IsTrue (not c && d) → (IsTrue d → ls ≡ []) → cond c ((10 ∷ []) ∷ ls) (byte_before_lines b ls) ≡ []
none-at true d b ls n e = absurd (cc)
none-at false d b ls n e = ap (byte_before_lines b) (e n)

-- bytes without LF have no whole line
pub lines-none : (bs : List ℕ) → NoFeed bs → whole_lines bs ≡ []
unfolding whole_lines
lines-none [] n = refl
lines-none (b ∷ bs) n = none-at (b == 10) (list_all (λ b. not (b == 10)) bs) b (whole_lines bs) n (λ m. lines-none bs m)

-- what has LF nowhere
feed-cons : (c d : Bool) → (c ≡ true → ⊥) → IsTrue d → IsTrue (not c && d)
feed-cons true d h n = absurd (h refl)
feed-cons false d h n = n

pub no-feed : (bs : List ℕ) → ((k : ℕ) → k < length bs → (get_or bs k 0 == 10) ≡ true → ⊥) → NoFeed bs
no-feed [] h = refl
no-feed (b ∷ bs) h =
    feed-cons (b == 10) (list_all (λ b. not (b == 10)) bs) (h 0 (omega arith)) (no-feed bs (λ k l p. h (suc k) (omega arith) p))

pub feed-join : (xs ys : List ℕ) → NoFeed xs → NoFeed ys → NoFeed (xs ++ ys)
feed-join xs ys x y = list_all-append (λ b. not (b == 10)) xs ys ∙ ap (λ (t : Bool). t && list_all (λ b. not (b == 10)) ys) x ∙ y

-- a line with more in front of it
pub line-behind : (text l : List ℕ) → NoFeed text → IsLine l → IsLine (text ++ l)
line-behind text l n is =
    record { text = text ++ is.text; is = ap (λ (xs : List ℕ). text ++ xs) is.is ∙ sym (append_assoc text is.text (10 ∷ [])); no_feed = feed-join text is.text n is.no_feed }

line-cons : (b : ℕ) (l : List ℕ) → ((b == 10) ≡ true → ⊥) → IsLine l → IsLine (b ∷ l)
line-cons b l h is =
    record { text = b ∷ is.text; is = ap (λ (xs : List ℕ). b ∷ xs) is.is; no_feed = feed-cons (b == 10) (list_all (λ b. not (b == 10)) is.text) h is.no_feed }

-- the bytes up to and with the first LF are a line
pub first-line : (bs : List ℕ) (k : ℕ) → k < length bs → ((j : ℕ) → j < k → (get_or bs j 0 == 10) ≡ true → ⊥) → (get_or bs k 0 == 10) ≡ true → IsLine (take (suc k) bs)
first-line [] k l h p = absurd (omega arith)
first-line (b ∷ bs) zero l h p = record { text = []; is = ap (λ (n : ℕ). n ∷ []) (eqb-true b 10 p); no_feed = refl }
first-line (b ∷ bs) (suc k) l h p =
    line-cons b (take (suc k) bs) (h 0 (omega arith)) (first-line bs k (omega arith) (λ j i q. h (suc j) (omega arith) q) p)

text-at : (c d : Bool) (b : ℕ) (l : List ℕ) (ls more : List (List ℕ)) → IsTrue (not c && d) → (IsTrue d → ls ≡ l ∷ more) → cond c ((10 ∷ []) ∷ ls) (byte_before_lines b ls) ≡ (b ∷ l) ∷ more
text-at true d b l ls more t e = absurd (cc)
text-at false d b l ls more t e = ap (byte_before_lines b) (e t)

lines-text : (text rest : List ℕ) → NoFeed text → whole_lines (text ++ 10 ∷ rest) ≡ (text ++ 10 ∷ []) ∷ whole_lines rest
unfolding whole_lines
lines-text [] rest t = refl
lines-text (b ∷ text) rest t =
    text-at (b == 10) (list_all (λ b. not (b == 10)) text) b (text ++ 10 ∷ []) (whole_lines (text ++ 10 ∷ rest)) (whole_lines rest) t (λ u. lines-text text rest u)

-- a line stands before the lines of what follows it
pub lines-line : (l rest : List ℕ) → IsLine l → whole_lines (l ++ rest) ≡ l ∷ whole_lines rest
lines-line l rest is =
    rw is.is (rw append_assoc (lines-text is.text rest is.no_feed))

-- and so do several
pub lines-concat : (ls : List (List ℕ)) (rest : List ℕ) → All IsLine ls → whole_lines (concat ls ++ rest) ≡ ls ++ whole_lines rest
lines-concat [] rest all = refl
lines-concat (l ∷ ls) rest all =
    rw append_assoc (lines-line l (concat ls ++ rest) (All-head IsLine l ls all) ∙ ap (λ (xs : List (List ℕ)). l ∷ xs) (lines-concat ls rest (All-tail IsLine l ls all)))

-- bytes are their lines and a rest
pub record AreLines (bytes : List ℕ) (ls : List (List ℕ)) : Type 0 where
  pub all : All IsLine ls
  pub rest : List ℕ
  pub is : bytes ≡ concat ls ++ rest

are-put : (b : ℕ) (bs : List ℕ) (ls : List (List ℕ)) → ((b == 10) ≡ true → ⊥) → AreLines bs ls → AreLines (b ∷ bs) (byte_before_lines b ls)
are-put b bs [] n are = record { all = are.all; rest = b ∷ bs; is = refl }
are-put b bs (l ∷ ls) n are =
    record {
      all = All-cons IsLine (b ∷ l) ls (line-cons b l n (All-head IsLine l ls are.all)) (All-tail IsLine l ls are.all);
      rest = are.rest;
      is = ap (λ (xs : List ℕ). b ∷ xs) are.is;
    }

are-at : (c : Bool) (b : ℕ) (bs : List ℕ) (ls : List (List ℕ)) → (b == 10) ≡ c → AreLines bs ls → AreLines (b ∷ bs) (cond c ((10 ∷ []) ∷ ls) (byte_before_lines b ls))
are-at true b bs ls e are =
    record {
      all = All-cons IsLine (10 ∷ []) ls (record { text = []; is = refl; no_feed = refl }) are.all;
      rest = are.rest;
      is = ap (λ (n : ℕ). n ∷ bs) (eqb-true b 10 e) ∙ ap (λ (xs : List ℕ). 10 ∷ xs) are.is;
    }
are-at false b bs ls e are = are-put b bs ls (λ hit. absurd (cc)) are

pub are-lines : (bs : List ℕ) → AreLines bs (whole_lines bs)
unfolding whole_lines
are-lines [] = record { all = All-nil IsLine; rest = []; is = refl }
are-lines (b ∷ bs) = are-at (b == 10) b bs (whole_lines bs) refl (are-lines bs)
