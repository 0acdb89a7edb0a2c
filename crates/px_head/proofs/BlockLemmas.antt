-- Blocks: the walk by lines finds what the definition says, and what it says of the bytes.
use Rattle.std.proofs.Common.{◌≡◌, ℕ, ◌+◌, ◌-◌, ◌<◌, ◌≤◌, Bool, true, false, cond, List, [], ◌∷◌, ◌++◌, length, take, drop, Option, Some, None, option_map, refl, sym, ap, ◌∙◌, subst, arith, ltb, ltb-false, ltb-true, le-ltb, take-append-drop, length-take, append_assoc, append-nil, length-append, All, not}
use Rattle.std.specs.List.{sum_by, concat}
use Rattle.std.proofs.lemmas.Bool.{not-true}
use Rattle.std.proofs.lemmas.List.{take-append-le}
use Rattle.std.proofs.lemmas.List.Elements.{All-head, All-tail, All-cons, All-nil}
use Rattle.std.proofs.lemmas.List.Folds.{concat-append}
use Rattle.std.proofs.lemmas.List.Sums.{sum_by-cons}
use Rattle.std.proofs.Math.Seq.{take-append_seam, take-append-add}
use Rattle.px_head.specs.Blocks.{whole_lines, is_empty_line, up_to_empty, block_of, block_len, head_block_end, head_end, EndsWithin, IsLine, IsHeadBlock}
use Rattle.px_head.specs.declared.blocks.HeadEnd.{HeadEnd}
use Rattle.px_head.specs.declared.blocks.HeadEnd.TheVariants.{At, NotYet, Over}
use Rattle.px_head.proofs.LineLemmas.{AreLines, are-lines, lines-line, lines-concat}

abbrev pub len_of : Option (List (List ℕ)) → Option ℕ
len_of o = option_map (λ block. sum_by length block) o

-- the lines up to the first empty one
record UpTo (ls block : List (List ℕ)) : Type 0 where
  lines : List (List ℕ)
  last : List ℕ
  more : List (List ℕ)
  block_is : block ≡ lines ++ last ∷ []
  lines_are : ls ≡ lines ++ last ∷ more
  full : All (λ l. is_empty_line l ≡ false) lines
  empty : is_empty_line last ≡ true

up-at : (c : Bool) (l : List ℕ) (ls block : List (List ℕ)) (o : Option (List (List ℕ))) → is_empty_line l ≡ c → ((b : List (List ℕ)) → o ≡ Some b → UpTo ls b)
    → cond c (Some (l ∷ [])) (option_map (λ b. l ∷ b) o) ≡ Some block → UpTo (l ∷ ls) block
up-at true l ls block o is later e =
    record { lines = []; last = l; more = ls; block_is = (cc); lines_are = refl; full = All-nil (λ k. is_empty_line k ≡ false); empty = is }
up-at false l ls block None is later e = absurd (cc)
up-at false l ls block (Some b) is later e =
    let u = later b refl in
    let same : l ∷ b ≡ block = (cc) in
    record {
      lines = l ∷ u.lines;
      last = u.last;
      more = u.more;
      block_is = sym same ∙ ap (λ (xs : List (List ℕ)). l ∷ xs) u.block_is;
      lines_are = ap (λ (xs : List (List ℕ)). l ∷ xs) u.lines_are;
      full = All-cons (λ k. is_empty_line k ≡ false) l u.lines is u.full;
      empty = u.empty;
    }

up-to : (ls block : List (List ℕ)) → up_to_empty ls ≡ Some block → UpTo ls block
unfolding up_to_empty
up-to [] block e = absurd (cc)
up-to (l ∷ ls) block e = up-at (is_empty_line l) l ls block (up_to_empty ls) refl (λ b is. up-to ls b is) e

-- what a block is among lines
record IsBlockOf (ls block : List (List ℕ)) : Type 0 where
  front : List (List ℕ)
  lines : List (List ℕ)
  last : List ℕ
  more : List (List ℕ)
  block_is : block ≡ front ++ (lines ++ last ∷ [])
  lines_are : ls ≡ front ++ (lines ++ last ∷ more)
  blank : All (λ l. is_empty_line l ≡ true) front
  full : All (λ l. is_empty_line l ≡ false) lines
  some : 0 < length lines
  empty : is_empty_line last ≡ true

some-line : (l : List ℕ) (ls lines : List (List ℕ)) (last : List ℕ) (more : List (List ℕ)) → l ∷ ls ≡ lines ++ last ∷ more → is_empty_line l ≡ false → is_empty_line last ≡ true → 0 < length lines
some-line l ls [] last more e full empty =
    let same : l ≡ last = (cc) in
    let both : false ≡ true = sym full ∙ ap is_empty_line same ∙ empty in
    absurd (cc)
some-line l ls (k ∷ lines) last more e full empty = omega arith

block-at : (c : Bool) (l : List ℕ) (ls block : List (List ℕ)) (o : Option (List (List ℕ))) → is_empty_line l ≡ c → ((b : List (List ℕ)) → o ≡ Some b → IsBlockOf ls b)
    → cond c (option_map (λ b. l ∷ b) o) (up_to_empty (l ∷ ls)) ≡ Some block → IsBlockOf (l ∷ ls) block
block-at true l ls block None is later e = absurd (cc)
block-at true l ls block (Some b) is later e =
    let u = later b refl in
    let same : l ∷ b ≡ block = (cc) in
    record {
      front = l ∷ u.front;
      lines = u.lines;
      last = u.last;
      more = u.more;
      block_is = sym same ∙ ap (λ (xs : List (List ℕ)). l ∷ xs) u.block_is;
      lines_are = ap (λ (xs : List (List ℕ)). l ∷ xs) u.lines_are;
      blank = All-cons (λ k. is_empty_line k ≡ true) l u.front is u.blank;
      full = u.full;
      some = u.some;
      empty = u.empty;
    }
block-at false l ls block o is later e =
    let u = up-to (l ∷ ls) block e in
    record {
      front = [];
      lines = u.lines;
      last = u.last;
      more = u.more;
      block_is = u.block_is;
      lines_are = u.lines_are;
      blank = All-nil (λ k. is_empty_line k ≡ true);
      full = u.full;
      some = some-line l ls u.lines u.last u.more u.lines_are is u.empty;
      empty = u.empty;
    }

block-of : (ls block : List (List ℕ)) → block_of ls ≡ Some block → IsBlockOf ls block
unfolding block_of
block-of [] block e = absurd (cc)
block-of (l ∷ ls) block e = block-at (is_empty_line l) l ls block (block_of ls) refl (λ b is. block-of ls b is) e

-- and the other way round
up-found : (lines : List (List ℕ)) (last : List ℕ) (more : List (List ℕ)) → All (λ l. is_empty_line l ≡ false) lines → is_empty_line last ≡ true
    → up_to_empty (lines ++ last ∷ more) ≡ Some (lines ++ last ∷ [])
unfolding up_to_empty
up-found [] last more full empty = rw empty refl
up-found (l ∷ lines) last more full empty =
    let here : is_empty_line l ≡ false = All-head (λ k. is_empty_line k ≡ false) l lines full in
    rw here (ap (option_map (λ b. l ∷ b)) (up-found lines last more (All-tail (λ k. is_empty_line k ≡ false) l lines full) empty))

block-found : (front lines : List (List ℕ)) (last : List ℕ) (more : List (List ℕ)) → All (λ l. is_empty_line l ≡ true) front → All (λ l. is_empty_line l ≡ false) lines → 0 < length lines
    → is_empty_line last ≡ true → block_of (front ++ (lines ++ last ∷ more)) ≡ Some (front ++ (lines ++ last ∷ []))
unfolding block_of
block-found [] [] last more blank full some empty = absurd (omega arith)
block-found [] (l ∷ lines) last more blank full some empty =
    let here : is_empty_line l ≡ false = All-head (λ k. is_empty_line k ≡ false) l lines full in
    rw here (up-found (l ∷ lines) last more full empty)
block-found (l ∷ front) lines last more blank full some empty =
    let here : is_empty_line l ≡ true = All-head (λ k. is_empty_line k ≡ true) l front blank in
    rw here (ap (option_map (λ b. l ∷ b)) (block-found front lines last more (All-tail (λ k. is_empty_line k ≡ true) l front blank) full some empty))

-- lines as bytes
sum-concat : (ls : List (List ℕ)) → sum_by length ls ≡ length (concat ls)
sum-concat [] = refl
sum-concat (l ∷ ls) = sum_by-cons length l ls ∙ ap (λ n. length l + n) (sum-concat ls) ∙ sym (length-append l (concat ls))

all-front : {X : Type 0} (P : X → Type 0) (xs ys : List X) → All P (xs ++ ys) → All P xs
all-front P [] ys all = All-nil P
all-front P (x ∷ xs) ys all = All-cons P x xs (All-head P x (xs ++ ys) all) (all-front P xs ys (All-tail P x (xs ++ ys) all))

all-back : {X : Type 0} (P : X → Type 0) (xs ys : List X) → All P (xs ++ ys) → All P ys
all-back P [] ys all = all
all-back P (x ∷ xs) ys all = all-back P xs ys (All-tail P x (xs ++ ys) all)

-- the bytes of a block
block-bytes : (front lines : List (List ℕ)) (last : List ℕ) (more : List (List ℕ)) (rest : List ℕ)
    → concat (front ++ (lines ++ last ∷ more)) ++ rest ≡ (concat front ++ concat lines ++ last) ++ (concat more ++ rest)
block-bytes front lines last more rest = simp (concat-append, append_assoc)

block-len : (front lines : List (List ℕ)) (last : List ℕ) → sum_by length (front ++ (lines ++ last ∷ [])) ≡ length (concat front ++ concat lines ++ last)
block-len front lines last =
    sum-concat (front ++ (lines ++ last ∷ [])) ∙ ap length (simp (concat-append, append_assoc, append-nil))

-- a block at the front of bytes
pub record HasBlock (bytes : List ℕ) (n : ℕ) : Type 0 where
  pub front : List ℕ
  pub rest : List ℕ
  pub is : bytes ≡ front ++ rest
  pub len : n ≡ length front
  pub block : IsHeadBlock front

has-block-at : (bytes : List ℕ) (ls : List (List ℕ)) (o : Option (List (List ℕ))) (n : ℕ) → AreLines bytes ls → ((b : List (List ℕ)) → o ≡ Some b → IsBlockOf ls b)
    → len_of o ≡ Some n → HasBlock bytes n
has-block-at bytes ls None n are later e = absurd (cc)
has-block-at bytes ls (Some b) n are later e =
    let u = later b refl in
    let all : All IsLine (u.front ++ (u.lines ++ u.last ∷ u.more)) = subst (All IsLine) u.lines_are are.all in
    let behind = all-back IsLine u.front (u.lines ++ u.last ∷ u.more) all in
    let fronts = all-front IsLine u.front (u.lines ++ u.last ∷ u.more) all in
    let lines = all-front IsLine u.lines (u.last ∷ u.more) behind in
    let last = All-head IsLine u.last u.more (all-back IsLine u.lines (u.last ∷ u.more) behind) in
    let count : sum_by length b ≡ n = (cc) in
    record {
      front = concat u.front ++ concat u.lines ++ u.last;
      rest = concat u.more ++ are.rest;
      is = are.is ∙ ap (λ (xs : List (List ℕ)). concat xs ++ are.rest) u.lines_are ∙ block-bytes u.front u.lines u.last u.more are.rest;
      len = sym count ∙ ap (sum_by length) u.block_is ∙ block-len u.front u.lines u.last;
      block = record {
        front = u.front;
        lines = u.lines;
        last = u.last;
        bytes_are = refl;
        front_empty = λ k d l. (fronts k d l, u.blank k d l);
        lines_full = λ k d l. (lines k d l, ap not (u.full k d l));
        some_line = u.some;
        last_empty = (last, u.empty);
      };
    }

pub has-block : (bytes : List ℕ) (n : ℕ) → block_len bytes ≡ Some n → HasBlock bytes n
unfolding block_len
has-block bytes n e = has-block-at bytes (whole_lines bytes) (block_of (whole_lines bytes)) n (are-lines bytes) (λ b is. block-of (whole_lines bytes) b is) e

pub block-len-found : (front rest : List ℕ) → IsHeadBlock front → block_len (front ++ rest) ≡ Some (length front)
unfolding block_len
block-len-found front rest h =
    let blank : All IsLine h.front = λ k d l. (h.front_empty k d l).0 in
    let full : All IsLine h.lines = λ k d l. (h.lines_full k d l).0 in
    let lines : whole_lines (front ++ rest) ≡ h.front ++ (h.lines ++ h.last ∷ whole_lines rest) =
    rw (h.bytes_are, append_assoc (concat h.front ++ concat h.lines) h.last rest, append_assoc (concat h.front) (concat h.lines) (h.last ++ rest)) (lines-concat h.front (concat h.lines ++ (h.last ++ rest)) blank
    ∙ ap (λ (xs : List (List ℕ)). h.front ++ xs) (lines-concat h.lines (h.last ++ rest) full ∙ ap (λ (xs : List (List ℕ)). h.lines ++ xs) (lines-line h.last rest h.last_empty.0))) in
    let found = block-found h.front h.lines h.last (whole_lines rest) (λ k d l. (h.front_empty k d l).1) (λ k d l. not-true _ (h.lines_full k d l).1) h.some_line h.last_empty.1 in
    rw (lines, found) (ap Some (block-len h.front h.lines h.last ∙ ap length (sym h.bytes_are)))

-- the window up to the limit

at-of : (o : Option ℕ) (below : Bool) (n : ℕ) → head_block_end o below ≡ At n → o ≡ Some n
at-of (Some m) below n e = ap Some (cc)
at-of None true n e = absurd (cc)
at-of None false n e = absurd (cc)

over-of : (o : Option ℕ) (below : Bool) → head_block_end o below ≡ Over → (o ≡ None) × (below ≡ false)
over-of (Some m) below e = absurd (cc)
over-of None true e = absurd (cc)
over-of None false e = (refl, refl)

-- what stands at the front of the window stands at the front of the bytes
pub record BeginsWithBlock (limit : ℕ) (bytes : List ℕ) (n : ℕ) : Type 0 where
  pub front : List ℕ
  pub rest : List ℕ
  pub is : bytes ≡ front ++ rest
  pub len : n ≡ length front
  pub fits : n ≤ limit
  pub block : IsHeadBlock front

pub begins : (limit : ℕ) (bytes : List ℕ) (n : ℕ) → head_end limit bytes ≡ At n → BeginsWithBlock limit bytes n
unfolding head_end
begins limit bytes n e =
    let h = has-block (take limit bytes) n (at-of (block_len (take limit bytes)) (ltb (length bytes) limit) n e) in
    record {
      front = h.front;
      rest = h.rest ++ drop limit bytes;
      is = sym (take-append-drop limit bytes) ∙ ap (λ (xs : List ℕ). xs ++ drop limit bytes) h.is ∙ append_assoc h.front h.rest (drop limit bytes);
      len = h.len;
      fits = omega (arith, h.len, ap length h.is, length-append h.front h.rest, length-take limit bytes);
      block = h.block;
    }

not-empty : (last : List ℕ) → IsLine last → 0 < length last
not-empty last is = omega (arith, ap length is.is, length-append is.text (10 ∷ []))

pub block-not-empty : (front : List ℕ) → IsHeadBlock front → 0 < length front
block-not-empty front h =
    omega (arith, ap length h.bytes_are, length-append (concat h.front ++ concat h.lines) h.last, not-empty h.last h.last_empty.0)

pub head-end-block : (limit : ℕ) (bytes : List ℕ) (n : ℕ) → head_end limit bytes ≡ At n → IsHeadBlock (take n bytes)
head-end-block limit bytes n e =
    let b = begins limit bytes n e in
    let same : take n bytes ≡ b.front = ap (λ k. take k bytes) b.len ∙ ap (take (length b.front)) b.is ∙ take-append_seam b.front b.rest in
    subst IsHeadBlock (sym same) b.block

pub head-end-within : (limit : ℕ) (bytes : List ℕ) (e : HeadEnd) → head_end limit bytes ≡ e → EndsWithin (length bytes) limit e
unfolding head_end
head-end-within limit bytes (At n) e =
    let b = begins limit bytes n e in
    (omega (arith, block-not-empty b.front b.block), omega (arith, ap length b.is, length-append b.front b.rest), b.fits)
head-end-within limit bytes NotYet e = below-of (block_len (take limit bytes)) (length bytes) limit (ltb (length bytes) limit) refl e
  where
    below-of : (o : Option ℕ) (n m : ℕ) (c : Bool) → ltb n m ≡ c → head_block_end o c ≡ NotYet → n < m
    below-of (Some k) n m c is h = absurd (cc)
    below-of None n m true is h = ltb-true n m is
    below-of None n m false is h = absurd (cc)
head-end-within limit bytes Over e =
    ltb-false (length bytes) limit (over-of (block_len (take limit bytes)) (ltb (length bytes) limit) e).1

pub head-end-found : (limit : ℕ) (front rest : List ℕ) → length front ≤ limit → IsHeadBlock front → head_end limit (front ++ rest) ≡ At (length front)
unfolding head_end
head-end-found limit front rest fits h =
    let room : limit ≡ length front + (limit - length front) = omega arith in
    let window : take limit (front ++ rest) ≡ front ++ take (limit - length front) rest =
    ap (λ k. take k (front ++ rest)) room ∙ take-append-add front rest (limit - length front) in
    rw (window, block-len-found front (take (limit - length front) rest) h) refl

stable-at : (limit : ℕ) (bytes more : List ℕ) (e : HeadEnd) → head_end limit bytes ≡ e → (e ≡ NotYet → ⊥) → head_end limit (bytes ++ more) ≡ e
unfolding head_end
stable-at limit bytes more (At n) is not_yet =
    let b = begins limit bytes n is in
    let bytes_are : bytes ++ more ≡ b.front ++ (b.rest ++ more) = ap (λ (xs : List ℕ). xs ++ more) b.is ∙ append_assoc b.front b.rest more in
    ap (head_end limit) bytes_are ∙ head-end-found limit b.front (b.rest ++ more) (omega (arith, b.len, b.fits)) b.block ∙ ap At (sym b.len)
stable-at limit bytes more NotYet is not_yet = absurd (not_yet refl)
stable-at limit bytes more Over is not_yet =
    let parts = over-of (block_len (take limit bytes)) (ltb (length bytes) limit) is in
    let long : limit ≤ length bytes = ltb-false (length bytes) limit parts.1 in
    let window : take limit (bytes ++ more) ≡ take limit bytes = take-append-le limit bytes more long in
    let still : ltb (length (bytes ++ more)) limit ≡ false = le-ltb (length (bytes ++ more)) limit (omega (arith, length-append bytes more)) in
    rw (window, parts.0, still) refl

pub head-end-stable : (limit : ℕ) (bytes more : List ℕ) → (head_end limit bytes ≡ NotYet → ⊥) → head_end limit (bytes ++ more) ≡ head_end limit bytes
head-end-stable limit bytes more not_yet = stable-at limit bytes more (head_end limit bytes) refl not_yet

-- what `find_head` computes
pub head-end-is : (limit : ℕ) (bytes : List ℕ) (below : Bool) → below ≡ ltb (length bytes) limit → head_block_end (block_len (take limit bytes)) below ≡ head_end limit bytes
unfolding head_end
head-end-is limit bytes below e = rw e refl
