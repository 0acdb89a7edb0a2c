-- Searches: what they have passed, and what they find.
use Rattle.std.proofs.Common.{◌≡◌, ℕ, zero, suc, ◌+◌, ◌-◌, ◌≤◌, Bool, true, false, List, [], ◌∷◌, ◌++◌, length, take, drop, Option, Some, None, option_map, refl, sym, ap, ◌∙◌, subst, arith, ltb-true, ltb-false, take-append-drop, length-take, append_assoc, append-nil, length-append, All, not, IfSome, IfNone}
use Rattle.std.specs.List.{concat}
use Rattle.std.proofs.lemmas.Bool.{not-true, lt-ltb, le-ltb}
use Rattle.std.proofs.lemmas.List.{nil_from_length}
use Rattle.std.proofs.lemmas.List.Elements.{All-head, All-tail, All-cons, All-nil, All-append}
use Rattle.std.proofs.lemmas.List.Folds.{concat-append}
use Rattle.std.proofs.Math.Seq.{take-nil, take-append_seam, drop-append_seam}
use Rattle.px_head.specs.Blocks.{whole_lines, is_empty_line, up_to_empty, block_of, block_len, head_block_end, NoFeed, IsLine, IsEmptyLine, IsFullLine, IsHeadBlock, IsFirstLine}
use Rattle.px_head.specs.Searches.{HasPassed, Searched, BeginsSearched, SearchedOrAnew}
use Rattle.px_head.specs.declared.searches.HeadSearch.{HeadSearch}
use Rattle.px_head.proofs.LineLemmas.{lines-none, lines-concat, feed-join, line-behind}
use Rattle.px_head.proofs.BlockLemmas.{block-len-found}

-- a search that has looked at nothing
pub searched-none : (limit : ℕ) → Searched limit [] (record { at = 0; begun = false; looked = 0 })
searched-none limit =
    record {
      passed = record {
        front = [];
        lines = [];
        text = [];
        more = [];
        bytes_are = take-nil limit;
        front_empty = All-nil IsEmptyLine;
        lines_full = All-nil IsFullLine;
        no_feed = refl;
        at = refl;
        begun = sym (le-ltb 0 0 (omega arith));
        looked = omega arith;
      };
      looked = sym (ap length (take-nil limit));
    }

take-append : (n : ℕ) (xs ys : List ℕ) → take n (xs ++ ys) ≡ take n xs ++ take (n - length xs) ys
take-append n [] ys = let same : n - 0 ≡ n = omega arith in rw (take-nil, same) refl
take-append zero (x ∷ xs) ys = let none : 0 - suc (length xs) ≡ 0 = omega arith in rw none refl
take-append (suc n) (x ∷ xs) ys = let same : suc n - suc (length xs) ≡ n - length xs = omega arith in rw same (ap (λ (zs : List ℕ). x ∷ zs) (take-append n xs ys))

-- what was passed in bytes is passed in bytes that begin with them
pub begins-passed : (limit : ℕ) (bytes : List ℕ) (s : HeadSearch) → BeginsSearched limit bytes s → HasPassed (take limit bytes) s
begins-passed limit bytes s b =
    let p = b.searched.passed in
    let more = take (limit - length b.front) b.more in
    record {
      front = p.front;
      lines = p.lines;
      text = p.text;
      more = p.more ++ more;
      bytes_are = ap (take limit) b.is ∙ take-append limit b.front b.more ∙ ap (λ (xs : List ℕ). xs ++ more) p.bytes_are ∙ append_assoc (concat p.front ++ concat p.lines ++ p.text) p.more more;
      front_empty = p.front_empty;
      lines_full = p.lines_full;
      no_feed = p.no_feed;
      at = p.at;
      begun = p.begun;
      looked = p.looked;
    }

-- what was looked at stands in front of what wasn't
behind : (bytes : List ℕ) (s : HeadSearch) (p : HasPassed bytes s) → drop s.looked bytes ≡ p.more
behind bytes s p =
    let seen = concat p.front ++ concat p.lines ++ p.text in
    let count : s.looked ≡ length seen = omega (arith, p.at, p.looked, length-append (concat p.front ++ concat p.lines) p.text) in
    ap (λ n. drop n bytes) count ∙ ap (drop (length seen)) p.bytes_are ∙ drop-append_seam seen p.more

-- without LF in the rest the search has looked at all
pub looks-at-all : (bytes : List ℕ) (s : HeadSearch) → HasPassed bytes s → NoFeed (drop s.looked bytes) → HasPassed bytes (record { at = s.at; begun = s.begun; looked = length bytes })
looks-at-all bytes s p rest =
    let seen = concat p.front ++ concat p.lines in
    let whole : bytes ≡ seen ++ (p.text ++ p.more) = p.bytes_are ∙ append_assoc seen p.text p.more in
    record {
      front = p.front;
      lines = p.lines;
      text = p.text ++ p.more;
      more = [];
      bytes_are = whole ∙ sym (append-nil (seen ++ (p.text ++ p.more)));
      front_empty = p.front_empty;
      lines_full = p.lines_full;
      no_feed = feed-join p.text p.more p.no_feed (subst NoFeed (behind bytes s p) rest);
      at = p.at;
      begun = p.begun;
      looked = omega (arith, ap length whole, length-append seen (p.text ++ p.more), p.at);
    }

up-none : (lines : List (List ℕ)) → All IsFullLine lines → up_to_empty (lines ++ []) ≡ None
unfolding up_to_empty
up-none [] full = refl
up-none (l ∷ lines) full =
    let here : is_empty_line l ≡ false = not-true _ (All-head IsFullLine l lines full).1 in
    rw here (ap (option_map (λ b. l ∷ b)) (up-none lines (All-tail IsFullLine l lines full)))

block-none : (front lines : List (List ℕ)) → All IsEmptyLine front → All IsFullLine lines → block_of (front ++ (lines ++ [])) ≡ None
unfolding block_of
block-none [] [] blank full = refl
block-none [] (l ∷ lines) blank full =
    let here : is_empty_line l ≡ false = not-true _ (All-head IsFullLine l lines full).1 in
    rw here (up-none (l ∷ lines) full)
block-none (l ∷ front) lines blank full =
    let here : is_empty_line l ≡ true = (All-head IsEmptyLine l front blank).1 in
    rw here (ap (option_map (λ b. l ∷ b)) (block-none front lines (All-tail IsEmptyLine l front blank) full))

-- a search that has looked at all has found no block
pub no-block : (bytes : List ℕ) (s : HeadSearch) → HasPassed bytes s → s.looked ≡ length bytes → block_len bytes ≡ None
unfolding block_len
no-block bytes s p all =
    let seen = concat p.front ++ concat p.lines in
    let none : p.more ≡ [] = nil_from_length p.more (omega (arith, all, ap length p.bytes_are, p.looked, p.at, length-append (seen ++ p.text) p.more, length-append seen p.text)) in
    let front : All IsLine p.front = λ k d l. (p.front_empty k d l).0 in
    let full : All IsLine p.lines = λ k d l. (p.lines_full k d l).0 in
    let whole : bytes ≡ concat p.front ++ (concat p.lines ++ p.text) =
    p.bytes_are ∙ ap (λ (xs : List ℕ). seen ++ p.text ++ xs) none ∙ append-nil (seen ++ p.text) ∙ append_assoc (concat p.front) (concat p.lines) p.text in
    let lines : whole_lines bytes ≡ p.front ++ (p.lines ++ []) =
    ap whole_lines whole ∙ lines-concat p.front (concat p.lines ++ p.text) front
    ∙ ap (λ (xs : List (List ℕ)). p.front ++ xs) (lines-concat p.lines p.text full ∙ ap (λ (xs : List (List ℕ)). p.lines ++ xs) (lines-none p.text p.no_feed)) in
    rw (lines, block-none p.front p.lines p.front_empty p.lines_full) refl

-- the next whole line, which ends so many bytes behind what was looked at
pub record NextLine (bytes : List ℕ) (s : HeadSearch) (len : ℕ) : Type 0 where
  pub passed : HasPassed bytes s
  pub line : List ℕ
  pub more : List ℕ
  pub bytes_are : bytes ≡ concat passed.front ++ concat passed.lines ++ line ++ more
  pub is_line : IsLine line
  pub end : s.looked + len ≡ s.at + length line
  pub slice : take (s.looked + len - s.at) (drop s.at bytes) ≡ line

pub next-line : (bytes : List ℕ) (s : HeadSearch) (len : ℕ) → HasPassed bytes s → IsFirstLine (drop s.looked bytes) (Some len) → NextLine bytes s len
next-line bytes s len p first =
    let seen = concat p.front ++ concat p.lines in
    let rest = take len p.more in
    let line = p.text ++ rest in
    let fits : len ≤ length p.more = subst (λ (xs : List ℕ). len ≤ length xs) (behind bytes s p) first.0 in
    let is : IsLine rest = subst (λ (xs : List ℕ). IsLine (take len xs)) (behind bytes s p) first.1 in
    let whole : bytes ≡ seen ++ (line ++ drop len p.more) =
    p.bytes_are ∙ ap (λ (xs : List ℕ). seen ++ p.text ++ xs) (sym (take-append-drop len p.more)) ∙ simp append_assoc in
    let end : s.looked + len ≡ s.at + length line = omega (arith, p.looked, length-append p.text rest, length-take len p.more, fits) in
    let behind_lines : drop s.at bytes ≡ line ++ drop len p.more = ap (λ n. drop n bytes) p.at ∙ ap (drop (length seen)) whole ∙ drop-append_seam seen (line ++ drop len p.more) in
    let count : s.looked + len - s.at ≡ length line = omega (arith, end) in
    record {
      passed = p;
      line = line;
      more = drop len p.more;
      bytes_are = whole ∙ sym (append_assoc seen line (drop len p.more));
      is_line = line-behind p.text rest p.no_feed is;
      end = end;
      slice = ap (λ n. take n (drop s.at bytes)) count ∙ ap (take (length line)) behind_lines ∙ take-append_seam line (drop len p.more);
    }

-- an empty line behind one that isn't empty ends the block
pub ends-block : (bytes : List ℕ) (s : HeadSearch) (len : ℕ) (n : NextLine bytes s len) → s.begun ≡ true → is_empty_line n.line ≡ true → block_len bytes ≡ Some (s.looked + len)
ends-block bytes s len n begun is =
    let p = n.passed in
    let seen = concat p.front ++ concat p.lines in
    let block : IsHeadBlock (seen ++ n.line) =
    record { front = p.front; lines = p.lines; last = n.line; bytes_are = refl; front_empty = p.front_empty; lines_full = p.lines_full; some_line = ltb-true 0 (length p.lines) (sym p.begun ∙ begun); last_empty = (n.is_line, is) } in
    ap block_len n.bytes_are ∙ block-len-found (seen ++ n.line) n.more block ∙ ap Some (omega (arith, length-append seen n.line, n.end, p.at))

concat-more : (ls : List (List ℕ)) (l : List ℕ) → concat (ls ++ l ∷ []) ≡ concat ls ++ l
concat-more ls l = simp (concat-append, append-nil)

-- a line that isn't empty is passed
pub passes-full : (bytes : List ℕ) (s : HeadSearch) (len : ℕ) (n : NextLine bytes s len) → is_empty_line n.line ≡ false → HasPassed bytes (record { at = s.looked + len; begun = true; looked = s.looked + len })
passes-full bytes s len n is =
    let p = n.passed in
    let seen : concat p.front ++ concat p.lines ++ n.line ≡ concat p.front ++ concat (p.lines ++ n.line ∷ []) = rw concat-more (append_assoc (concat p.front) (concat p.lines) n.line) in
    record {
      front = p.front;
      lines = p.lines ++ n.line ∷ [];
      text = [];
      more = n.more;
      bytes_are = n.bytes_are ∙ ap (λ (xs : List ℕ). xs ++ n.more) (seen ∙ sym (append-nil (concat p.front ++ concat (p.lines ++ n.line ∷ []))));
      front_empty = p.front_empty;
      lines_full = All-append IsFullLine p.lines (n.line ∷ []) p.lines_full (All-cons IsFullLine n.line [] (n.is_line, ap not is) (All-nil IsFullLine));
      no_feed = refl;
      at = omega (arith, n.end, p.at, ap length seen, length-append (concat p.front ++ concat p.lines) n.line);
      begun = sym (lt-ltb 0 (length (p.lines ++ n.line ∷ [])) (omega (arith, length-append p.lines (n.line ∷ []))));
      looked = omega arith;
    }

-- an empty line at the front is passed
pub passes-empty : (bytes : List ℕ) (s : HeadSearch) (len : ℕ) (n : NextLine bytes s len) → s.begun ≡ false → is_empty_line n.line ≡ true → HasPassed bytes (record { at = s.looked + len; begun = s.begun; looked = s.looked + len })
passes-empty bytes s len n begun is =
    let p = n.passed in
    let none : p.lines ≡ [] = nil_from_length p.lines (omega (arith, ltb-false 0 (length p.lines) (sym p.begun ∙ begun))) in
    let seen : concat p.front ++ concat p.lines ++ n.line ≡ concat (p.front ++ n.line ∷ []) = rw (none, concat-more, append-nil) refl in
    record {
      front = p.front ++ n.line ∷ [];
      lines = [];
      text = [];
      more = n.more;
      bytes_are = n.bytes_are ∙ ap (λ (xs : List ℕ). xs ++ n.more) (seen ∙ sym (append-nil (concat (p.front ++ n.line ∷ []) ++ []) ∙ append-nil (concat (p.front ++ n.line ∷ []))));
      front_empty = All-append IsEmptyLine p.front (n.line ∷ []) p.front_empty (All-cons IsEmptyLine n.line [] (n.is_line, is) (All-nil IsEmptyLine));
      lines_full = All-nil IsFullLine;
      no_feed = refl;
      at = omega (arith, n.end, p.at, ap length seen, length-append (concat p.front ++ concat p.lines) n.line, ap length (append-nil (concat (p.front ++ n.line ∷ []))));
      begun = begun;
      looked = omega arith;
    }

-- where a search stands behind an answer
pub searched-or-anew : (limit : ℕ) (bytes : List ℕ) (len : Option ℕ) (below : Bool) (s : HeadSearch) → IfNone len (HasPassed (take limit bytes) s) → IfNone len (s.looked ≡ length (take limit bytes)) → IfSome len (λ _. (l : ℕ) → Searched l [] s)
    → SearchedOrAnew limit bytes (head_block_end len below) s
searched-or-anew limit bytes (Some n) below s passed looked anew = anew
searched-or-anew limit bytes None true s passed looked anew = record { passed = passed; looked = looked }
searched-or-anew limit bytes None false s passed looked anew = record { passed = passed; looked = looked }
