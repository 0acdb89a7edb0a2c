-- One piece further in a text.
use Rattle.std.proofs.Common.{◌≡◌, ◌≢◌, ℕ, zero, suc, ◌+◌, ◌-◌, ◌<◌, ◌≤◌, List, [], ◌∷◌, ◌++◌, length, take, drop, refl, ap, sym, ◌∙◌, arith, lit<, append_assoc, append-nil, Option, None, Some, option_map, nat_eq, Bool, true, false}
use Rattle.std.specs.List.{starts_with}
use Rattle.std.proofs.lemmas.List.{drop-drop, length-drop, map-append}
use Rattle.std.specs.Option.{option_map_or}
use Rattle.px_templates.specs.declared.symbols.Symbol.{Symbol}
use Rattle.px_templates.specs.declared.symbols.Symbol.TheVariants as symbol
use Rattle.px_templates.specs.declared.conditions.Condition.{Condition}
use Rattle.px_templates.specs.declared.conditions.Condition.TheVariants as condition
use Rattle.px_templates.specs.declared.fronts.TemplateFront.{TemplateFront}
use Rattle.px_templates.specs.declared.fronts.TemplateFront.TheVariants as front
use Rattle.px_templates.specs.declared.runs.TemplateRun.{TemplateRun}
use Rattle.px_templates.specs.Symbols.{mark_of, symbol_at, start_of, end_mark}
use Rattle.px_templates.specs.Pieces.{PiecePart, Piece, part_in, plain, parts_behind, front_at, front_pieces, width, pieces_behind, open_behind, open_or, end_place, line_at, open_line}
use Rattle.px_templates.specs.Runs.{held_pieces}

-- `drop (n - 1)` of what follows the first byte
drop_behind : (n b : ℕ) (bs : List ℕ) → 0 < n → drop (n - 1) bs ≡ drop n (b ∷ bs)
drop_behind zero b bs some = absurd (omega arith)
drop_behind (suc n) b bs some = let e : suc n - 1 ≡ n = omega arith in ap (λ k. drop k bs) e

mark_some : (s : Symbol) → 0 < length (mark_of s)
mark_some symbol.Hostname = lit< tt
mark_some symbol.Port = lit< tt
mark_some symbol.Path = lit< tt
mark_some symbol.Url = lit< tt
mark_some symbol.BlockReason = lit< tt
mark_some symbol.Error = lit< tt
mark_some symbol.Parent = lit< tt

start_some : (c : Condition) → 0 < length (start_of c)
start_some condition.BlockReason = lit< tt
start_some condition.Parent = lit< tt

pub width_some : (f : TemplateFront) → 0 < width f
width_some front.Byte = lit< tt
width_some (front.Value s) = mark_some s
width_some (front.Block c n) = omega (arith, start_some c)
width_some front.Open = lit< tt

-- the bytes of a mark are passed over
parts_behind-drop : (c : Option Condition) (n : ℕ) (text : List ℕ) → parts_behind c n text ≡ parts_behind c 0 (drop n text)
unfolding parts_behind
parts_behind-drop c zero text = refl
parts_behind-drop c (suc n) [] = refl
parts_behind-drop c (suc n) (b ∷ bs) = parts_behind-drop c n bs

pieces_behind-drop : (n : ℕ) (text : List ℕ) → pieces_behind n text ≡ pieces_behind 0 (drop n text)
unfolding pieces_behind
pieces_behind-drop zero text = refl
pieces_behind-drop (suc n) [] = refl
pieces_behind-drop (suc n) (b ∷ bs) = pieces_behind-drop n bs

open_behind-drop : (at n : ℕ) (text : List ℕ) → open_behind at n text ≡ open_behind (at + n) 0 (drop n text)
unfolding open_behind
open_behind-drop at zero text = let e : at ≡ at + 0 = omega arith in ap (λ k. open_behind k 0 text) e
open_behind-drop at (suc n) [] = refl
open_behind-drop at (suc n) (b ∷ bs) =
    let e : at + 1 + n ≡ at + suc n = omega arith in
    open_behind-drop (at + 1) n bs ∙ ap (λ k. open_behind k 0 (drop n bs)) e

-- a symbol's mark at the front
parts_behind-value : (c : Option Condition) (s : Symbol) (text : List ℕ) → 0 < length text → symbol_at text ≡ Some s →
    parts_behind c 0 text ≡ part_in c (PiecePart.value s) ∷ parts_behind c 0 (drop (length (mark_of s)) text)
unfolding parts_behind
parts_behind-value c s [] some is = absurd (omega arith)
parts_behind-value c s (b ∷ bs) some is =
    ap (λ o. option_map_or (λ w. part_in c (PiecePart.value w) ∷ parts_behind c (length (mark_of w) - 1) bs) o (part_in c (PiecePart.byte b) ∷ parts_behind c 0 bs)) is
    ∙ ap (λ l. part_in c (PiecePart.value s) ∷ l)
    (parts_behind-drop c (length (mark_of s) - 1) bs ∙ ap (parts_behind c 0) (drop_behind (length (mark_of s)) b bs (mark_some s)))

-- no symbol's mark at the front
parts_behind-byte : (c : Option Condition) (text : List ℕ) → 0 < length text → symbol_at text ≡ None →
    parts_behind c 0 text ≡ plain c (take 1 text) ++ parts_behind c 0 (drop 1 text)
unfolding parts_behind
parts_behind-byte c [] some is = absurd (omega arith)
parts_behind-byte c (b ∷ bs) some is =
    ap (λ o. option_map_or (λ w. part_in c (PiecePart.value w) ∷ parts_behind c (length (mark_of w) - 1) bs) o (part_in c (PiecePart.byte b) ∷ parts_behind c 0 bs)) is

parts_behind-nil : (c : Option Condition) (text : List ℕ) → length text ≡ 0 → parts_behind c 0 text ≡ []
unfolding parts_behind
parts_behind-nil c [] none = refl
parts_behind-nil c (b ∷ bs) none = absurd (omega arith)

-- what stands at the front
pieces_behind-front : (f : TemplateFront) (text : List ℕ) → 0 < length text → f ≡ front_at text →
    pieces_behind 0 text ≡ front_pieces f text ++ pieces_behind 0 (drop (width f) text)
unfolding pieces_behind
pieces_behind-front f [] some is = absurd (omega arith)
pieces_behind-front f (b ∷ bs) some is =
    ap (λ g. front_pieces g (b ∷ bs) ++ pieces_behind (width g - 1) bs) (sym is)
    ∙ ap (λ l. front_pieces f (b ∷ bs) ++ l)
    (pieces_behind-drop (width f - 1) bs ∙ ap (pieces_behind 0) (drop_behind (width f) b bs (width_some f)))

pieces_behind-nil : (text : List ℕ) → length text ≡ 0 → pieces_behind 0 text ≡ []
unfolding pieces_behind
pieces_behind-nil [] none = refl
pieces_behind-nil (b ∷ bs) none = absurd (omega arith)

open_or-later : (at : ℕ) (f : TemplateFront) (later : Option ℕ) → f ≢ front.Open → open_or at f later ≡ later
open_or-later at front.Byte later ended = refl
open_or-later at (front.Value s) later ended = refl
open_or-later at (front.Block c n) later ended = refl
open_or-later at front.Open later ended = absurd (ended refl)

open_behind-front : (at : ℕ) (f : TemplateFront) (text : List ℕ) → 0 < length text → f ≡ front_at text → f ≢ front.Open →
    open_behind at 0 text ≡ open_behind (at + width f) 0 (drop (width f) text)
unfolding open_behind
open_behind-front at f [] some is ended = absurd (omega arith)
open_behind-front at f (b ∷ bs) some is ended =
    let wide = width_some f in
    let e : at + 1 + (width f - 1) ≡ at + width f = omega arith in
    ap (λ g. open_or at g (open_behind (at + 1) (width g - 1) bs)) (sym is)
    ∙ open_or-later at f _ ended
    ∙ open_behind-drop (at + 1) (width f - 1) bs
    ∙ ap (λ k. open_behind k 0 (drop (width f - 1) bs)) e
    ∙ ap (open_behind (at + width f) 0) (drop_behind (width f) b bs wide)

open_behind-open : (at : ℕ) (text : List ℕ) → 0 < length text → front.Open ≡ front_at text → open_behind at 0 text ≡ Some at
unfolding open_behind
open_behind-open at [] some is = absurd (omega arith)
open_behind-open at (b ∷ bs) some is = ap (λ g. open_or at g (open_behind (at + 1) (width g - 1) bs)) (sym is)

open_behind-nil : (at : ℕ) (text : List ℕ) → length text ≡ 0 → open_behind at 0 text ≡ None
unfolding open_behind
open_behind-nil at [] none = refl
open_behind-nil at (b ∷ bs) none = absurd (omega arith)

take-last : (n : ℕ) (xs : List ℕ) → take (suc n) xs ≡ take n xs ++ take 1 (drop n xs)
take-last zero xs = refl
take-last (suc n) [] = refl
take-last (suc n) (x ∷ xs) = ap (λ l. x ∷ l) (take-last n xs)

-- the bytes between two places, and one more
slice-last : (text : List ℕ) (from at : ℕ) → from ≤ at → take (at + 1 - from) (drop from text) ≡ take (at - from) (drop from text) ++ take 1 (drop at text)
slice-last text from at order =
    let one : at + 1 - from ≡ suc (at - from) = omega arith in
    let back : from + (at - from) ≡ at = omega arith in
    ap (λ n. take n (drop from text)) one ∙ take-last (at - from) (drop from text)
    ∙ ap (λ l. take (at - from) (drop from text) ++ take 1 l) (drop-drop (at - from) from text ∙ ap (λ n. drop n text) back)

slice-none : (text : List ℕ) (at : ℕ) → take (at - at) (drop at text) ≡ []
slice-none text at = let e : at - at ≡ 0 = omega arith in ap (λ n. take n (drop at text)) e

-- A list of pieces goes on as a byte goes from the rest to what is kept later.
kept-byte : (c : Option Condition) (text : List ℕ) (from at : ℕ) (all old whole rest : List Piece) → from ≤ at →
    all ≡ old ++ (plain c (take (at - from) (drop from text)) ++ whole) → whole ≡ plain c (take 1 (drop at text)) ++ rest →
    all ≡ old ++ (plain c (take (at + 1 - from) (drop from text)) ++ rest)
kept-byte c text from at all old whole rest order so_far front =
    so_far ∙ ap (λ w. old ++ w)
    (ap (λ w. plain c (take (at - from) (drop from text)) ++ w) front
    ∙ sym (append_assoc (plain c (take (at - from) (drop from text))) (plain c (take 1 (drop at text))) rest)
    ∙ ap (λ l. l ++ rest) (sym (map-append (λ b. part_in c (PiecePart.byte b)) (take (at - from) (drop from text)) (take 1 (drop at text)))
    ∙ ap (plain c) (sym (slice-last text from at order))))

-- A list of pieces goes on as what is kept, and the pieces in front of the rest, are pushed.
kept-front : (c : Option Condition) (text : List ℕ) (at : ℕ) (all old slice whole front rest mid new : List Piece) →
    all ≡ old ++ (slice ++ whole) → whole ≡ front ++ rest → mid ≡ old ++ slice → new ≡ mid ++ front →
    all ≡ new ++ (plain c (take (at - at) (drop at text)) ++ rest)
kept-front c text at all old slice whole front rest mid new so_far whole_is mid_is new_is =
    so_far ∙ ap (λ w. old ++ (slice ++ w)) whole_is
    ∙ sym (append_assoc old slice (front ++ rest))
    ∙ sym (append_assoc (old ++ slice) front rest)
    ∙ ap (λ l. (l ++ front) ++ rest) (sym mid_is)
    ∙ ap (λ l. l ++ rest) (sym new_is)
    ∙ ap (λ l. new ++ (plain c l ++ rest)) (sym (slice-none text at))

-- what the loop over a block's text keeps: the bytes from `from` on aren't pushed yet
pub record HasParts (before : List TemplateRun) (c : Option Condition) (text : List ℕ) (from at : ℕ) (runs : List TemplateRun) : Type 0 where
  pub order : from ≤ at
  pub within : at ≤ length text
  pub parts : held_pieces before ++ parts_behind c 0 text ≡ held_pieces runs ++ (plain c (take (at - from) (drop from text)) ++ parts_behind c 0 (drop at text))

-- the same for the loop over the whole text
pub record HasPieces (text : List ℕ) (from at : ℕ) (runs : List TemplateRun) : Type 0 where
  pub order : from ≤ at
  pub within : at ≤ length text
  pub pieces : pieces_behind 0 text ≡ held_pieces runs ++ (plain None (take (at - from) (drop from text)) ++ pieces_behind 0 (drop at text))
  pub unended : open_behind 0 0 text ≡ open_behind at 0 (drop at text)

-- the mark that ends a block, at the front of a text
end_place-here : (c : Condition) (text : List ℕ) → 0 < length text → starts_with nat_eq text (end_mark c) ≡ true → end_place c text ≡ Some 0
unfolding end_place
end_place-here c [] some here = absurd (omega arith)
end_place-here c (b ∷ bs) some here = rw here

end_place-later : (c : Condition) (text : List ℕ) → 0 < length text → starts_with nat_eq text (end_mark c) ≡ false →
    end_place c text ≡ option_map (λ n. n + 1) (end_place c (drop 1 text))
unfolding end_place
end_place-later c [] some later = absurd (omega arith)
end_place-later c (b ∷ bs) some later = rw later

end_place-nil : (c : Condition) (text : List ℕ) → length text ≡ 0 → end_place c text ≡ None
unfolding end_place
end_place-nil c [] none = refl
end_place-nil c (b ∷ bs) none = absurd (omega arith)

moved : (o : Option ℕ) (i : ℕ) → option_map (λ n. n + i) (option_map (λ n. n + 1) o) ≡ option_map (λ n. n + (i + 1)) o
moved None i = refl
moved (Some n) i = let e : n + 1 + i ≡ n + (i + 1) = omega arith in ap Some e

-- the search for the mark: it stands at this place, or behind it, or nowhere
pub end_found : (c : Condition) (text slice mark : List ℕ) (at : ℕ) (r : Bool) → at < length text → slice ≡ drop at text → mark ≡ end_mark c →
    r ≡ starts_with nat_eq slice mark → r ≡ true → end_place c text ≡ option_map (λ n. n + at) (end_place c (drop at text)) → Some at ≡ end_place c text
end_found c text slice mark at r within slice_is mark_is r_is here so_far =
    let zero_more : 0 + at ≡ at = omega arith in
    sym (so_far ∙ ap (option_map (λ n. n + at)) (end_place-here c (drop at text) (omega (arith, length-drop at text))
    (ap (λ s. starts_with nat_eq s (end_mark c)) (sym slice_is) ∙ ap (starts_with nat_eq slice) (sym mark_is) ∙ sym r_is ∙ here)) ∙ ap Some zero_more)

pub end_not_found : (c : Condition) (text slice mark : List ℕ) (at : ℕ) (r : Bool) → at < length text → slice ≡ drop at text → mark ≡ end_mark c →
    r ≡ starts_with nat_eq slice mark → r ≡ false → end_place c text ≡ option_map (λ n. n + at) (end_place c (drop at text)) →
    end_place c text ≡ option_map (λ n. n + (at + 1)) (end_place c (drop (at + 1) text))
end_not_found c text slice mark at r within slice_is mark_is r_is later so_far =
    so_far ∙ ap (option_map (λ n. n + at))
    (end_place-later c (drop at text) (omega (arith, length-drop at text))
    (ap (λ s. starts_with nat_eq s (end_mark c)) (sym slice_is) ∙ ap (starts_with nat_eq slice) (sym mark_is) ∙ sym r_is ∙ later)
    ∙ ap (λ s. option_map (λ n. n + 1) (end_place c s)) (drop-drop 1 at text))
    ∙ moved (end_place c (drop (at + 1) text)) at

pub end_nowhere : (c : Condition) (text : List ℕ) (at : ℕ) → length text ≤ at → end_place c text ≡ option_map (λ n. n + at) (end_place c (drop at text)) → None ≡ end_place c text
end_nowhere c text at past so_far = sym (so_far ∙ ap (option_map (λ n. n + at)) (end_place-nil c (drop at text) (omega (arith, length-drop at text))))

pub parts_byte : (before : List TemplateRun) (c : Option Condition) (text slice : List ℕ) (from at : ℕ) (runs : List TemplateRun) →
    HasParts before c text from at runs → at < length text → slice ≡ drop at text → None ≡ symbol_at slice → HasParts before c text from (at + 1) runs
parts_byte before c text slice from at runs h within slice_is none = record {
  order = let o = h.order in omega arith;
  within = omega arith;
  parts = kept-byte c text from at (held_pieces before ++ parts_behind c 0 text) (held_pieces runs) (parts_behind c 0 (drop at text)) (parts_behind c 0 (drop (at + 1) text)) h.order h.parts
      (parts_behind-byte c (drop at text) (omega (arith, length-drop at text)) (ap symbol_at (sym slice_is) ∙ sym none)
      ∙ ap (λ l. plain c (take 1 (drop at text)) ++ parts_behind c 0 l) (drop-drop 1 at text));
}

pub parts_value : (before : List TemplateRun) (c : Option Condition) (text slice mark : List ℕ) (from at : ℕ) (s : Symbol) (runs mid new : List TemplateRun) →
    HasParts before c text from at runs → at < length text → slice ≡ drop at text → Some s ≡ symbol_at slice → length (mark_of s) ≤ length slice → mark ≡ mark_of s →
    held_pieces mid ≡ held_pieces runs ++ plain c (take (at - from) (drop from text)) → held_pieces new ≡ held_pieces mid ++ part_in c (PiecePart.value s) ∷ [] →
    HasParts before c text (at + length mark) (at + length mark) new
parts_value before c text slice mark from at s runs mid new h within slice_is is fits mark_is mid_is new_is =
    let wide : length mark ≡ length (mark_of s) = ap length mark_is in
    let slice_len : length slice ≡ length (drop at text) = ap length slice_is in record {
      order = omega arith;
      within = omega (arith, length-drop at text);
      parts = kept-front c text (at + length mark) (held_pieces before ++ parts_behind c 0 text) (held_pieces runs) (plain c (take (at - from) (drop from text)))
          (parts_behind c 0 (drop at text)) (part_in c (PiecePart.value s) ∷ []) (parts_behind c 0 (drop (at + length mark) text)) (held_pieces mid) (held_pieces new) h.parts
          (parts_behind-value c s (drop at text) (omega (arith, length-drop at text)) (ap symbol_at (sym slice_is) ∙ sym is)
          ∙ ap (λ l. part_in c (PiecePart.value s) ∷ parts_behind c 0 l) (drop-drop (length (mark_of s)) at text ∙ ap (λ n. drop (at + n) text) (sym wide)))
          mid_is new_is;
    }

pub parts_end : (before : List TemplateRun) (c : Option Condition) (text : List ℕ) (from at : ℕ) (runs : List TemplateRun) →
    HasParts before c text from at runs → length text ≤ at →
    held_pieces runs ++ plain c (take (length text - from) (drop from text)) ≡ held_pieces before ++ parts_behind c 0 text
parts_end before c text from at runs h past =
    let inside = h.within in
    let same : at ≡ length text = omega arith in
    sym (h.parts
    ∙ ap (λ w. held_pieces runs ++ (plain c (take (at - from) (drop from text)) ++ w)) (parts_behind-nil c (drop at text) (omega (arith, length-drop at text)))
    ∙ ap (λ w. held_pieces runs ++ w) (append-nil (plain c (take (at - from) (drop from text))))
    ∙ ap (λ n. held_pieces runs ++ plain c (take (n - from) (drop from text))) same)

pub pieces_init : (text : List ℕ) (runs : List TemplateRun) → runs ≡ [] → HasPieces text 0 0 runs
unfolding held_pieces
pieces_init text runs none = record {
  order = omega arith;
  within = omega arith;
  pieces = ap (λ r. held_pieces r ++ pieces_behind 0 text) (sym none);
  unended = refl;
}

pub pieces_byte : (text slice : List ℕ) (from at : ℕ) (runs : List TemplateRun) →
    HasPieces text from at runs → at < length text → slice ≡ drop at text → front.Byte ≡ front_at slice → HasPieces text from (at + 1) runs
pieces_byte text slice from at runs h within slice_is is =
    let some : 0 < length (drop at text) = omega (arith, length-drop at text) in
    let here : front.Byte ≡ front_at (drop at text) = is ∙ ap front_at slice_is in record {
      order = let o = h.order in omega arith;
      within = omega arith;
      pieces = kept-byte None text from at (pieces_behind 0 text) (held_pieces runs) (pieces_behind 0 (drop at text)) (pieces_behind 0 (drop (at + 1) text)) h.order h.pieces
          (pieces_behind-front front.Byte (drop at text) some here
          ∙ ap (λ l. plain None (take 1 (drop at text)) ++ pieces_behind 0 l) (drop-drop 1 at text));
      unended = h.unended ∙ open_behind-front at front.Byte (drop at text) some here (λ e. cc) ∙ ap (open_behind (at + 1) 0) (drop-drop 1 at text);
    }

pub pieces_front : (text slice : List ℕ) (from at to : ℕ) (f : TemplateFront) (runs mid new : List TemplateRun) →
    HasPieces text from at runs → at < length text → slice ≡ drop at text → f ≡ front_at slice → width f ≤ length slice → f ≢ front.Open → to ≡ at + width f →
    held_pieces mid ≡ held_pieces runs ++ plain None (take (at - from) (drop from text)) → held_pieces new ≡ held_pieces mid ++ front_pieces f (drop at text) →
    HasPieces text to to new
pieces_front text slice from at to f runs mid new h within slice_is is fits ended to_is mid_is new_is =
    let slice_len : length slice ≡ length (drop at text) = ap length slice_is in
    let some : 0 < length (drop at text) = omega (arith, length-drop at text) in
    let here : f ≡ front_at (drop at text) = is ∙ ap front_at slice_is in
    let behind : drop (width f) (drop at text) ≡ drop to text = drop-drop (width f) at text ∙ ap (λ n. drop n text) (sym to_is) in record {
      order = omega arith;
      within = omega (arith, length-drop at text);
      pieces = kept-front None text to (pieces_behind 0 text) (held_pieces runs) (plain None (take (at - from) (drop from text)))
          (pieces_behind 0 (drop at text)) (front_pieces f (drop at text)) (pieces_behind 0 (drop to text)) (held_pieces mid) (held_pieces new) h.pieces
          (pieces_behind-front f (drop at text) some here ∙ ap (λ l. front_pieces f (drop at text) ++ pieces_behind 0 l) behind)
          mid_is new_is;
      unended = h.unended ∙ open_behind-front at f (drop at text) some here ended ∙ ap (open_behind (at + width f) 0) behind ∙ ap (λ n. open_behind n 0 (drop to text)) (sym to_is);
    }

-- what a block holds between its marks
pub inside-is : (k : Condition) (n at begin : ℕ) (text mark : List ℕ) → mark ≡ start_of k → begin ≡ at + length mark →
    take (begin + n - begin) (drop begin text) ≡ take n (drop (length (start_of k)) (drop at text))
inside-is k n at begin text mark mark_is begin_is =
    let len : begin + n - begin ≡ n = omega arith in
    ap (λ m. take m (drop begin text)) len ∙ ap (λ m. take n (drop m text)) begin_is ∙ ap (λ (l : List ℕ). take n (drop (at + length l) text)) mark_is
    ∙ ap (take n) (sym (drop-drop (length (start_of k)) at text))

pub pieces_end : (text : List ℕ) (from at : ℕ) (runs : List TemplateRun) → HasPieces text from at runs → length text ≤ at →
    held_pieces runs ++ plain None (take (length text - from) (drop from text)) ≡ pieces_behind 0 text
pieces_end text from at runs h past =
    let inside = h.within in
    let same : at ≡ length text = omega arith in
    sym (h.pieces
    ∙ ap (λ w. held_pieces runs ++ (plain None (take (at - from) (drop from text)) ++ w)) (pieces_behind-nil (drop at text) (omega (arith, length-drop at text)))
    ∙ ap (λ w. held_pieces runs ++ w) (append-nil (plain None (take (at - from) (drop from text))))
    ∙ ap (λ n. held_pieces runs ++ plain None (take (n - from) (drop from text))) same)

pub ended_all : (text : List ℕ) (from at : ℕ) (runs : List TemplateRun) → HasPieces text from at runs → length text ≤ at → open_line text ≡ None
ended_all text from at runs h past =
    ap (option_map (line_at text)) (h.unended ∙ open_behind-nil at (drop at text) (omega (arith, length-drop at text)))

pub open_here : (text slice : List ℕ) (from at line : ℕ) (runs : List TemplateRun) → HasPieces text from at runs → at < length text → slice ≡ drop at text →
    front.Open ≡ front_at slice → line ≡ line_at text at → open_line text ≡ Some line
open_here text slice from at line runs h within slice_is is line_is =
    ap (option_map (line_at text)) (h.unended ∙ open_behind-open at (drop at text) (omega (arith, length-drop at text)) (is ∙ ap front_at slice_is)) ∙ ap Some (sym line_is)
