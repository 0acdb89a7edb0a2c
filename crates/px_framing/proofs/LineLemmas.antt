-- What begins a line, over plain lists.
use Rattle.std.proofs.Common.{◌≡◌, ℕ, ◌+◌, ◌-◌, ◌*◌, ◌^◌, ◌<◌, ◌≤◌, ◌⊎◌, inl, inr, ◌≢◌, Bool, true, false, ◌&&◌, cond, List, [], ◌∷◌, ◌++◌, length, take, drop, Option, Some, None, is_some, IsTrue, drop-cons, if◌then◌else◌, ◌==◌, nat_lt, lt-ltb, le-ltb, ltb-true, ltb-false, refl, sym, ◌∙◌, ap, subst, arith, length-append, append_assoc, slice_index}
use Rattle.std.proofs.lemmas.List.{append-nil, take_more, take_all, same_from_push}
use Rattle.std.proofs.lemmas.Bool.Decides.{nat_tests}
use Rattle.std.specs.List.{list_all}
use Rattle.std.specs.Prelude.{nat_le}
use Rattle.std.specs.Char.{digit_value}
use Rattle.px_framing.specs.declared.places.ChunkPlace.{ChunkPlace}
use Rattle.px_framing.specs.declared.places.ChunkPlace.TheVariants.{Size, Data, Gap, Trailers, Done, Wrong}
use Rattle.px_base.specs.Blanks.{is_blank}
use Rattle.std.specs.Str.Parse.{digits_value, digits_value_after}
use Rattle.px_framing.specs.Lines.{is_hex, is_line_byte, is_extension, front_while, behind_while, size_from, size_of, may_stand, IsOpen, NoLine}
use Rattle.px_head.specs.Prints.{crlf}

-- where two joins are one list, one front begins the other
abbrev pub Split : List ℕ → List ℕ → List ℕ → List ℕ → Type 0
Split a b c d = ((e : List ℕ) × (c ≡ a ++ e) × (b ≡ e ++ d)) ⊎ ((e : List ℕ) × (a ≡ c ++ e) × (d ≡ e ++ b))

split_on : (x y : ℕ) (a b c d : List ℕ) → x ≡ y → Split a b c d → Split (x ∷ a) b (y ∷ c) d
split_on x y a b c d h (inl s) = inl (s.0, (let e = s.1 in cc), s.2)
split_on x y a b c d h (inr s) = inr (s.0, (let e = s.1 in cc), s.2)

pub split : (a b c d : List ℕ) → a ++ b ≡ c ++ d → Split a b c d
split [] b c d h = inl (c, refl, h)
split (x ∷ a) b [] d h = inr (x ∷ a, refl, sym h)
split (x ∷ a) b (y ∷ c) d h = split_on x y a b c d (cc) (split a b c d (cc))

-- a size line's text read from the front: white space, then nothing or an extension
abbrev is_tail : List ℕ → Bool
is_tail [] = true
is_tail (b ∷ bs) = if is_blank b then is_tail bs else (b == 59 && list_all is_line_byte bs)

-- and the digits before it, where digits of the value n were read
unfoldable size_after : ℕ → List ℕ → Option ℕ
size_after n [] = Some n
size_after n (b ∷ bs) =
    if is_hex b
    then (if nat_lt (n * 16 + digit_value b) (2 ^ 63) then size_after (n * 16 + digit_value b) bs else None)
    else (if is_tail (b ∷ bs) then Some n else None)

tail-is : (bs : List ℕ) → is_tail bs ≡ is_extension (behind_while is_blank bs)
tail-is [] = refl
tail-is (b ∷ bs) = tail-at (is_blank b) (tail-is bs)
  where
    tail-at : (c : Bool) → is_tail bs ≡ is_extension (behind_while is_blank bs)
        → cond c (is_tail bs) (b == 59 && list_all is_line_byte bs) ≡ is_extension (cond c (behind_while is_blank bs) (b ∷ bs))
    tail-at true e = e
    tail-at false e = refl

-- digits make a number no smaller
pub value-grows : (n : ℕ) (ds : List ℕ) → n ≤ digits_value_after 16 n ds
value-grows n [] = omega arith
value-grows n (d ∷ ds) = omega (arith, value-grows (n * 16 + digit_value d) ds)

pub size-too-large : (n : ℕ) (rest : List ℕ) → 2 ^ 63 ≤ n → size_from n rest ≡ None
size-too-large n rest large = let e : nat_lt n (2 ^ 63) ≡ false = le-ltb n (2 ^ 63) large in rw e refl

size-at : (c e : Bool) (n : ℕ) (b : ℕ) (bs : List ℕ) → nat_lt (n * 16 + digit_value b) (2 ^ 63) ≡ e → is_tail (b ∷ bs) ≡ is_extension (behind_while is_blank (b ∷ bs)) → nat_lt n (2 ^ 63) ≡ true
    → (e ≡ true → size_after (n * 16 + digit_value b) bs ≡ size_from (digits_value_after 16 (n * 16 + digit_value b) (front_while is_hex bs)) (behind_while is_hex bs))
    → cond c (cond e (size_after (n * 16 + digit_value b) bs) None) (cond (is_tail (b ∷ bs)) (Some n) None)
    ≡ size_from (digits_value_after 16 n (cond c (b ∷ front_while is_hex bs) [])) (cond c (behind_while is_hex bs) (b ∷ bs))
size-at true true n b bs fits tail small later = later refl
size-at true false n b bs fits tail small later =
    sym (size-too-large (digits_value_after 16 (n * 16 + digit_value b) (front_while is_hex bs)) (behind_while is_hex bs)
    (omega (arith, value-grows (n * 16 + digit_value b) (front_while is_hex bs), ltb-false (n * 16 + digit_value b) (2 ^ 63) fits)))
size-at false e n b bs fits tail small later = rw (tail, small) refl

size-is : (n : ℕ) (bs : List ℕ) → n < 2 ^ 63 → size_after n bs ≡ size_from (digits_value_after 16 n (front_while is_hex bs)) (behind_while is_hex bs)
unfolding size_after
size-is n [] small = let e : nat_lt n (2 ^ 63) ≡ true = lt-ltb n (2 ^ 63) small in rw e refl
size-is n (b ∷ bs) small =
    size-at (is_hex b) (nat_lt (n * 16 + digit_value b) (2 ^ 63)) n b bs refl (tail-is (b ∷ bs)) (lt-ltb n (2 ^ 63) small) (λ fits. size-is (n * 16 + digit_value b) bs (ltb-true (n * 16 + digit_value b) (2 ^ 63) fits))

-- the size by the walk
size-of : (b : ℕ) (bs : List ℕ) → size_of (b ∷ bs) ≡ cond (is_hex b) (size_after 0 (b ∷ bs)) None
unfolding size_of
size-of b bs = ap (λ o. cond (is_hex b) o None) (sym (size-is 0 (b ∷ bs) (omega arith)))

plain_front : (xs ys : List ℕ) → list_all is_line_byte (xs ++ ys) ≡ true → list_all is_line_byte xs ≡ true
plain_front [] ys h = refl
plain_front (x ∷ xs) ys h = let k = plain_front xs ys in grind arith

no_cr_plain : (xs ys : List ℕ) → list_all is_line_byte (xs ++ 13 ∷ ys) ≡ true → ⊥
no_cr_plain [] ys h = cc
no_cr_plain (x ∷ xs) ys h = let k = no_cr_plain xs ys in grind arith

tail_front : (xs ys : List ℕ) → is_tail (xs ++ ys) ≡ true → is_tail xs ≡ true
tail_front [] ys h = refl
tail_front (x ∷ xs) ys h = let k = tail_front xs ys in let m = plain_front xs ys in grind arith

no_cr_tail : (xs ys : List ℕ) → is_tail (xs ++ 13 ∷ ys) ≡ true → ⊥
no_cr_tail [] ys h = cc
no_cr_tail (x ∷ xs) ys h = let k = no_cr_tail xs ys in let m = no_cr_plain xs ys in grind arith

size_front : (n : ℕ) (xs ys : List ℕ) → is_some (size_after n (xs ++ ys)) ≡ true → is_some (size_after n xs) ≡ true
unfolding size_after
size_front n [] ys h = refl
size_front n (x ∷ xs) ys h =
    let k = size_front (n * 16 + digit_value x) xs ys in let m = tail_front (x ∷ xs) ys in grind arith

no_cr_size : (n : ℕ) (xs ys : List ℕ) → is_some (size_after n (xs ++ 13 ∷ ys)) ≡ true → ⊥
unfolding size_after
no_cr_size n [] ys h = cc
no_cr_size n (x ∷ xs) ys h =
    let k = no_cr_size (n * 16 + digit_value x) xs ys in let m = no_cr_tail (x ∷ xs) ys in grind arith

size-closed : (c : Bool) (long short deep flat : Option ℕ) (m n : ℕ) → long ≡ cond c deep None → short ≡ cond c flat None → (is_some deep ≡ true → is_some flat ≡ true) → n ≤ m
    → (is_some long && nat_le m 254) ≡ true → (is_some short && nat_le n 254) ≡ true
size-closed true long short deep flat m n e f later le h = grind (arith, nat_tests)
size-closed false long short deep flat m n e f later le h = grind (arith, nat_tests)

-- what begins the text of a line stands too
pub closed : (p : ChunkPlace) (x : ℕ) (xs ys : List ℕ) → IsTrue (may_stand p ((x ∷ xs) ++ ys)) → IsTrue (may_stand p (x ∷ xs))
unfolding may_stand
closed Size x xs ys h =
    let k = size_front 0 (x ∷ xs) ys in
    let l = length-append (x ∷ xs) ys in
    let long = size-of x (xs ++ ys) in
    let short = size-of x xs in
    size-closed (is_hex x) (size_of (x ∷ (xs ++ ys))) (size_of (x ∷ xs)) (size_after 0 (x ∷ (xs ++ ys))) (size_after 0 (x ∷ xs)) (length ((x ∷ xs) ++ ys)) (length (x ∷ xs)) long short k (omega arith) h
closed Gap x xs ys h = let l = length-append (x ∷ xs) ys in grind (arith, nat_tests)
closed (Trailers n) x xs ys h =
    let k = plain_front (x ∷ xs) ys in let l = length-append (x ∷ xs) ys in grind (arith, nat_tests)
closed (Data n) x xs ys h = h
closed Done x xs ys h = h
closed Wrong x xs ys h = h

size-open : (c : Bool) (long deep : Option ℕ) (m : ℕ) → long ≡ cond c deep None → (is_some deep ≡ true → ⊥) → (is_some long && nat_le m 254) ≡ true → ⊥
size-open true long deep m e none h = grind (arith, nat_tests)
size-open false long deep m e none h = grind (arith, nat_tests)

-- no text holds a CR
pub no_cr : (p : ChunkPlace) (xs ys : List ℕ) → IsTrue (may_stand p (xs ++ 13 ∷ ys)) → ⊥
unfolding may_stand
no_cr Size [] ys h = let e = size-of 13 ys in cc
no_cr Size (x ∷ xs) ys h = size-open (is_hex x) (size_of (x ∷ (xs ++ 13 ∷ ys))) (size_after 0 (x ∷ (xs ++ 13 ∷ ys))) (length (x ∷ (xs ++ 13 ∷ ys))) (size-of x (xs ++ 13 ∷ ys)) (no_cr_size 0 (x ∷ xs) ys) h
no_cr Gap xs ys h = let l = length-append xs (13 ∷ ys) in grind (arith, nat_tests)
no_cr (Trailers n) xs ys h = let k = no_cr_plain xs ys in grind (arith, nat_tests)
no_cr (Data n) xs ys h = cc
no_cr Done xs ys h = cc
no_cr Wrong xs ys h = cc

wrong_after_cr_at : (p : ChunkPlace) (t : List ℕ) (b : ℕ) → b ≢ 10 → (text more : List ℕ) → IsTrue (may_stand p text) → Split text crlf t (13 ∷ b ∷ more) → ⊥
wrong_after_cr_at p t b ne text more h (inl ([], e, f)) = ne (cc)
wrong_after_cr_at p t b ne text more h (inl (x ∷ [], e, f)) = cc
wrong_after_cr_at p t b ne text more h (inl (x ∷ y ∷ [], e, f)) = cc
wrong_after_cr_at p t b ne text more h (inl (x ∷ y ∷ z ∷ zs, e, f)) = cc
wrong_after_cr_at p t b ne text more h (inr ([], e, f)) = ne (cc)
wrong_after_cr_at p t b ne text more h (inr (x ∷ z, e, f)) =
    no_cr p t z (subst (λ (w : List ℕ). IsTrue (may_stand p w)) (e ∙ (let q : x ≡ 13 = cc in ap (λ (v : ℕ). t ++ v ∷ z) q)) h)

-- after a CR only an LF goes on
pub wrong_after_cr : (p : ChunkPlace) (t : List ℕ) (b : ℕ) → b ≢ 10 → NoLine p ((t ++ 13 ∷ []) ++ b ∷ [])
wrong_after_cr p t b ne text more h e = wrong_after_cr_at p t b ne text more h (split text crlf t (13 ∷ b ∷ more) (e ∙ simp append_assoc))

wrong_cr_at : (p : ChunkPlace) (front : List ℕ) → (IsTrue (may_stand p front) → ⊥) → (text more : List ℕ) → IsTrue (may_stand p text) → Split text crlf front (13 ∷ more) → ⊥
wrong_cr_at p front out text more h (inl ([], e, f)) = out (subst (λ (w : List ℕ). IsTrue (may_stand p w)) (sym (append-nil text) ∙ sym e) h)
wrong_cr_at p front out text more h (inl (x ∷ [], e, f)) = cc
wrong_cr_at p front out text more h (inl (x ∷ y ∷ [], e, f)) = cc
wrong_cr_at p front out text more h (inl (x ∷ y ∷ z ∷ zs, e, f)) = cc
wrong_cr_at p front out text more h (inr ([], e, f)) = out (subst (λ (w : List ℕ). IsTrue (may_stand p w)) (e ∙ append-nil front) h)
wrong_cr_at p front out text more h (inr (x ∷ z, e, f)) =
    no_cr p front z (subst (λ (w : List ℕ). IsTrue (may_stand p w)) (e ∙ (let q : x ≡ 13 = cc in ap (λ (v : ℕ). front ++ v ∷ z) q)) h)

-- a CR comes only after a whole text
pub wrong_cr : (p : ChunkPlace) (front : List ℕ) → (IsTrue (may_stand p front) → ⊥) → NoLine p (front ++ 13 ∷ [])
wrong_cr p front out text more h e = wrong_cr_at p front out text more h (split text crlf front (13 ∷ more) (e ∙ simp append_assoc))

closed_last : (p : ChunkPlace) (front : List ℕ) (b : ℕ) (z : List ℕ) → IsTrue (may_stand p ((front ++ b ∷ []) ++ z)) → IsTrue (may_stand p (front ++ b ∷ []))
closed_last p [] b z h = closed p b [] z h
closed_last p (x ∷ xs) b z h = closed p x (xs ++ b ∷ []) z h

wrong_byte_at : (p : ChunkPlace) (front : List ℕ) (b : ℕ) → (IsTrue (may_stand p (front ++ b ∷ [])) → ⊥) → b ≢ 13 → ((t : List ℕ) → front ≡ t ++ 13 ∷ [] → ⊥) → (text more : List ℕ) → IsTrue (may_stand p text) → Split text crlf (front ++ b ∷ []) more → ⊥
wrong_byte_at p front b out ne nt text more h (inl ([], e, f)) = out (subst (λ (w : List ℕ). IsTrue (may_stand p w)) (sym (append-nil text) ∙ sym e) h)
wrong_byte_at p front b out ne nt text more h (inl (x ∷ [], e, f)) = let s = same_from_push front text b x e in ne (let g = s.1 in cc)
wrong_byte_at p front b out ne nt text more h (inl (x ∷ y ∷ [], e, f)) =
    let s = same_from_push front (text ++ x ∷ []) b y (e ∙ simp append_assoc) in nt text (s.0 ∙ (let q : x ≡ 13 = cc in ap (λ (v : ℕ). text ++ v ∷ []) q))
wrong_byte_at p front b out ne nt text more h (inl (x ∷ y ∷ z ∷ zs, e, f)) = cc
wrong_byte_at p front b out ne nt text more h (inr (z, e, f)) = out (closed_last p front b z (subst (λ (w : List ℕ). IsTrue (may_stand p w)) e h))

-- any other byte belongs to the text
pub wrong_byte : (p : ChunkPlace) (front : List ℕ) (b : ℕ) → (IsTrue (may_stand p (front ++ b ∷ [])) → ⊥) → b ≢ 13 → ((t : List ℕ) → front ≡ t ++ 13 ∷ [] → ⊥) → NoLine p (front ++ b ∷ [])
wrong_byte p front b out ne nt text more h e = wrong_byte_at p front b out ne nt text more h (split text crlf (front ++ b ∷ []) more e)

-- what is open and ends in a CR is a text and the CR
pub open_cr : (p : ChunkPlace) (t : List ℕ) → IsOpen p (t ++ 13 ∷ []) → IsTrue (may_stand p t)
open_cr p [] (inl h) = cc
open_cr p (x ∷ t) (inl h) = cc
open_cr p t (inr (inl h)) = absurd (no_cr p t [] h)
open_cr p t (inr (inr (text, h, e))) = subst (λ (w : List ℕ). IsTrue (may_stand p w)) (sym (same_from_push t text 13 13 e).0) h

-- a list that isn't empty is its front and its last element
pub ends_in : (bytes : List ℕ) → 0 < length bytes → bytes ≡ take (length bytes - 1) bytes ++ slice_index bytes (length bytes - 1) ∷ []
ends_in bytes h =
    let l : length bytes - 1 < length bytes = omega arith in
    let q : length bytes - 1 + 1 ≡ length bytes = omega arith in
    sym (take_all (length bytes) bytes (omega arith)) ∙ (ap (λ (n : ℕ). take n bytes) (sym q) ∙ take_more bytes (length bytes - 1) 0 l)

-- large numbers stay large with one more digit
pub value-large : (n : ℕ) (ds : List ℕ) → 2 ^ 59 ≤ n → 0 < length ds → 2 ^ 63 ≤ digits_value_after 16 n ds
value-large n [] large some = absurd (omega arith)
value-large n (d ∷ ds) large some = omega (arith, value-grows (n * 16 + digit_value d) ds)

pub digits-some : (bs : List ℕ) (i : ℕ) → i < length bs → digit_value (slice_index bs i) < 16 → 0 < length (front_while is_hex (drop i bs))
digits-some bs i within hex =
    let e : is_hex (slice_index bs i) ≡ true = lt-ltb (digit_value (slice_index bs i)) 16 hex in
    rw (drop-cons bs i 0, e) (omega arith)

-- a text, CR and LF
pub line-bytes : (bytes : List ℕ) (n : ℕ) → n + 2 ≤ length bytes → slice_index bytes n ≡ 13 → slice_index bytes (n + 1) ≡ 10 → take (n + 2) bytes ≡ take n bytes ++ crlf
line-bytes bytes n within cr lf =
    let e : n + 2 ≡ n + 1 + 1 = omega arith in
    ap (λ k. take k bytes) e ∙ take_more bytes (n + 1) 0 (omega arith) ∙ ap (λ (xs : List ℕ). xs ++ slice_index bytes (n + 1) ∷ []) (take_more bytes n 0 (omega arith))
    ∙ ap (λ b. (take n bytes ++ slice_index bytes n ∷ []) ++ b ∷ []) lf ∙ ap (λ b. (take n bytes ++ b ∷ []) ++ 10 ∷ []) cr ∙ append_assoc (take n bytes) (13 ∷ []) (10 ∷ [])

-- ---- the digits at the front

front-again : (test : ℕ → Bool) (xs : List ℕ) → front_while test (front_while test xs) ≡ front_while test xs
front-again test [] = refl
front-again test (x ∷ xs) = again (test x) refl (front-again test xs)
  where
    again : (c : Bool) → test x ≡ c → front_while test (front_while test xs) ≡ front_while test xs → front_while test (cond c (x ∷ front_while test xs) []) ≡ cond c (x ∷ front_while test xs) []
    again true e more = ap (λ d. cond d (x ∷ front_while test (front_while test xs)) []) e ∙ ap (λ (w : List ℕ). x ∷ w) more
    again false e more = refl

none-behind-front : (test : ℕ → Bool) (xs : List ℕ) → behind_while test (front_while test xs) ≡ []
none-behind-front test [] = refl
none-behind-front test (x ∷ xs) = none (test x) refl (none-behind-front test xs)
  where
    none : (c : Bool) → test x ≡ c → behind_while test (front_while test xs) ≡ [] → behind_while test (cond c (x ∷ front_while test xs) []) ≡ []
    none true e more = ap (λ d. cond d (behind_while test (front_while test xs)) (x ∷ front_while test xs)) e ∙ more
    none false e more = refl

front-taken : (test : ℕ → Bool) (xs : List ℕ) → take (length (front_while test xs)) xs ≡ front_while test xs
front-taken test [] = refl
front-taken test (x ∷ xs) = taken (test x) (front-taken test xs)
  where
    taken : (c : Bool) → take (length (front_while test xs)) xs ≡ front_while test xs → take (length (cond c (x ∷ front_while test xs) [])) (x ∷ xs) ≡ cond c (x ∷ front_while test xs) []
    taken true more = ap (λ (w : List ℕ). x ∷ w) more
    taken false more = refl

front-dropped : (test : ℕ → Bool) (xs : List ℕ) → drop (length (front_while test xs)) xs ≡ behind_while test xs
front-dropped test [] = refl
front-dropped test (x ∷ xs) = dropped (test x) (front-dropped test xs)
  where
    dropped : (c : Bool) → drop (length (front_while test xs)) xs ≡ behind_while test xs → drop (length (cond c (x ∷ front_while test xs) [])) (x ∷ xs) ≡ cond c (behind_while test xs) (x ∷ xs)
    dropped true more = more
    dropped false more = refl

-- without a digit no size is given
pub no-digits : (text : List ℕ) → 0 ≡ length (front_while is_hex text) → None ≡ size_of text
unfolding size_of
no-digits [] e = refl
no-digits (b ∷ bs) e = none (is_hex b) (size_from (digits_value 16 (front_while is_hex (b ∷ bs))) (behind_while is_hex (b ∷ bs))) e
  where
    none : (c : Bool) (o : Option ℕ) → 0 ≡ length (cond c (b ∷ front_while is_hex bs) []) → None ≡ cond c o None
    none true o f = absurd (omega arith)
    none false o f = refl

-- nor by too great a number
pub large-digits : (text : List ℕ) → 2 ^ 63 ≤ digits_value 16 (front_while is_hex text) → None ≡ size_of text
unfolding size_of
large-digits [] large = refl
large-digits (b ∷ bs) large = none (is_hex b) _ (size-too-large _ (behind_while is_hex (b ∷ bs)) large)
  where
    none : (c : Bool) (o : Option ℕ) → o ≡ None → None ≡ cond c o None
    none true o e = sym e
    none false o e = refl

size-from-digits : (text : List ℕ) → 0 < length (front_while is_hex text) → size_of text ≡ size_from (digits_value 16 (front_while is_hex text)) (behind_while is_hex text)
unfolding size_of
size-from-digits [] some = absurd (omega arith)
size-from-digits (b ∷ bs) some = from (is_hex b) (size_from (digits_value 16 (front_while is_hex (b ∷ bs))) (behind_while is_hex (b ∷ bs))) some
  where
    from : (c : Bool) (o : Option ℕ) → 0 < length (cond c (b ∷ front_while is_hex bs) []) → cond c o None ≡ o
    from true o f = refl
    from false o f = absurd (omega arith)

-- the size by the digits and what stands behind them
pub size-read : (text : List ℕ) (len : ℕ) (ends : Bool) → len ≡ length (front_while is_hex text) → 0 < len → digits_value 16 (front_while is_hex text) < 2 ^ 63
    → ends ≡ is_extension (behind_while is_blank (drop len text)) → cond ends (Some (digits_value 16 (front_while is_hex text))) None ≡ size_of text
size-read text len ends is some small e =
    let fits : nat_lt (digits_value 16 (front_while is_hex text)) (2 ^ 63) ≡ true = lt-ltb (digits_value 16 (front_while is_hex text)) (2 ^ 63) small in
    let behind : drop len text ≡ behind_while is_hex text = ap (λ (n : ℕ). drop n text) is ∙ front-dropped is_hex text in
    let same : is_extension (behind_while is_blank (behind_while is_hex text)) ≡ ends = ap (λ (w : List ℕ). is_extension (behind_while is_blank w)) (sym behind) ∙ sym e in
    sym (size-from-digits text (omega arith) ∙ (rw (fits, same) refl))

-- the front that is digits
pub digits-taken : (bytes : List ℕ) (len : ℕ) → len ≡ length (front_while is_hex bytes) → take len bytes ≡ front_while is_hex bytes
digits-taken bytes len is = ap (λ (n : ℕ). take n bytes) is ∙ front-taken is_hex bytes

-- the size by digits alone
pub size-of-digits : (bytes : List ℕ) → 0 < length (front_while is_hex bytes) → digits_value 16 (front_while is_hex bytes) < 2 ^ 63
    → size_of (front_while is_hex bytes) ≡ Some (digits_value 16 (front_while is_hex bytes))
size-of-digits bytes some small =
    let fits : nat_lt (digits_value 16 (front_while is_hex bytes)) (2 ^ 63) ≡ true = lt-ltb (digits_value 16 (front_while is_hex bytes)) (2 ^ 63) small in
    let again : front_while is_hex (front_while is_hex bytes) ≡ front_while is_hex bytes = front-again is_hex bytes in
    let none : behind_while is_hex (front_while is_hex bytes) ≡ [] = none-behind-front is_hex bytes in
    size-from-digits (front_while is_hex bytes) (subst (λ (w : List ℕ). 0 < length w) (sym again) some) ∙ (rw (again, none, fits) refl)
