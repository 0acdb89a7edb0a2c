-- The data of whole elements, run by run.
use Rattle.std.proofs.Common.{◌≡◌, ℕ, zero, suc, ◌+◌, ◌-◌, ◌<◌, ◌≤◌, Bool, true, false, not, ◌==◌, cond, List, [], ◌∷◌, ◌++◌, length, take, drop, Option, Some, IsTrue, refl, sym, ◌∙◌, ap, subst, arith, append_assoc, flat_map, length-append, eqb-true, lt-ltb}
use Rattle.std.specs.List.{position, position_or_len, copy_within}
use Rattle.std.proofs.lemmas.List.{append-nil, take_at, drop_all, drop-drop, length-drop}
use Rattle.std.proofs.lemmas.List.Edits.{take-paste, drop-paste}
use Rattle.std.proofs.Math.Seq.{drop-append_seam, paste}
use Rattle.px_framing.specs.declared.places.ChunkPlace.{ChunkPlace}
use Rattle.px_framing.specs.declared.places.ChunkPlace.TheVariants.{Size, Data, Gap, Trailers, Done, Wrong}
use Rattle.px_framing.specs.declared.lines.WholeLine.{WholeLine}
use Rattle.px_framing.specs.Lines.{may_stand, place_after_line, data_place}
use Rattle.px_framing.specs.Elements.{Element, print, data_of, ElementsLead, AreWhole}
use Rattle.px_framing.specs.Extracts.{Divides}
use Rattle.px_framing.specs.Reading.{is_line, is_last}
use Rattle.px_framing.proofs.LineLemmas.{no_cr}
use Rattle.px_framing.proofs.ElementLemmas.{no_line}
use Rattle.px_head.specs.Prints.{crlf}

-- ---- the first CR

cr-step : (x : ℕ) (t w : List ℕ) (c : Bool) → ((xs ys : List ℕ) → x ∷ t ≡ xs ++ 13 ∷ ys → ⊥) → (x == 13) ≡ c → position_or_len (λ b. b == 13) (t ++ 13 ∷ w) ≡ length t
    → cond (not c) (1 + position_or_len (λ b. b == 13) (t ++ 13 ∷ w)) 0 ≡ suc (length t)
cr-step x t w true free e later = absurd (free [] t (ap (λ y. y ∷ t) (eqb-true x 13 e)))
cr-step x t w false free e later = ap (λ n. 1 + n) later ∙ (let one : 1 + length t ≡ suc (length t) = omega arith in one)

cr-at : (t w : List ℕ) → ((xs ys : List ℕ) → t ≡ xs ++ 13 ∷ ys → ⊥) → position_or_len (λ b. b == 13) (t ++ 13 ∷ w) ≡ length t
cr-at [] w free = refl
cr-at (x ∷ t) w free = cr-step x t w (x == 13) free refl (cr-at t w (λ xs ys f. free (x ∷ xs) ys (ap (λ (v : List ℕ). x ∷ v) f)))

cr-place : (t w : List ℕ) → ((xs ys : List ℕ) → t ≡ xs ++ 13 ∷ ys → ⊥) → position (λ b. b == 13) (t ++ 13 ∷ w) ≡ Some (length t)
cr-place t w free =
    let at = cr-at t w free in
    let len = length-append t (13 ∷ w) in
    let inside = lt-ltb (position_or_len (λ b. b == 13) (t ++ 13 ∷ w)) (length (t ++ 13 ∷ w)) (omega arith) in
    rw (inside, at) refl

-- a text that may stand holds no CR
pub text-cr : (p : ChunkPlace) (t : List ℕ) → IsTrue (may_stand p t) → (xs ys : List ℕ) → t ≡ xs ++ 13 ∷ ys → ⊥
text-cr p t h xs ys e = no_cr p xs ys (subst (λ (w : List ℕ). IsTrue (may_stand p w)) e h)

-- ---- a run of data

-- whole elements behind so many bytes of data
abbrev Behind : ℕ → ℕ → List ℕ → List ℕ → Type 0
Behind k n bytes data_bytes = (rest : List ℕ) × AreWhole (data_place (n - k)) (drop k bytes) rest × (data_bytes ≡ take k bytes ++ rest)

run-step : (k n : ℕ) (bytes data_bytes : List ℕ) (next : ChunkPlace) (es : List Element) → ((bs ds : List ℕ) → k ≤ length bs → AreWhole (data_place n) bs ds → Behind k n bs ds) → suc k ≤ length bytes
    → ElementsLead (Data (suc n)) es next → bytes ≡ flat_map print es → data_bytes ≡ flat_map data_of es → Behind (suc k) (suc n) bytes data_bytes
run-step k n bytes data_bytes next [] on short l b d = absurd (let e = ap (λ (v : List ℕ). length v) b in omega arith)
run-step k n bytes data_bytes next (Element.line t ∷ es) on short l b d = absurd (no_line (suc n) t (Data (suc n)) refl l.1.0)
run-step k n bytes data_bytes next (Element.byte x ∷ es) on short l b d =
    let one : Data (suc n) ≡ Data (suc l.1.0) = l.1.1 in
    let left : n ≡ l.1.0 = cc in
    let mid : l.0 ≡ data_place n = l.1.2 ∙ ap data_place (sym left) in
    let len = ap (λ (v : List ℕ). length v) b in
    let inner = on (flat_map print es) (flat_map data_of es) (omega arith) (record { elements = es; next = next; leads = subst (λ (p : ChunkPlace). ElementsLead p es next) mid l.2; bytes_are = refl; data_is = refl }) in
    let count : n - k ≡ suc n - suc k = omega arith in (
      inner.0,
      subst (λ (m : ℕ). AreWhole (data_place m) (drop (suc k) bytes) inner.0) count (subst (λ (v : List ℕ). AreWhole (data_place (n - k)) v inner.0) (sym (ap (drop (suc k)) b)) inner.1),
      d ∙ ap (λ (v : List ℕ). x ∷ v) inner.2 ∙ ap (λ (v : List ℕ). take (suc k) v ++ inner.0) (sym b),
    )

run-at : (k n : ℕ) (bytes data_bytes : List ℕ) → k ≤ n → k ≤ length bytes → AreWhole (data_place n) bytes data_bytes → Behind k n bytes data_bytes
run-at zero n bytes data_bytes low short w = (data_bytes, subst (λ (m : ℕ). AreWhole (data_place m) bytes data_bytes) (let e : n ≡ n - 0 = omega arith in e) w, refl)
run-at (suc k) zero bytes data_bytes low short w = absurd (omega arith)
run-at (suc k) (suc n) bytes data_bytes low short w =
    run-step k n bytes data_bytes w.next w.elements (λ bs ds s v. run-at k n bs ds (omega arith) s v) short w.leads w.bytes_are w.data_is

some-place : (n : ℕ) → 0 < n → Data n ≡ data_place n
some-place zero h = absurd (omega arith)
some-place (suc n) h = refl

pub data-divides : (n k : ℕ) (next : ChunkPlace) (bytes data_bytes : List ℕ) → 0 < n → k ≤ n → k ≤ length bytes → next ≡ data_place (n - k) → AreWhole (Data n) bytes data_bytes
    → Divides bytes data_bytes (Some (record { len = k; data_len = k; next = next }))
data-divides n k next bytes data_bytes some low short is w =
    let r = run-at k n bytes data_bytes low short (subst (λ (p : ChunkPlace). AreWhole p bytes data_bytes) (some-place n some) w) in
    (r.0, subst (λ (p : ChunkPlace). AreWhole p (drop k bytes) r.0) (sym is) r.1, r.2)

-- between runs of no data nothing stands
pub no-data : (bytes data_bytes : List ℕ) → 0 < length bytes → AreWhole (Data 0) bytes data_bytes → ⊥
no-data bytes data_bytes some w = by w.elements w.leads w.bytes_are
  where
    by : (es : List Element) → ElementsLead (Data 0) es w.next → bytes ≡ flat_map print es → ⊥
    by [] l b = let e = ap length b in omega arith
    by (Element.line t ∷ es) l b = no_line 0 t (Data 0) refl l.1.0
    by (Element.byte x ∷ es) l b = let e = l.1.1 in cc

-- ---- a line

-- the place of the first CR, where a line stands at the front
pub text-place : (p : ChunkPlace) (text more bytes : List ℕ) → IsTrue (may_stand p text) → bytes ≡ (text ++ crlf) ++ more → position (λ b. b == 13) bytes ≡ Some (length text)
text-place p text more bytes stands is =
    ap (position (λ b. b == 13)) (is ∙ append_assoc text crlf more) ∙ cr-place text (10 ∷ more) (text-cr p text stands)

-- the text of that line
pub text-is : (text more bytes : List ℕ) → bytes ≡ (text ++ crlf) ++ more → take (length text) bytes ≡ text
text-is text more bytes is = ap (take (length text)) (is ∙ append_assoc text crlf more) ∙ take_at text (crlf ++ more) (length text) refl

pub text-length : (text more bytes : List ℕ) → bytes ≡ (text ++ crlf) ++ more → length text + 2 ≤ length bytes
text-length text more bytes is =
    let e = ap (λ (v : List ℕ). length v) is in let f = length-append (text ++ crlf) more in let g = length-append text crlf in omega arith

pub line-goes : (p : ChunkPlace) (bytes data_bytes : List ℕ) (o : Option WholeLine) → 0 < length bytes → is_line p ≡ true
    → ((text more : List ℕ) → IsTrue (may_stand p text) → bytes ≡ (text ++ crlf) ++ more → o ≡ Some (record { text_len = length text; next = place_after_line p text })) → AreWhole p bytes data_bytes
    → (text : List ℕ) × (o ≡ Some (record { text_len = length text; next = place_after_line p text })) × AreWhole (place_after_line p text) (drop (length text + 2) bytes) data_bytes
line-goes p bytes data_bytes o some line is w = by w.elements w.leads w.bytes_are w.data_is
  where
    by : (es : List Element) → ElementsLead p es w.next → bytes ≡ flat_map print es → data_bytes ≡ flat_map data_of es
        → (text : List ℕ) × (o ≡ Some (record { text_len = length text; next = place_after_line p text })) × AreWhole (place_after_line p text) (drop (length text + 2) bytes) data_bytes
    by [] l b d = absurd (let e = ap (λ (v : List ℕ). length v) b in omega arith)
    by (Element.byte x ∷ es) l b d = absurd (let e : is_line (Data (suc l.1.0)) ≡ true = ap is_line (sym l.1.1) ∙ line in cc)
    by (Element.line t ∷ es) l b d =
        let len : length t + 2 ≡ length (t ++ crlf) = sym (length-append t crlf) in
        let behind : drop (length t + 2) bytes ≡ flat_map print es = (λ i. drop (len i) (b i)) ∙ drop-append_seam (t ++ crlf) (flat_map print es) in
        (t, is t (flat_map print es) l.1.0 b, record { elements = es; next = w.next; leads = subst (λ (q : ChunkPlace). ElementsLead q es w.next) l.1.1 l.2; bytes_are = behind; data_is = d })

pub line-divides : (p : ChunkPlace) (bytes data_bytes : List ℕ) (line : WholeLine) → 0 < length bytes → is_line p ≡ true
    → ((text more : List ℕ) → IsTrue (may_stand p text) → bytes ≡ (text ++ crlf) ++ more → Some line ≡ Some (record { text_len = length text; next = place_after_line p text })) → AreWhole p bytes data_bytes
    → Divides bytes data_bytes (Some (record { len = line.text_len + 2; data_len = 0; next = line.next }))
line-divides p bytes data_bytes line some stands is w =
    let g = line-goes p bytes data_bytes (Some line) some stands is w in
    let e : line ≡ record { text_len = length g.0; next = place_after_line p g.0 } = cc in
    (data_bytes, subst (λ (l : WholeLine). AreWhole l.next (drop (l.text_len + 2) bytes) data_bytes) (sym e) g.2, refl)

-- ---- all runs

-- behind the last place nothing stands
no-line-last : (q : ChunkPlace) (t : List ℕ) → is_last q ≡ true → IsTrue (may_stand q t) → ⊥
unfolding may_stand
no-line-last Size t h k = cc
no-line-last (Data n) t h k = cc
no-line-last Gap t h k = cc
no-line-last (Trailers n) t h k = cc
no-line-last Done t h k = cc
no-line-last Wrong t h k = cc

pub none-behind : (p : ChunkPlace) (bytes data_bytes : List ℕ) → is_last p ≡ true → 0 < length bytes → AreWhole p bytes data_bytes → ⊥
none-behind p bytes data_bytes last some w = by p last w.elements w.leads w.bytes_are
  where
    by : (q : ChunkPlace) → is_last q ≡ true → (es : List Element) → ElementsLead q es w.next → bytes ≡ flat_map print es → ⊥
    by q h [] l b = let e = ap (λ (v : List ℕ). length v) b in omega arith
    by q h (Element.line t ∷ es) l b = no-line-last q t h l.1.0
    by q h (Element.byte x ∷ es) l b = let e : is_last (Data (suc l.1.0)) ≡ true = ap is_last (sym l.1.1) ∙ h in cc

-- nothing stands behind the end
none-left : (p : ChunkPlace) (data_bytes : List ℕ) → AreWhole p [] data_bytes → data_bytes ≡ []
none-left p data_bytes w = by w.elements w.bytes_are w.data_is
  where
    by : (es : List Element) → [] ≡ flat_map print es → data_bytes ≡ flat_map data_of es → data_bytes ≡ []
    by [] b d = d
    by (Element.line [] ∷ es) b d = absurd (cc)
    by (Element.line (x ∷ t) ∷ es) b d = absurd (cc)
    by (Element.byte x ∷ es) b d = absurd (cc)

pub gathered : (p : ChunkPlace) (bytes data_bytes : List ℕ) (at to : ℕ) → length bytes ≤ at → ((more : List ℕ) × AreWhole p (drop at bytes) more × (data_bytes ≡ take to bytes ++ more)) → take to bytes ≡ data_bytes
gathered p bytes data_bytes at to past (more, w, is) =
    let none = none-left p more (subst (λ (v : List ℕ). AreWhole p v more) (drop_all at bytes past) w) in
    sym (is ∙ ap (λ (v : List ℕ). take to bytes ++ v) none ∙ append-nil (take to bytes))

-- what stands behind a run is as it was
pub behind-same : (xs ys : List ℕ) (at to len data_len : ℕ) → ys ≡ copy_within xs at (at + data_len) to → to ≤ at → data_len ≤ len → at + len ≤ length xs → drop (at + len) ys ≡ drop (at + len) xs
behind-same xs ys at to len data_len is behind few short =
    let count : at + data_len - at ≡ data_len = omega arith in
    let pasted : ys ≡ paste xs to (drop at xs) data_len = is ∙ ap (λ n. paste xs to (drop at xs) n) count in
    let room = length-drop at xs in
    let split : at + len ≡ to + data_len + (at + len - (to + data_len)) = omega arith in
    ap (λ n. drop n ys) split ∙ sym (drop-drop (at + len - (to + data_len)) (to + data_len) ys)
    ∙ ap (drop (at + len - (to + data_len))) (ap (drop (to + data_len)) pasted ∙ drop-paste xs to (drop at xs) data_len (omega arith) (omega arith))
    ∙ drop-drop (at + len - (to + data_len)) (to + data_len) xs ∙ ap (λ n. drop n xs) (sym split)

-- a run further, where its data went to the others
pub gather-on : (bytes bytes' data_bytes more rest : List ℕ) (at to len data_len : ℕ) (p : ChunkPlace) → bytes' ≡ copy_within bytes at (at + data_len) to → to ≤ at → data_len ≤ len → at + len ≤ length bytes
    → data_bytes ≡ take to bytes ++ more → AreWhole p (drop len (drop at bytes)) rest → more ≡ take data_len (drop at bytes) ++ rest
    → (left : List ℕ) × AreWhole p (drop (at + len) bytes') left × (data_bytes ≡ take (to + data_len) bytes' ++ left)
gather-on bytes bytes' data_bytes more rest at to len data_len p is behind few short d w r =
    let count : at + data_len - at ≡ data_len = omega arith in
    let pasted : bytes' ≡ paste bytes to (drop at bytes) data_len = is ∙ ap (λ n. paste bytes to (drop at bytes) n) count in
    let room = length-drop at bytes in
    let front : take (to + data_len) bytes' ≡ take to bytes ++ take data_len (drop at bytes) = ap (take (to + data_len)) pasted ∙ take-paste bytes to (drop at bytes) data_len (omega arith) (omega arith) in (
      rest,
      subst (λ (v : List ℕ). AreWhole p v rest) (drop-drop len at bytes ∙ sym (behind-same bytes bytes' at to len data_len is behind few short)) w,
      d ∙ ap (λ (v : List ℕ). take to bytes ++ v) r ∙ sym (append_assoc (take to bytes) (take data_len (drop at bytes)) rest) ∙ ap (λ (v : List ℕ). v ++ rest) (sym front),
    )
