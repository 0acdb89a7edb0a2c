-- What a reader reads whole bytes to is what is said of them.
use Rattle.std.proofs.Common.{◌≡◌, ◌≢◌, ℕ, zero, suc, ◌+◌, ◌-◌, ◌<◌, ◌≤◌, ◌⊎◌, inl, inr, List, [], ◌∷◌, ◌++◌, length, take, drop, IsTrue, refl, sym, ◌∙◌, ap, subst, arith, append_assoc, flat_map, length-append, Option, Some, None, is_some, nat_le, ◌&&◌, true}
use Rattle.std.proofs.lemmas.List.{append-nil, take_all, take-take, take_at, length-take-le, length_push, take-append-drop}
use Rattle.std.proofs.lemmas.Bool.Decides.{nat_tests}
use Rattle.px_framing.specs.declared.places.ChunkPlace.{ChunkPlace}
use Rattle.px_framing.specs.declared.places.ChunkPlace.TheVariants.{Size, Data, Gap, Trailers, Done, Wrong}
use Rattle.px_framing.specs.declared.places.State.{State}
use Rattle.px_framing.specs.declared.places.State.TheVariants.{More, Whole, Cut, Misframed}
use Rattle.px_framing.specs.Lines.{may_stand, place_after_line, after_size, size_of, data_place, IsOpen, NoLine}
use Rattle.px_framing.specs.Elements.{Element, print, data_of, ElementLeads, ElementsLead}
use Rattle.px_framing.specs.Body.{AreElements, IsBody, CanGoOn, NoBody, StateSays, KeepsLimit}
use Rattle.px_framing.proofs.LineLemmas.{Split, split, no_cr}
use Rattle.px_head.specs.Prints.{crlf}

-- what the state says of what comes next and of the bytes held back
abbrev pub Ends : State → ChunkPlace → List ℕ → Type 0
Ends More place held = IsOpen place held × (place ≢ Done) × (place ≢ Data 0) × (place ≢ Wrong)
Ends Whole place held = (place ≡ Done) × (held ≡ [])
Ends Cut place held = IsOpen place held × (place ≢ Done) × (place ≢ Data 0) × (place ≢ Wrong)
Ends Misframed place held = (front : List ℕ) × (last : ℕ) × (held ≡ front ++ last ∷ []) × IsOpen place front × NoLine place held × ((n : ℕ) → place ≢ Data n) × (place ≢ Done) × (place ≢ Wrong)

-- the first elements and then the second
leads_on : (es fs : List Element) (p m n : ChunkPlace) → ElementsLead p es m → ElementsLead m fs n → ElementsLead p (es ++ fs) n
leads_on [] fs p m n h k = subst (λ (q : ChunkPlace). ElementsLead q fs n) h k
leads_on (e ∷ es) fs p m n h k = (h.0, h.1, leads_on es fs h.0 m n h.2 k)

flat_on : (f : Element → List ℕ) (es fs : List Element) → flat_map f (es ++ fs) ≡ flat_map f es ++ flat_map f fs
flat_on f [] fs = refl
flat_on f (e ∷ es) fs = ap (λ (w : List ℕ). f e ++ w) (flat_on f es fs) ∙ sym (append_assoc (f e) (flat_map f es) (flat_map f fs))

-- between two bytes of data nothing is kept back
none_kept : (n : ℕ) (k : List ℕ) → IsOpen (Data n) k → k ≡ []
unfolding may_stand
none_kept n k (inl h) = h
none_kept n k (inr (inl h)) = cc
none_kept n k (inr (inr (text, h, e))) = cc

size_not_zero : (o : Option ℕ) → after_size o ≡ Data 0 → ⊥
size_not_zero None h = cc
size_not_zero (Some n) h = grind (arith, nat_tests)

-- no line leads to a run of no data
not_zero : (p : ChunkPlace) (text : List ℕ) → place_after_line p text ≢ Data 0
unfolding place_after_line
not_zero Size text h = size_not_zero (size_of text) h
not_zero Gap text h = cc
not_zero (Trailers n) text h = grind (arith, nat_tests)
not_zero (Data n) text h = cc
not_zero Done text h = cc
not_zero Wrong text h = cc

size_not_wrong : (o : Option ℕ) (n : ℕ) → (is_some o && nat_le n 254) ≡ true → after_size o ≡ Wrong → ⊥
size_not_wrong None n s h = cc
size_not_wrong (Some m) n s h = grind (arith, nat_tests)

-- a line that may stand doesn't lead astray
pub not_wrong : (p : ChunkPlace) (text : List ℕ) → IsTrue (may_stand p text) → place_after_line p text ≢ Wrong
unfolding may_stand place_after_line
not_wrong Size text s h = size_not_wrong (size_of text) (length text) s h
not_wrong Gap text s h = cc
not_wrong (Trailers n) text s h = grind (arith, nat_tests)
not_wrong (Data n) text s h = cc
not_wrong Done text s h = cc
not_wrong Wrong text s h = cc

pub no_line : (n : ℕ) (t : List ℕ) (p : ChunkPlace) → p ≡ Data n → IsTrue (may_stand p t) → ⊥
unfolding may_stand
no_line n t p e h = let q : IsTrue (may_stand (Data n) t) = subst (λ (p : ChunkPlace). IsTrue (may_stand p t)) e h in cc

same_text_at : (p : ChunkPlace) (t u x y : List ℕ) → IsTrue (may_stand p t) → IsTrue (may_stand p u) → Split t (crlf ++ x) u (crlf ++ y) → (t ≡ u) × (x ≡ y)
same_text_at p t u x y h k (inl ([], e, f)) = (sym (e ∙ append-nil t), (cc))
same_text_at p t u x y h k (inl (z ∷ zs, e, f)) =
    absurd (no_cr p t zs (subst (λ (w : List ℕ). IsTrue (may_stand p w)) (e ∙ (let q : z ≡ 13 = cc in ap (λ (v : ℕ). t ++ v ∷ zs) q)) k))
same_text_at p t u x y h k (inr ([], e, f)) = (e ∙ append-nil u, (cc))
same_text_at p t u x y h k (inr (z ∷ zs, e, f)) =
    absurd (no_cr p u zs (subst (λ (w : List ℕ). IsTrue (may_stand p w)) (e ∙ (let q : z ≡ 13 = cc in ap (λ (v : ℕ). u ++ v ∷ zs) q)) h))

-- one element stands at the front
same_first : (p : ChunkPlace) (e f : Element) (m n : ChunkPlace) (x y : List ℕ) → ElementLeads p e m → ElementLeads p f n → print e ++ x ≡ print f ++ y → (e ≡ f) × (m ≡ n) × (x ≡ y)
same_first p (Element.line t) (Element.line u) m n x y h k q =
    let s = same_text_at p t u x y h.0 k.0 (split t (crlf ++ x) u (crlf ++ y) (sym (append_assoc t crlf x) ∙ (q ∙ append_assoc u crlf y))) in
    (ap Element.line s.0, h.1 ∙ (ap (place_after_line p) s.0 ∙ sym k.1), s.1)
same_first p (Element.line t) (Element.byte c) m n x y h k q = absurd (no_line (suc k.0) t p k.1 h.0)
same_first p (Element.byte b) (Element.line u) m n x y h k q = absurd (no_line (suc h.0) u p h.1 k.0)
same_first p (Element.byte b) (Element.byte c) m n x y h k q =
    let d : Data (suc h.0) ≡ Data (suc k.0) = sym h.1 ∙ k.1 in
    let l : h.0 ≡ k.0 = cc in
    (ap Element.byte (let g : b ≡ c = cc in g), h.2 ∙ (ap data_place l ∙ sym k.2), (cc))

-- of two readings of one list, one goes on where the other stops
abbrev pub GoesOn : List Element → List Element → ChunkPlace → ChunkPlace → List ℕ → List ℕ → Type 0
GoesOn es fs m n x y = (gs : List Element) × (fs ≡ es ++ gs) × ElementsLead m gs n × (x ≡ flat_map print gs ++ y)

one_reading_on : (e f : Element) (es fs : List Element) (m n : ChunkPlace) (x y : List ℕ) → e ≡ f → GoesOn es fs m n x y ⊎ GoesOn fs es n m y x → GoesOn (e ∷ es) (f ∷ fs) m n x y ⊎ GoesOn (f ∷ fs) (e ∷ es) n m y x
one_reading_on e f es fs m n x y q (inl (gs, a, b, c)) = inl (gs, (let d : f ∷ fs ≡ e ∷ (es ++ gs) = cc in d), b, c)
one_reading_on e f es fs m n x y q (inr (gs, a, b, c)) = inr (gs, (let d : e ∷ es ≡ f ∷ (fs ++ gs) = cc in d), b, c)

one_reading : (es fs : List Element) (p m n : ChunkPlace) (x y : List ℕ) → ElementsLead p es m → ElementsLead p fs n → flat_map print es ++ x ≡ flat_map print fs ++ y → GoesOn es fs m n x y ⊎ GoesOn fs es n m y x
one_reading [] fs p m n x y h k q = inl (fs, refl, subst (λ (s : ChunkPlace). ElementsLead s fs n) (sym h) k, q)
one_reading (e ∷ es) [] p m n x y h k q = inr (e ∷ es, refl, subst (λ (s : ChunkPlace). ElementsLead s (e ∷ es) m) (sym k) h, sym q)
one_reading (e ∷ es) (f ∷ fs) p m n x y h k q =
    let s = same_first p e f h.0 k.0 (flat_map print es ++ x) (flat_map print fs ++ y) h.1 k.1
    (sym (append_assoc (print e) (flat_map print es) x) ∙ (q ∙ append_assoc (print f) (flat_map print fs) y)) in
    one_reading_on e f es fs m n x y s.0 (one_reading es fs h.0 m n x y h.2 (subst (λ (w : ChunkPlace). ElementsLead w fs n) (sym s.1) k.2) s.2)

-- a body can be made whole from each place
complete_data : (n : ℕ) → (es : List Element) × ElementsLead (Data (suc n)) es Gap
complete_data zero = (Element.byte 0 ∷ [], (Gap, (zero, refl, refl), refl))
complete_data (suc n) = let r = complete_data n in (Element.byte 0 ∷ r.0, (Data (suc n), (suc n, refl, refl), r.1))

complete_trailers : (n : ℕ) → ElementsLead (Trailers n) (Element.line [] ∷ []) Done
unfolding may_stand place_after_line
complete_trailers n = (Done, (refl, refl), refl)

complete_size : ElementsLead Size (Element.line (48 ∷ []) ∷ Element.line [] ∷ []) Done
unfolding may_stand place_after_line size_of
complete_size = (Trailers 0, (refl, refl), complete_trailers 0)

complete_gap : ElementsLead Gap (Element.line [] ∷ Element.line (48 ∷ []) ∷ Element.line [] ∷ []) Done
unfolding may_stand place_after_line
complete_gap = (Size, (refl, refl), complete_size)

complete : (p : ChunkPlace) → p ≢ Data 0 → p ≢ Wrong → (es : List Element) × ElementsLead p es Done
complete Size h w = (Element.line (48 ∷ []) ∷ Element.line [] ∷ [], complete_size)
complete (Data zero) h w = absurd (h refl)
complete (Data (suc n)) h w = let r = complete_data n in (r.0 ++ (Element.line [] ∷ Element.line (48 ∷ []) ∷ Element.line [] ∷ []), leads_on r.0 _ (Data (suc n)) Gap Done r.1 complete_gap)
complete Gap h w = (Element.line [] ∷ Element.line (48 ∷ []) ∷ Element.line [] ∷ [], complete_gap)
complete (Trailers n) h w = (Element.line [] ∷ [], complete_trailers n)
complete Done h w = ([], refl)
complete Wrong h w = absurd (w refl)

-- what is open can become a whole line
live : (p : ChunkPlace) (k : List ℕ) → p ≢ Data 0 → p ≢ Wrong → IsOpen p k → (more : List ℕ) × (es : List Element) × ElementsLead p es Done × (k ++ more ≡ flat_map print es)
live p k h v (inl e) = let r = complete p h v in (flat_map print r.0, r.0, r.1, ap (λ (w : List ℕ). w ++ flat_map print r.0) e)
live p k h v (inr (inl s)) =
    let r = complete (place_after_line p k) (not_zero p k) (not_wrong p k s) in
    (crlf ++ flat_map print r.0, Element.line k ∷ r.0, (place_after_line p k, (s, refl), r.1), sym (append_assoc k crlf (flat_map print r.0)))
live p k h v (inr (inr (t, s, e))) =
    let r = complete (place_after_line p t) (not_zero p t) (not_wrong p t s) in (
      10 ∷ flat_map print r.0,
      Element.line t ∷ r.0,
      (place_after_line p t, (s, refl), r.1),
      ap (λ (w : List ℕ). w ++ 10 ∷ flat_map print r.0) e ∙ (append_assoc t (13 ∷ []) (10 ∷ flat_map print r.0) ∙ sym (append_assoc t crlf (flat_map print r.0))),
    )

-- what is open holds no whole line
cr_in : (p : ChunkPlace) (text t w : List ℕ) → IsTrue (may_stand p text) → IsTrue (may_stand p t) → Split text (13 ∷ []) t (13 ∷ 10 ∷ w) → ⊥
cr_in p text t w h k (inl ([], e, f)) = cc
cr_in p text t w h k (inl (z ∷ zs, e, f)) =
    no_cr p text zs (subst (λ (v : List ℕ). IsTrue (may_stand p v)) (e ∙ (let q : z ≡ 13 = cc in ap (λ (v : ℕ). text ++ v ∷ zs) q)) k)
cr_in p text t w h k (inr ([], e, f)) = cc
cr_in p text t w h k (inr (z ∷ zs, e, f)) =
    no_cr p t zs (subst (λ (v : List ℕ). IsTrue (may_stand p v)) (e ∙ (let q : z ≡ 13 = cc in ap (λ (v : ℕ). t ++ v ∷ zs) q)) h)

no_line_in : (p : ChunkPlace) (k t w : List ℕ) → IsOpen p k → IsTrue (may_stand p t) → k ≡ t ++ 13 ∷ 10 ∷ w → ⊥
no_line_in p k [] w (inl e) h q = cc
no_line_in p k (x ∷ t) w (inl e) h q = cc
no_line_in p k t w (inr (inl s)) h q = no_cr p t (10 ∷ w) (subst (λ (v : List ℕ). IsTrue (may_stand p v)) q s)
no_line_in p k t w (inr (inr (text, s, e))) h q = cr_in p text t w s h (split text (13 ∷ []) t (13 ∷ 10 ∷ w) (sym e ∙ q))

no_element_open : (p m : ChunkPlace) (k w : List ℕ) (e : Element) → IsOpen p k → ElementLeads p e m → k ≡ print e ++ w → ⊥
no_element_open p m k w (Element.line t) o f q = no_line_in p k t w o f.0 (q ∙ append_assoc t crlf w)
no_element_open p m k w (Element.byte b) o f q =
    let n : k ≡ [] = none_kept (suc f.0) k (subst (λ (s : ChunkPlace). IsOpen s k) f.1 o) in cc

wrong_in : (p : ChunkPlace) (k front t w : List ℕ) (last : ℕ) → k ≡ front ++ last ∷ [] → IsOpen p front → NoLine p k → IsTrue (may_stand p t) → Split front (last ∷ []) (t ++ crlf) w → ⊥
wrong_in p k front t w last a o n h (inl ([], e, f)) = no_line_in p front t [] o h (sym (e ∙ append-nil front))
wrong_in p k front t w last a o n h (inl (z ∷ [], e, f)) = n t [] h (e ∙ ((let q : z ≡ last = cc in ap (λ (v : ℕ). front ++ v ∷ []) q) ∙ (sym a ∙ sym (append-nil k))))
wrong_in p k front t w last a o n h (inl (z ∷ y ∷ zs, e, f)) = cc
wrong_in p k front t w last a o n h (inr (e, a2, f)) = no_line_in p front t e o h (a2 ∙ append_assoc t crlf e)

-- what is kept back holds no whole element
no_element : (s : State) (p m : ChunkPlace) (k w : List ℕ) (e : Element) → Ends s p k → ElementLeads p e m → k ≡ print e ++ w → ⊥
no_element More p m k w e o f q = no_element_open p m k w e o.0 f q
no_element Cut p m k w e o f q = no_element_open p m k w e o.0 f q
no_element Whole p m k w (Element.line []) o f q = let n = o.1 in cc
no_element Whole p m k w (Element.line (x ∷ t)) o f q = let n = o.1 in cc
no_element Whole p m k w (Element.byte b) o f q = let n = o.1 in cc
no_element Misframed p m k w (Element.line t) o f q =
    wrong_in p k o.0 t w o.1 o.2 o.3 o.4 f.0 (split o.0 (o.1 ∷ []) (t ++ crlf) w (sym o.2 ∙ q))
no_element Misframed p m k w (Element.byte b) o f q = o.5 (suc f.0) f.1

done_no_line : (t : List ℕ) → IsTrue (may_stand Done t) → ⊥
unfolding may_stand
done_no_line t h = cc

from_done : (es : List Element) (p : ChunkPlace) → ElementsLead Done es p → (es ≡ []) × (p ≡ Done)
from_done [] p h = (refl, h)
from_done (Element.line t ∷ es) p h = absurd (done_no_line t h.1.0)
from_done (Element.byte b ∷ es) p h = let e = h.1.1 in cc

-- no other whole elements stand at the front than those put out, or fewer
fewer_at : (s : State) (p q : ChunkPlace) (k rest : List ℕ) (es hs : List Element) → Ends s p k → GoesOn hs es q p rest k ⊎ GoesOn es hs p q k rest → (gs : List Element) × (es ≡ hs ++ gs) × ElementsLead q gs p
fewer_at s p q k rest es hs o (inl (gs, a, b, c)) = (gs, a, b)
fewer_at s p q k rest es hs o (inr ([], a, b, c)) = ([], sym (a ∙ append-nil es) ∙ sym (append-nil hs), sym b)
fewer_at s p q k rest es hs o (inr (g ∷ gs, a, b, c)) =
    absurd (no_element s p b.0 k (flat_map print gs ++ rest) g o b.1 (c ∙ append_assoc (print g) (flat_map print gs) rest))

-- no other whole elements, as one call
pub fewer : (s : State) (p q : ChunkPlace) (k rest : List ℕ) (es hs : List Element) → Ends s p k → ElementsLead Size es p → ElementsLead Size hs q → flat_map print hs ++ rest ≡ flat_map print es ++ k → (gs : List Element) × (es ≡ hs ++ gs) × ElementsLead q gs p
fewer s p q k rest es hs o h l e = fewer_at s p q k rest es hs o (one_reading hs es Size q p rest k l h e)

go_on : (es : List Element) (p : ChunkPlace) (k : List ℕ) → ElementsLead Size es p → p ≢ Data 0 → p ≢ Wrong → IsOpen p k → CanGoOn (flat_map print es ++ k)
go_on es p k l h v o =
    let r = live p k h v o in (
      r.0,
      (
        flat_map data_of (es ++ r.1),
        record {
          elements = es ++ r.1;
          leads = leads_on es r.1 Size p Done l r.2;
          bytes_are = append_assoc (flat_map print es) k r.0 ∙ (ap (λ (w : List ℕ). flat_map print es ++ w) r.3 ∙ sym (flat_on print es r.1));
          data_is = refl;
        },
      ),
    )

not_yet : (s : State) (p : ChunkPlace) (k rest bytes : List ℕ) (es : List Element) → Ends s p k → p ≢ Done → ElementsLead Size es p → bytes ++ rest ≡ flat_map print es ++ k → IsBody bytes → ⊥
not_yet s p k rest bytes es o ne l q b =
    let e = b.1 in
    let f = fewer s p Done k rest es e.elements o l e.leads (ap (λ (w : List ℕ). w ++ rest) (sym e.bytes_are) ∙ q) in
    ne (from_done f.0 p f.2).1

never_nil : (front : List ℕ) (last : ℕ) (more : List ℕ) → (front ++ last ∷ []) ++ more ≡ [] → ⊥
never_nil [] last more h = cc
never_nil (x ∷ xs) last more h = cc

some_kept : (p : ChunkPlace) (k more : List ℕ) → Ends Misframed p k → k ++ more ≡ [] → ⊥
some_kept p k more o h = never_nil o.0 o.1 more (ap (λ (w : List ℕ). w ++ more) (sym o.2) ∙ h)

line_over : (p m : ChunkPlace) (k more t w : List ℕ) → Ends Misframed p k → ElementLeads p (Element.line t) m → Split k more (t ++ crlf) w → ⊥
line_over p m k more t w o f (inl (e, a, b)) = o.4 t e f.0 a
line_over p m k more t w o f (inr (e, a, b)) = no_element Misframed p m k e (Element.line t) o f a

over_at : (p : ChunkPlace) (k more : List ℕ) (es hs : List Element) → Ends Misframed p k → GoesOn es hs p Done (k ++ more) [] ⊎ GoesOn hs es Done p [] (k ++ more) → ⊥
over_at p k more es hs o (inl ([], a, b, c)) = some_kept p k more o c
over_at p k more es hs o (inl (Element.line t ∷ gs, a, b, c)) =
    line_over p b.0 k more t (flat_map print gs) o b.1
    (split k more (t ++ crlf) (flat_map print gs) (c ∙ append-nil ((t ++ crlf) ++ flat_map print gs)))
over_at p k more es hs o (inl (Element.byte d ∷ gs, a, b, c)) = o.5 (suc b.1.0) b.1.1
over_at p k more es hs o (inr ([], a, b, c)) = some_kept p k more o (sym c)
over_at p k more es hs o (inr (g ∷ gs, a, b, c)) = let n = (from_done (g ∷ gs) p b).0 in cc

over : (p : ChunkPlace) (k : List ℕ) (es : List Element) → Ends Misframed p k → ElementsLead Size es p → CanGoOn (flat_map print es ++ k) → ⊥
over p k es o l (more, (d, b)) =
    over_at p k more es b.elements o (one_reading es b.elements Size p Done (k ++ more) [] l b.leads
    (sym (append_assoc (flat_map print es) k more) ∙ (b.bytes_are ∙ sym (append-nil (flat_map print b.elements)))))

one_less : (bytes front : List ℕ) (last used : ℕ) → used ≤ length bytes → take used bytes ≡ front ++ last ∷ [] → (0 < used) × (take (used - 1) bytes ≡ front)
one_less bytes front last used w h =
    let n : used ≡ length front + 1 = sym (length-take-le used bytes w) ∙ (ap length h ∙ length_push front last) in
    (omega arith, sym (take-take (used - 1) used bytes (omega arith)) ∙ (ap (λ (v : List ℕ). take (used - 1) v) h ∙ take_at front (last ∷ []) (used - 1) (omega arith)))

pub shorter : (r raw : List ℕ) (hs gs es : List Element) → r ≡ flat_map print hs → raw ≡ flat_map print es → es ≡ hs ++ gs → length r ≤ length raw
shorter r raw hs gs es a b c =
    let n : length raw ≡ length (flat_map print hs) + length (flat_map print gs) =
    ap length (b ∙ (ap (λ (x : List Element). flat_map print x) c ∙ flat_on print hs gs)) ∙ length-append (flat_map print hs) (flat_map print gs) in
    let m : length r ≡ length (flat_map print hs) = ap length a in omega arith

pub says_of : (s : State) (bytes kept : List ℕ) (used : ℕ) (p : ChunkPlace) (es : List Element) → used ≤ length bytes → (s ≡ More → used ≡ length bytes) → ElementsLead Size es p → take used bytes ≡ flat_map print es ++ kept → Ends s p kept → StateSays s bytes used
says_of Whole bytes kept used p es w m l e o = (
  flat_map data_of es,
  record {
    elements = es;
    leads = subst (λ (q : ChunkPlace). ElementsLead Size es q) o.0 l;
    bytes_are = e ∙ (ap (λ (v : List ℕ). flat_map print es ++ v) o.1 ∙ append-nil (flat_map print es));
    data_is = refl;
  },
)
says_of More bytes kept used p es w m l e o =
    let all : take used bytes ≡ bytes = take_all used bytes (let n = m refl in omega arith) in
    (m refl, subst CanGoOn (sym e ∙ all) (go_on es p kept l o.2 o.3 o.0), λ n b. not_yet More p kept (drop n bytes) (take n bytes) es o o.1 l (take-append-drop n bytes ∙ (sym all ∙ e)) b)
says_of Cut bytes kept used p es w m l e o =
    (subst CanGoOn (sym e) (go_on es p kept l o.2 o.3 o.0), λ n b. not_yet Cut p kept (drop n (take used bytes)) (take n (take used bytes)) es o o.1 l (take-append-drop n (take used bytes) ∙ e) b)
says_of Misframed bytes kept used p es w m l e o =
    let s = one_less bytes (flat_map print es ++ o.0) o.1 used w (e ∙ (ap (λ (v : List ℕ). flat_map print es ++ v) o.2 ∙ sym (append_assoc (flat_map print es) o.0 (o.1 ∷ [])))) in
    (s.0, subst CanGoOn (sym s.1) (go_on es p o.0 l (o.5 0) o.7 o.3), λ g. over p kept es o l (subst CanGoOn e g), λ n b. not_yet Misframed p kept (drop n (take used bytes)) (take n (take used bytes)) es o o.6 l (take-append-drop n (take used bytes) ∙ e) b)

-- what can go on could before
go_front : (bytes : List ℕ) (n : ℕ) → CanGoOn bytes → CanGoOn (take n bytes)
go_front bytes n (more, b) = (drop n bytes ++ more, subst IsBody (ap (λ (v : List ℕ). v ++ more) (sym (take-append-drop n bytes)) ∙ append_assoc (take n bytes) (drop n bytes) more) b)

go_within : (bytes : List ℕ) (m n : ℕ) → m ≤ n → CanGoOn (take n bytes) → CanGoOn (take m bytes)
go_within bytes m n h g = subst CanGoOn (take-take m n bytes h) (go_front (take n bytes) m g)

body_goes : (bytes : List ℕ) → IsBody bytes → CanGoOn bytes
body_goes bytes b = ([], subst IsBody (sym (append-nil bytes)) b)

one_body_at : (a b : List ℕ) (es fs : List Element) (x y : List ℕ) → a ≡ flat_map print es → b ≡ flat_map print fs → GoesOn es fs Done Done x y ⊎ GoesOn fs es Done Done y x → a ≡ b
one_body_at a b es fs x y p q (inl (gs, c, d, e)) =
    let n = (from_done gs Done d).0 in p ∙ (ap (flat_map print) (sym (append-nil es) ∙ (ap (λ (v : List Element). es ++ v) (sym n) ∙ sym c)) ∙ sym q)
one_body_at a b es fs x y p q (inr (gs, c, d, e)) =
    let n = (from_done gs Done d).0 in p ∙ (ap (flat_map print) (c ∙ (ap (λ (v : List Element). fs ++ v) n ∙ append-nil fs)) ∙ sym q)

-- no body begins another
one_body : (a b x y : List ℕ) → IsBody a → IsBody b → a ++ x ≡ b ++ y → a ≡ b
one_body a b x y (d, g) (e, h) q =
    one_body_at a b g.elements h.elements x y g.bytes_are h.bytes_are (one_reading g.elements h.elements Size Done Done x y g.leads h.leads
    (ap (λ (v : List ℕ). v ++ x) (sym g.bytes_are) ∙ (q ∙ ap (λ (v : List ℕ). v ++ y) h.bytes_are)))

whole_once : (bytes : List ℕ) (m n : ℕ) → m ≤ length bytes → n ≤ length bytes → IsBody (take m bytes) → IsBody (take n bytes) → m ≡ n
whole_once bytes m n h k a b =
    let e = one_body (take m bytes) (take n bytes) (drop m bytes) (drop n bytes) a b (take-append-drop m bytes ∙ sym (take-append-drop n bytes)) in
    sym (length-take-le m bytes h) ∙ (ap length e ∙ length-take-le n bytes k)

whole_or_wrong : (bytes : List ℕ) (m n : ℕ) → IsBody (take m bytes) → (CanGoOn (take n bytes) → ⊥) → NoBody (take n bytes) → (n ≤ m) ⊎ (m ≤ n) → ⊥
whole_or_wrong bytes m n b c d (inl h) = c (go_within bytes n m h (body_goes (take m bytes) b))
whole_or_wrong bytes m n b c d (inr h) = d m (subst IsBody (sym (take-take m n bytes h)) b)

wrong_once : (bytes : List ℕ) (m n : ℕ) → StateSays Misframed bytes m → StateSays Misframed bytes n → (m < n) ⊎ ((m ≡ n) ⊎ (n < m)) → m ≡ n
wrong_once bytes m n s t (inl h) = absurd (s.2 (go_within bytes m (n - 1) (omega arith) t.1))
wrong_once bytes m n s t (inr (inl e)) = e
wrong_once bytes m n s t (inr (inr h)) = absurd (t.2 (go_within bytes n (m - 1) (omega arith) s.1))

less_or_not : (m n : ℕ) → (m < n) ⊎ ((m ≡ n) ⊎ (n < m))
less_or_not m n = grind arith

under_or_over : (m n : ℕ) → (n ≤ m) ⊎ (m ≤ n)
under_or_over m n = grind arith

-- bytes have one state
pub one_state : (bytes : List ℕ) (m n : ℕ) (s t : State) → m ≤ length bytes → n ≤ length bytes → s ≢ Cut → t ≢ Cut → StateSays s bytes m → StateSays t bytes n → (s ≡ t) × (m ≡ n)
one_state bytes m n Cut t h k a b x y = absurd (a refl)
one_state bytes m n More Cut h k a b x y = absurd (b refl)
one_state bytes m n Whole Cut h k a b x y = absurd (b refl)
one_state bytes m n Misframed Cut h k a b x y = absurd (b refl)
one_state bytes m n More More h k a b x y = (refl, x.0 ∙ sym y.0)
one_state bytes m n More Whole h k a b x y = absurd (x.2 n y)
one_state bytes m n More Misframed h k a b x y = absurd (y.2 (go_front bytes n x.1))
one_state bytes m n Whole More h k a b x y = absurd (y.2 m x)
one_state bytes m n Whole Whole h k a b x y = (refl, whole_once bytes m n h k x y)
one_state bytes m n Whole Misframed h k a b x y = absurd (whole_or_wrong bytes m n x y.2 y.3 (under_or_over m n))
one_state bytes m n Misframed More h k a b x y = absurd (x.2 (go_front bytes m y.1))
one_state bytes m n Misframed Whole h k a b x y = absurd (whole_or_wrong bytes n m y x.2 x.3 (under_or_over n m))
one_state bytes m n Misframed Misframed h k a b x y = (refl, wrong_once bytes m n x y (less_or_not m n))

pub same_length : (a b x y : List ℕ) → a ++ x ≡ b ++ y → length a ≡ length b → a ≡ b
same_length a b x y q n = sym (take_at a x (length a) refl) ∙ (ap (λ (v : List ℕ). take (length a) v) q ∙ take_at b y (length a) (sym n))

none_printed : (gs : List Element) → flat_map print gs ≡ [] → gs ≡ []
none_printed [] h = refl
none_printed (Element.line [] ∷ gs) h = cc
none_printed (Element.line (x ∷ t) ∷ gs) h = cc
none_printed (Element.byte b ∷ gs) h = cc

same_data_at : (es fs : List Element) (m n : ChunkPlace) → GoesOn es fs m n [] [] ⊎ GoesOn fs es n m [] [] → flat_map data_of es ≡ flat_map data_of fs
same_data_at es fs m n (inl (gs, a, b, c)) =
    let e = none_printed gs (sym (append-nil (flat_map print gs)) ∙ sym c) in
    ap (flat_map data_of) (sym (append-nil es) ∙ (ap (λ (v : List Element). es ++ v) (sym e) ∙ sym a))
same_data_at es fs m n (inr (gs, a, b, c)) =
    let e = none_printed gs (sym (append-nil (flat_map print gs)) ∙ sym c) in
    ap (flat_map data_of) (a ∙ (ap (λ (v : List Element). fs ++ v) e ∙ append-nil fs))

pub same_data : (raw p q : List ℕ) (m n : ChunkPlace) → AreElements raw p m → AreElements raw q n → p ≡ q
same_data raw p q m n a b =
    a.data_is ∙ (same_data_at a.elements b.elements m n (one_reading a.elements b.elements Size m n [] [] a.leads b.leads
    (ap (λ (v : List ℕ). v ++ []) (sym a.bytes_are ∙ b.bytes_are))) ∙ sym b.data_is)

-- bytes have one state and one number of used bytes, those cut at the limit too
pub one_end : (bytes : List ℕ) (m n : ℕ) (s t : State) → m ≤ length bytes → n ≤ length bytes → StateSays s bytes m → StateSays t bytes n → KeepsLimit s m → KeepsLimit t n → (s ≡ t) × (m ≡ n)
one_end bytes m n Cut Cut h k x y a b = (refl, a ∙ sym b)
one_end bytes m n Cut More h k x y a b = let l = y.0 in absurd (omega arith)
one_end bytes m n Cut Whole h k x y a b = absurd (x.1 n (subst IsBody (sym (take-take n m bytes (omega arith))) y))
one_end bytes m n Cut Misframed h k x y a b = absurd (y.2 (go_within bytes n m (omega arith) x.0))
one_end bytes m n More Cut h k x y a b = let l = x.0 in absurd (omega arith)
one_end bytes m n Whole Cut h k x y a b = absurd (y.1 m (subst IsBody (sym (take-take m n bytes (omega arith))) x))
one_end bytes m n Misframed Cut h k x y a b = absurd (x.2 (go_within bytes m n (omega arith) y.0))
one_end bytes m n More More h k x y a b = one_state bytes m n More More h k (λ e. cc) (λ e. cc) x y
one_end bytes m n More Whole h k x y a b = one_state bytes m n More Whole h k (λ e. cc) (λ e. cc) x y
one_end bytes m n More Misframed h k x y a b = one_state bytes m n More Misframed h k (λ e. cc) (λ e. cc) x y
one_end bytes m n Whole More h k x y a b = one_state bytes m n Whole More h k (λ e. cc) (λ e. cc) x y
one_end bytes m n Whole Whole h k x y a b = one_state bytes m n Whole Whole h k (λ e. cc) (λ e. cc) x y
one_end bytes m n Whole Misframed h k x y a b = one_state bytes m n Whole Misframed h k (λ e. cc) (λ e. cc) x y
one_end bytes m n Misframed More h k x y a b = one_state bytes m n Misframed More h k (λ e. cc) (λ e. cc) x y
one_end bytes m n Misframed Whole h k x y a b = one_state bytes m n Misframed Whole h k (λ e. cc) (λ e. cc) x y
one_end bytes m n Misframed Misframed h k x y a b = one_state bytes m n Misframed Misframed h k (λ e. cc) (λ e. cc) x y
