-- Slots in order of their numbers name the same hosts by the same lines.
use Rattle.std.proofs.Common.{◌≡◌, ◌≢◌, ℕ, zero, suc, ◌<◌, ◌≤◌, Bool, true, false, cond, List, [], ◌∷◌, ◌++◌, length, drop, take, get_or, refl, ap, sym, subst, ◌∙◌, arith}
use Rattle.std.specs.Prelude.{Option, None, Some, filter}
use Rattle.std.specs.Cmp.{nat_cmp_is}
use Rattle.std.specs.Prelude.{◌==◌, ◌&&◌, not}
use Rattle.std.specs.declared.cmp.Ordering.TheVariants.{Equal}
use Rattle.std.specs.List.Sorted.{IsNonDecreasingBy, IsStableByKey, ties}
use Rattle.std.specs.Ordering.{is_lt, nat_cmp}
use Rattle.std.specs.Option.{option_or}
use Rattle.std.specs.Str.{str_eq_ignore_ascii_case, str_to_ascii_lowercase}
use Rattle.std.proofs.Common.{◌-◌, ltb, true≢false, length-append, length-drop}
use Rattle.std.proofs.lemmas.List.{drop-append-le, map-append, take-append-le, take_all, take_rest}
use Rattle.std.proofs.lemmas.Bool.{ltb-false, ltb-true}
use Rattle.std.proofs.Math.Seq.{drop-append_seam}
use Rattle.std.proofs.lemmas.List.Elements.{All-head, All-push, All-tail}
use Rattle.std.proofs.lemmas.Slice.Eq.{bytes_eq-Decides}
use Rattle.px_host_lists.specs.Hashes.{hash_from, hash_of}
use Rattle.px_host_lists.specs.Hosts.{HostEntry, SameLines, behind_dot, first_listed, line_above, line_of}
use Rattle.px_host_lists.specs.Slots.{AreSlots, IsSlot, slot_entries, slot_entry, slot_host}
use Rattle.px_host_lists.specs.declared.TheConstants.{DOT}
use Rattle.px_host_lists.specs.declared.slots.Slot.{Slot}

-- the numbers don't fall, and begin with no less
abbrev pub RisesFrom : ℕ → List Slot → Type 0
RisesFrom low [] = Unit {0}
RisesFrom low (slot ∷ slots) = (low ≤ slot.hash) × RisesFrom slot.hash slots

false_unless : (b : Bool) → (b ≡ true → ⊥) → b ≡ false
false_unless true none = absurd (none refl)
false_unless false none = refl

-- hosts that are the same without case have the same number
same_hash : (one other : List ℕ) → str_eq_ignore_ascii_case one other ≡ true → hash_of one ≡ hash_of other
unfolding hash_of
same_hash one other e =
    ap (hash_from 0) ((bytes_eq-Decides (str_to_ascii_lowercase one) (str_to_ascii_lowercase other)).0 e)

-- a slot of another number has another host
differs : (text : List ℕ) (slot : Slot) (host : List ℕ) → IsSlot text slot → slot.hash ≢ hash_of host → str_eq_ignore_ascii_case (slot_host text slot) host ≡ false
differs text slot host fits other = false_unless (str_eq_ignore_ascii_case (slot_host text slot) host) (λ e. other (fits.hash ∙ same_hash (slot_host text slot) host e))

-- a slot of another number is passed over
passed : (text : List ℕ) (slot : Slot) (slots : List Slot) (host : List ℕ) → IsSlot text slot → slot.hash ≢ hash_of host →
    line_of (slot_entries text (slot ∷ slots)) host ≡ line_of (slot_entries text slots) host
unfolding line_of
passed text slot slots host fits other = ap (λ b. cond b (Some slot.line) (line_of (slot_entries text slots) host)) (differs text slot host fits other)

pub found_here : (text : List ℕ) (slot : Slot) (slots : List Slot) (host : List ℕ) → str_eq_ignore_ascii_case (slot_host text slot) host ≡ true →
    line_of (slot_entries text (slot ∷ slots)) host ≡ Some slot.line
unfolding line_of
found_here text slot slots host e = ap (λ b. cond b (Some slot.line) (line_of (slot_entries text slots) host)) e

pub not_here : (text : List ℕ) (slot : Slot) (slots : List Slot) (host : List ℕ) → str_eq_ignore_ascii_case (slot_host text slot) host ≡ false →
    line_of (slot_entries text (slot ∷ slots)) host ≡ line_of (slot_entries text slots) host
unfolding line_of
not_here text slot slots host e = ap (λ b. cond b (Some slot.line) (line_of (slot_entries text slots) host)) e

pub none_left : (text host : List ℕ) → line_of (slot_entries text []) host ≡ None
unfolding line_of
none_left text host = refl

-- slots of greater numbers don't name the host
pub none_above : (text : List ℕ) (slots : List Slot) (host : List ℕ) (low : ℕ) → RisesFrom low slots → hash_of host < low → AreSlots text slots → line_of (slot_entries text slots) host ≡ None
none_above text [] host low rises less fits = none_left text host
none_above text (slot ∷ slots) host low rises less fits =
    passed text slot slots host (All-head (IsSlot text) slot slots fits) (λ e. omega (arith, rises.0, e))
    ∙ none_above text slots host slot.hash rises.1 (omega (arith, rises.0)) (All-tail (IsSlot text) slot slots fits)

-- slots of smaller numbers are passed over
pub skipped : (text : List ℕ) (slots : List Slot) (host : List ℕ) (n : ℕ) → ((k : ℕ) (d : Slot) → k < n → (get_or slots k d).hash < hash_of host) → AreSlots text slots →
    line_of (slot_entries text slots) host ≡ line_of (slot_entries text (drop n slots)) host
skipped text slots host zero below fits = refl
skipped text [] host (suc n) below fits = refl
skipped text (slot ∷ slots) host (suc n) below fits =
    passed text slot slots host (All-head (IsSlot text) slot slots fits) (let less : slot.hash < hash_of host = below 0 slot (omega arith) in λ e. omega (arith, e))
    ∙ skipped text slots host n (λ k d lt. below (suc k) d (omega arith)) (All-tail (IsSlot text) slot slots fits)

pub fits_behind : (text : List ℕ) (slots : List Slot) (n : ℕ) → AreSlots text slots → AreSlots text (drop n slots)
fits_behind text slots zero fits = fits
fits_behind text [] (suc n) fits = fits
fits_behind text (slot ∷ slots) (suc n) fits = fits_behind text slots n (All-tail (IsSlot text) slot slots fits)

rises_all : (low : ℕ) (slots : List Slot) → IsNonDecreasingBy (λ s. s.hash) slots → ((d : Slot) → 0 < length slots → low ≤ (get_or slots 0 d).hash) → RisesFrom low slots
rises_all low [] up from = tt
rises_all low (slot ∷ slots) up from =
    (from slot (omega arith), rises_all slot.hash slots (λ i j d le lt. up (suc i) (suc j) d (omega arith) (omega arith)) (λ d lt. up 0 1 d (omega arith) (omega arith)))

pub rises_from : (slots : List Slot) (n least : ℕ) → IsNonDecreasingBy (λ s. s.hash) slots → ((k : ℕ) (d : Slot) → n ≤ k → k < length slots → least ≤ (get_or slots k d).hash) → RisesFrom least (drop n slots)
rises_from slots zero least up above = rises_all least slots up (λ d lt. above 0 d (omega arith) lt)
rises_from [] (suc n) least up above = tt
rises_from (slot ∷ slots) (suc n) least up above =
    rises_from slots n least (λ i j d le lt. up (suc i) (suc j) d (omega arith) (omega arith)) (λ k d ge lt. above (suc k) d (omega arith) (omega arith))

-- ---- the walk over the slots of one number

pub begun_same : (text : List ℕ) (slots : List Slot) (host : List ℕ) (n hash : ℕ) → hash ≡ hash_of host → AreSlots text slots →
    ((k : ℕ) (d : Slot) → 0 ≤ k → k < n → ltb (get_or slots k d).hash hash ≡ true) →
    line_of (slot_entries text slots) host ≡ line_of (slot_entries text (take (length slots - n) (drop n slots))) host
begun_same text slots host n hash is fits below =
    skipped text slots host n (λ k d lt. let less : (get_or slots k d).hash < hash = ltb-true (get_or slots k d).hash hash (below k d (omega arith) lt) in omega (arith, less, is)) fits
    ∙ ap (λ l. line_of (slot_entries text l) host) (sym (take_rest slots n))

pub begun_fits : (text : List ℕ) (slots : List Slot) (n : ℕ) → AreSlots text slots → AreSlots text (take (length slots - n) (drop n slots))
begun_fits text slots n fits = subst (AreSlots text) (sym (take_rest slots n)) (fits_behind text slots n fits)

pub begun_rises : (slots : List Slot) (n hash : ℕ) → IsNonDecreasingBy (λ s. s.hash) slots →
    ((k : ℕ) (d : Slot) → n ≤ k → k < length slots → ltb (get_or slots k d).hash hash ≡ false) → RisesFrom hash (take (length slots - n) (drop n slots))
begun_rises slots n hash up above =
    subst (RisesFrom hash) (sym (take_rest slots n)) (rises_from slots n hash up (λ k d ge lt. ltb-false (get_or slots k d).hash hash (above k d ge lt)))

-- what the list says where the walk stands
pub at_rest : (text : List ℕ) (rest : List Slot) (host : List ℕ) (slot : Slot) (more : List Slot) → rest ≡ slot ∷ more →
    line_of (slot_entries text rest) host ≡ line_of (slot_entries text (slot ∷ more)) host
at_rest text rest host slot more e = ap (λ l. line_of (slot_entries text l) host) e

pub stopped : (text : List ℕ) (rest : List Slot) (host : List ℕ) (slot : Slot) (more : List Slot) (hash : ℕ) → hash ≡ hash_of host → rest ≡ slot ∷ more → AreSlots text rest → RisesFrom hash rest →
    slot.hash ≢ hash → line_of (slot_entries text rest) host ≡ None
stopped text rest host slot more hash is e fits rises other =
    let f : AreSlots text (slot ∷ more) = subst (AreSlots text) e fits in
    let r : RisesFrom hash (slot ∷ more) = subst (RisesFrom hash) e rises in
    let least : hash ≤ slot.hash = r.0 in
    at_rest text rest host slot more e ∙ none_above text (slot ∷ more) host slot.hash (omega arith, r.1) (omega (arith, least, other, is)) f

pub ended : (text : List ℕ) (rest : List Slot) (host : List ℕ) → length rest ≡ 0 → line_of (slot_entries text rest) host ≡ None
ended text [] host none = none_left text host
ended text (slot ∷ rest) host none = absurd (omega (arith, none))

-- ---- a stable order

-- whether a slot has the same number as another
abbrev tied : Slot → Slot → Bool
tied = ties (λ x y. is_lt (nat_cmp x.hash y.hash))

tied-same : (one other : Slot) → one.hash ≡ other.hash → tied one other ≡ true
tied-same one other e =
    let p : is_lt (nat_cmp one.hash other.hash) ≡ false = ap (λ n. is_lt (nat_cmp one.hash n)) (sym e) ∙ ap is_lt (sym (nat_cmp_is one.hash one.hash Equal refl)) in
    let q : is_lt (nat_cmp other.hash one.hash) ≡ false = ap (λ n. is_lt (nat_cmp n one.hash)) (sym e) ∙ ap is_lt (sym (nat_cmp_is one.hash one.hash Equal refl)) in
    ap (λ b. not b && not (is_lt (nat_cmp other.hash one.hash))) p ∙ ap (λ b. not false && not b) q

tied_step : (text : List ℕ) (slot : Slot) (slots rest : List Slot) (host : List ℕ) (one : Slot) (b : Bool) → one.hash ≡ hash_of host → IsSlot text slot → tied one slot ≡ b →
    line_of (slot_entries text slots) host ≡ line_of (slot_entries text rest) host →
    line_of (slot_entries text (slot ∷ slots)) host ≡ line_of (slot_entries text (cond b (slot ∷ rest) rest)) host
unfolding line_of
tied_step text slot slots rest host one true is fits e same = ap (λ l. cond (str_eq_ignore_ascii_case (slot_host text slot) host) (Some slot.line) l) same
tied_step text slot slots rest host one false is fits e same =
    passed text slot slots host fits (λ s. let t : tied one slot ≡ true = tied-same one slot (is ∙ sym s) in true≢false (sym t ∙ e)) ∙ same

-- only slots of the host's number count
only_tied : (text : List ℕ) (slots : List Slot) (host : List ℕ) (one : Slot) → one.hash ≡ hash_of host → AreSlots text slots →
    line_of (slot_entries text slots) host ≡ line_of (slot_entries text (filter (tied one) slots)) host
only_tied text [] host one is fits = refl
only_tied text (slot ∷ slots) host one is fits =
    tied_step text slot slots (filter (tied one) slots) host one (tied one slot) is (All-head (IsSlot text) slot slots fits) refl (only_tied text slots host one is (All-tail (IsSlot text) slot slots fits))

same_line : (text : List ℕ) (slots sorted : List Slot) → AreSlots text slots → AreSlots text sorted → IsStableByKey (λ s. s.hash) nat_cmp slots sorted →
    (host : List ℕ) → line_of (slot_entries text sorted) host ≡ line_of (slot_entries text slots) host
same_line text slots sorted fits sorted_fits stable host =
    let one : Slot = record { hash = hash_of host; start = 0; line = 0; len = 0 } in
    only_tied text sorted host one refl sorted_fits ∙ (ap (λ l. line_of (slot_entries text l) host) (stable one) ∙ sym (only_tied text slots host one refl fits))

same_above : (es fs : List HostEntry) → ((host : List ℕ) → line_of es host ≡ line_of fs host) → (bytes : List ℕ) → line_above es bytes ≡ line_above fs bytes
unfolding line_above
same_above es fs same [] = refl
same_above es fs same (b ∷ bytes) =
    ap (λ l. cond (b == DOT) (option_or l (line_above es bytes)) (line_above es bytes)) (same bytes) ∙ ap (λ l. cond (b == DOT) (option_or (line_of fs bytes) l) l) (same_above es fs same bytes)

same_first : (es fs : List HostEntry) → ((host : List ℕ) → line_of es host ≡ line_of fs host) → SameLines es fs
unfolding first_listed
same_first es fs same host = ap (λ l. option_or l (line_above es host)) (same host) ∙ ap (λ l. option_or (line_of fs host) l) (same_above es fs same host)

pub same_lines : (text : List ℕ) (slots sorted : List Slot) → AreSlots text slots → AreSlots text sorted → IsStableByKey (λ s. s.hash) nat_cmp slots sorted →
    SameLines (slot_entries text sorted) (slot_entries text slots)
same_lines text slots sorted fits sorted_fits stable = same_first (slot_entries text sorted) (slot_entries text slots) (same_line text slots sorted fits sorted_fits stable)

-- ---- the labels of a host

abbrev pub above_at : List HostEntry → Option (List ℕ) → Option ℕ
above_at entries None = None
above_at entries (Some host) = first_listed entries host

above_step : (entries : List HostEntry) (bytes : List ℕ) (b : Bool) → line_above entries bytes ≡ above_at entries (behind_dot bytes) →
    cond b (option_or (line_of entries bytes) (line_above entries bytes)) (line_above entries bytes) ≡ above_at entries (cond b (Some bytes) (behind_dot bytes))
unfolding first_listed
above_step entries bytes true same = refl
above_step entries bytes false same = same

pub above_behind : (entries : List HostEntry) (bytes : List ℕ) → line_above entries bytes ≡ above_at entries (behind_dot bytes)
unfolding behind_dot line_above
above_behind entries [] = refl
above_behind entries (b ∷ bytes) = above_step entries bytes (b == DOT) (above_behind entries bytes)

-- where the host itself isn't named, what stands behind its first dot counts
pub first_behind : (entries : List HostEntry) (host : List ℕ) → line_of entries host ≡ None → first_listed entries host ≡ above_at entries (behind_dot host)
unfolding first_listed
first_behind entries host none = ap (λ l. option_or l (line_above entries host)) none ∙ above_behind entries host

pub first_here : (entries : List HostEntry) (host : List ℕ) (line : ℕ) → line_of entries host ≡ Some line → first_listed entries host ≡ Some line
unfolding first_listed
first_here entries host line some = ap (λ l. option_or l (line_above entries host)) some

-- ---- one host more

more_host : (text more : List ℕ) (slot : Slot) → IsSlot text slot → slot_host (text ++ more) slot ≡ slot_host text slot
more_host text more slot fits =
    ap (take slot.len) (drop-append-le slot.start text more (omega (arith, fits.within)))
    ∙ take-append-le slot.len (drop slot.start text) more (omega (arith, fits.within, length-drop slot.start text))

pub more_slots : (text more : List ℕ) (slots : List Slot) → AreSlots text slots → AreSlots (text ++ more) slots
more_slots text more slots fits k d lt =
    let one : IsSlot text (get_or slots k d) = fits k d lt in
    record { within = omega (arith, one.within, length-append text more); hash = one.hash ∙ ap hash_of (sym (more_host text more (get_or slots k d) one)) }

more_entries : (text more : List ℕ) (slots : List Slot) → AreSlots text slots → slot_entries (text ++ more) slots ≡ slot_entries text slots
more_entries text more [] fits = refl
more_entries text more (slot ∷ slots) fits =
    ap (λ h. record { line = slot.line; host = h } ∷ slot_entries (text ++ more) slots) (more_host text more slot (All-head (IsSlot text) slot slots fits))
    ∙ ap (λ l. slot_entry text slot ∷ l) (more_entries text more slots (All-tail (IsSlot text) slot slots fits))

new_host : (text host : List ℕ) → take (length host) (drop (length text) (text ++ host)) ≡ host
new_host text host = ap (take (length host)) (drop-append_seam text host) ∙ take_all (length host) host (omega arith)

slot_host_new : (text host : List ℕ) (slot : Slot) → slot.start ≡ length text → slot.len ≡ length host → slot_host (text ++ host) slot ≡ host
slot_host_new text host slot start len =
    ap (λ n. take slot.len (drop n (text ++ host))) start ∙ (ap (λ n. take n (drop (length text) (text ++ host))) len ∙ new_host text host)

added : (text host : List ℕ) (slots : List Slot) (slot : Slot) → slot.start ≡ length text → slot.len ≡ length host → AreSlots text slots →
    slot_entries (text ++ host) (slots ++ slot ∷ []) ≡ slot_entries text slots ++ record { line = slot.line; host = host } ∷ []
added text host slots slot start len fits =
    map-append (slot_entry (text ++ host)) slots (slot ∷ [])
    ∙ (ap (λ l. l ++ slot_entry (text ++ host) slot ∷ []) (more_entries text host slots fits)
    ∙ ap (λ h. slot_entries text slots ++ record { line = slot.line; host = h } ∷ []) (slot_host_new text host slot start len))

pub pushed_entries : (text host longer : List ℕ) (slots more : List Slot) (slot : Slot) → longer ≡ text ++ host → more ≡ slots ++ slot ∷ [] →
    slot.start ≡ length text → slot.len ≡ length host → AreSlots text slots →
    slot_entries longer more ≡ slot_entries text slots ++ record { line = slot.line; host = host } ∷ []
pushed_entries text host longer slots more slot l m start len fits =
    ap (λ t. slot_entries t more) l ∙ (ap (λ s. slot_entries (text ++ host) s) m ∙ added text host slots slot start len fits)

pub pushed_slots : (text host longer : List ℕ) (slots more : List Slot) (slot : Slot) → longer ≡ text ++ host → more ≡ slots ++ slot ∷ [] →
    slot.start ≡ length text → slot.len ≡ length host → slot.hash ≡ hash_of host → AreSlots text slots → AreSlots longer more
pushed_slots text host longer slots more slot l m start len hash fits =
    let one : IsSlot (text ++ host) slot = record { within = omega (arith, length-append text host, start, len); hash = hash ∙ ap hash_of (sym (slot_host_new text host slot start len)) } in
    subst (λ t. AreSlots t more) (sym l) (subst (AreSlots (text ++ host)) (sym m) (All-push (IsSlot (text ++ host)) slots slot (more_slots text host slots fits) one))
