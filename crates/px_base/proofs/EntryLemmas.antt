-- The entries of a dialer in memory, and the dials that they stand for.
use Rattle.std.proofs.Common.{◌≡◌, ℕ, zero, suc, ◌+◌, ◌<◌, ◌≤◌, true, false, ◌==◌, List, [], ◌∷◌, ◌++◌, length, take, set, get_or, sym, ap, ◌∙◌, refl, arith, inl, inr, Result, Ok, Err, length-set}
use Rattle.std.specs.Prelude.{IfOk}
use Rattle.std.proofs.lemmas.List.Edits.{length-insert}
use Rattle.px_base.specs.declared.faults.DialFault.{DialFault}
use Rattle.std.specs.List.{insert}
use Rattle.std.proofs.lemmas.Bool.{or_cases, eqb-true, eq-eqb, ne_eqb, false_from_ne_true}
use Rattle.std.proofs.lemmas.Grind.{common_steps}
use Rattle.px_base.specs.declared.dials.Dial.{Dial}
use Rattle.px_base.specs.declared.dials.LinkNote.{LinkNote}
use Rattle.px_base.specs.declared.entries.DialEntry.{DialEntry}
use Rattle.px_base.specs.declared.entries.DialEntry.TheVariants as entry
use Rattle.px_base.specs.Dials.{Traffic, DialerState, LinkState, IsTold, is_open_at, is_open, finish, finished_links}
use Rattle.px_base.specs.declared.entries.LinkEnd.{LinkEnd}
use Rattle.px_base.specs.Entries.{end_of, first_note, dial_of, notes_behind, merged, is_open_entry, opens_at, more_finished, finished_in, ended, entry_note, IsMarked}

-- an open dial is that of an open entry, whose number is the mark
open_here : (m n : ℕ) (e : DialEntry) (l : LinkNote) → is_open_at m (dial_of n e l).outcome ≡ true → (m ≡ n) × (is_open_entry e ≡ true)
open_here m n (entry.NoName host port) l h = (cc)
open_here m n (entry.NotReached host port) l h = (cc)
open_here m n (entry.Open host port offered) l h = (sym (eqb-true n m h), refl)
open_here m n (entry.Finished offered end) l h = (cc)

pub open_place : (m n : ℕ) (es : List DialEntry) (ls : List LinkNote) → is_open m (merged n es ls) ≡ true → (i : ℕ) × (m ≡ n + i) × (opens_at i es ≡ true)
open_place m n [] ls h = (cc)
open_place m n (e ∷ es) ls h = elim (or_cases (is_open_at m (dial_of n e (first_note ls)).outcome) (is_open m (merged (n + 1) es (notes_behind e ls))) h) [
  | inl here ↦ let p = open_here m n e (first_note ls) here in (0, (omega arith), p.1)
  | inr there ↦ let p = open_place m (n + 1) es (notes_behind e ls) there in (suc p.0, (omega arith), p.2)
]

pub opens-inside : (i : ℕ) (es : List DialEntry) → opens_at i es ≡ true → i < length es
opens-inside i [] h = (cc)
opens-inside zero (e ∷ es) h = omega arith
opens-inside (suc i) (e ∷ es) h = omega (arith, opens-inside i es h)

-- the number above all entries is no mark of an open link
pub fresh_mark : (m : ℕ) (es : List DialEntry) (ls : List LinkNote) → m ≡ length es → is_open m (merged 0 es ls) ≡ false
fresh_mark m es ls e = false_from_ne_true _ (λ h. let p = open_place m 0 es ls h in absurd (omega (arith, opens-inside p.0 es p.2, p.1)))

more_finished-monotone : (e : DialEntry) (m n : ℕ) → m ≤ n → more_finished e m ≤ more_finished e n
more_finished-monotone (entry.NoName host port) m n h = h
more_finished-monotone (entry.NotReached host port) m n h = h
more_finished-monotone (entry.Open host port offered) m n h = h
more_finished-monotone (entry.Finished offered end) m n h = omega arith

more_finished-bounds : (e : DialEntry) (n : ℕ) → (n ≤ more_finished e n) × (more_finished e n ≤ suc n)
more_finished-bounds (entry.NoName host port) n = ((omega arith), (omega arith))
more_finished-bounds (entry.NotReached host port) n = ((omega arith), (omega arith))
more_finished-bounds (entry.Open host port offered) n = ((omega arith), (omega arith))
more_finished-bounds (entry.Finished offered end) n = ((omega arith), (omega arith))

pub finished_in-push : (es : List DialEntry) (e : DialEntry) → ((n : ℕ) → more_finished e n ≡ n) → finished_in (es ++ e ∷ []) ≡ finished_in es
finished_in-push [] e h = h 0
finished_in-push (x ∷ es) e h = ap (more_finished x) (finished_in-push es e h)

pub finished_in-le : (es : List DialEntry) → finished_in es ≤ length es
finished_in-le [] = omega arith
finished_in-le (e ∷ es) = omega (arith, finished_in-le es, (more_finished-bounds e (finished_in es)).1)

pub finished_in-take : (i : ℕ) (es : List DialEntry) → finished_in (take i es) ≤ finished_in es
finished_in-take i [] = grind (arith, common_steps)
finished_in-take zero (e ∷ es) = omega arith
finished_in-take (suc i) (e ∷ es) = more_finished-monotone e (finished_in (take i es)) (finished_in es) (finished_in-take i es)

open_unfinished : (e : DialEntry) (n : ℕ) → is_open_entry e ≡ true → more_finished e n ≡ n
open_unfinished (entry.NoName host port) n h = (cc)
open_unfinished (entry.NotReached host port) n h = (cc)
open_unfinished (entry.Open host port offered) n h = refl
open_unfinished (entry.Finished offered end) n h = (cc)

-- an open link isn't counted
pub finished_in-open : (i : ℕ) (es : List DialEntry) → opens_at i es ≡ true → finished_in es < length es
finished_in-open i [] h = (cc)
finished_in-open zero (e ∷ es) h = omega (arith, finished_in-le es, open_unfinished e (finished_in es) h)
finished_in-open (suc i) (e ∷ es) h = omega (arith, finished_in-open i es h, (more_finished-bounds e (finished_in es)).1)

ended_finished : (end : LinkEnd) (e : DialEntry) (n : ℕ) → is_open_entry e ≡ true → more_finished (ended end e) n ≡ suc n
ended_finished end (entry.NoName host port) n h = (cc)
ended_finished end (entry.NotReached host port) n h = (cc)
ended_finished end (entry.Open host port offered) n h = refl
ended_finished end (entry.Finished offered before) n h = (cc)

more_finished-suc : (e : DialEntry) (n : ℕ) → more_finished e (suc n) ≡ suc (more_finished e n)
more_finished-suc (entry.NoName host port) n = refl
more_finished-suc (entry.NotReached host port) n = refl
more_finished-suc (entry.Open host port offered) n = refl
more_finished-suc (entry.Finished offered end) n = refl

-- one link more is finished
pub finished_in-ended : (end : LinkEnd) (d : DialEntry) (i : ℕ) (es : List DialEntry) → opens_at i es ≡ true → finished_in (set es i (ended end (get_or es i d))) ≡ suc (finished_in es)
finished_in-ended end d i [] h = (cc)
finished_in-ended end d zero (e ∷ es) h = ended_finished end e (finished_in es) h ∙ ap suc (sym (open_unfinished e (finished_in es) h))
finished_in-ended end d (suc i) (e ∷ es) h = ap (more_finished e) (finished_in-ended end d i es h) ∙ more_finished-suc e (finished_in es)

-- the note that comes behind those of the entries
abbrev pub note_after : List DialEntry → List LinkNote → LinkNote
note_after [] ls = first_note ls
note_after (e ∷ es) ls = note_after es (notes_behind e ls)

-- one entry more is one dial more
pub merged-push : (n : ℕ) (es : List DialEntry) (e : DialEntry) (ls : List LinkNote) → merged n (es ++ e ∷ []) ls ≡ merged n es ls ++ dial_of (n + length es) e (note_after es ls) ∷ []
merged-push n [] e ls = ap (λ k. dial_of k e (first_note ls) ∷ []) (omega arith)
merged-push n (x ∷ es) e ls = ap (λ ds. dial_of n x (first_note ls) ∷ ds) (merged-push (n + 1) es e (notes_behind x ls) ∙ ap (λ k. merged (n + 1) es (notes_behind x ls) ++ dial_of k e (note_after es (notes_behind x ls)) ∷ []) (omega arith))

-- the notes are the finished links of the dials
pub finished_links-merged : (n : ℕ) (es : List DialEntry) (ls : List LinkNote) → finished_in es ≡ length ls → finished_links (merged n es ls) ≡ ls
finished_links-merged n [] [] h = refl
finished_links-merged n [] (l ∷ ls) h = absurd (omega arith)
finished_links-merged n (entry.NoName host port ∷ es) ls h = finished_links-merged (n + 1) es ls h
finished_links-merged n (entry.NotReached host port ∷ es) ls h = finished_links-merged (n + 1) es ls h
finished_links-merged n (entry.Open host port offered ∷ es) ls h = finished_links-merged (n + 1) es ls h
finished_links-merged n (entry.Finished offered end ∷ es) [] h = absurd (omega arith)
finished_links-merged n (entry.Finished offered end ∷ es) (l ∷ ls) h = ap (λ rest. l ∷ rest) (finished_links-merged (n + 1) es ls (omega arith))

-- hanging up ends the entry at the mark's place, and inserts its note
pub finish-merged : (m n i : ℕ) (t : Traffic) (d : DialEntry) (es : List DialEntry) (ls : List LinkNote) → m ≡ n + i → opens_at i es ≡ true → finished_in es ≡ length ls
    → finish m t (merged n es ls) ≡ merged n (set es i (ended (end_of t) (get_or es i d))) (insert ls (finished_in (take i es)) (entry_note t.heard t.sent (get_or es i d)))
finish-merged m n i t d [] ls e h k = (cc)
finish-merged m n zero t d (entry.NoName host port ∷ es) ls e h k = (cc)
finish-merged m n zero t d (entry.NotReached host port ∷ es) ls e h k = (cc)
finish-merged m n zero t d (entry.Finished offered end ∷ es) ls e h k = (cc)
finish-merged m n zero t d (entry.Open host port offered ∷ es) ls e h k =
    let here : (n == m) ≡ true = eq-eqb n m (omega arith) in rw here refl
finish-merged m n (suc i) t d (entry.NoName host port ∷ es) ls e h k = ap (λ ds. dial_of n (entry.NoName host port) (first_note ls) ∷ ds) (finish-merged m (n + 1) i t d es ls (omega arith) h k)
finish-merged m n (suc i) t d (entry.NotReached host port ∷ es) ls e h k = ap (λ ds. dial_of n (entry.NotReached host port) (first_note ls) ∷ ds) (finish-merged m (n + 1) i t d es ls (omega arith) h k)
finish-merged m n (suc i) t d (entry.Open host port offered ∷ es) ls e h k =
    let apart : (n == m) ≡ false = ne_eqb n m (λ q. omega arith) in
    rw apart (ap (λ ds. dial_of n (entry.Open host port offered) (first_note ls) ∷ ds) (finish-merged m (n + 1) i t d es ls (omega arith) h k))
finish-merged m n (suc i) t d (entry.Finished offered end ∷ es) [] e h k = absurd (omega arith)
finish-merged m n (suc i) t d (entry.Finished offered end ∷ es) (l ∷ ls) e h k = ap (λ ds. dial_of n (entry.Finished offered end) l ∷ ds) (finish-merged m (n + 1) i t d es ls (omega arith) h (omega arith))

-- ---- the joins of what the calls say

none : DialEntry
none = entry.NoName [] 0

-- a dial is put on the list
pub dialed_once : (mark : ℕ) (es new : List DialEntry) (ls notes : List LinkNote) (e : DialEntry) (ds : List Dial) → new ≡ es ++ e ∷ [] → notes ≡ ls → mark ≡ length es
    → ((l : LinkNote) → ds ≡ dial_of mark e l ∷ []) → merged 0 new notes ≡ merged 0 es ls ++ ds
dialed_once mark es new ls notes e ds pushed same at kept =
    let one : merged 0 (es ++ e ∷ []) ls ≡ merged 0 es ls ++ dial_of mark e (note_after es ls) ∷ [] = merged-push 0 es e ls ∙ ap (λ k. merged 0 es ls ++ dial_of k e (note_after es ls) ∷ []) (omega arith) in
    ap (λ xs. merged 0 xs notes) pushed ∙ ap (merged 0 (es ++ e ∷ [])) same ∙ one ∙ ap (λ xs. merged 0 es ls ++ xs) (sym (kept (note_after es ls)))

-- a link that has the number of dials as its mark
pub told_link : (mark : ℕ) (es : List DialEntry) (ls : List LinkNote) (old : DialerState) (link : Result LinkState DialFault) → old.dials ≡ merged 0 es ls → mark ≡ length es → IfOk link (IsMarked mark) → IfOk link (IsTold old)
told_link mark es ls old (Ok l) same at h = record {
  in_tells = h.in_tells;
  out_tells = h.out_tells;
  one_mark = h.out_mark ∙ sym h.in_mark;
  new_mark = ap (λ ds. is_open l.link_in.mark ds) same ∙ ap (λ m. is_open m (merged 0 es ls)) h.in_mark ∙ fresh_mark mark es ls at;
}
told_link mark es ls old (Err f) same at h = tt

pub open_entry : (m : ℕ) (es : List DialEntry) (ls : List LinkNote) → is_open m (merged 0 es ls) ≡ true → opens_at m es ≡ true
open_entry m es ls h =
    let p = open_place m 0 es ls h in
    let e : m ≡ p.0 = omega (arith, p.1) in
    rw e p.2

-- what hanging up a link leaves
pub record Ends (i : ℕ) (t : Traffic) (es new : List DialEntry) (ls notes : List LinkNote) : Type 0 where
  pub entries : (e : DialEntry) → new ≡ set es i (ended (end_of t) (get_or es i e))
  pub links : (e : DialEntry) → notes ≡ insert ls (finished_in (take i es)) (entry_note t.heard t.sent (get_or es i e))
  pub was_open : opens_at i es ≡ true
  pub counted : finished_in es ≡ length ls

pub ended_notes : {i : ℕ} {t : Traffic} {es new : List DialEntry} {ls notes : List LinkNote} → Ends i t es new ls notes → finished_in new ≡ length notes
ended_notes {i = i} {t = t} {es = es} {new = new} {ls = ls} {notes = notes} h =
    let inside : finished_in (take i es) ≤ length ls = omega (arith, finished_in-take i es, h.counted) in
    rw (h.entries none, h.links none) (finished_in-ended (end_of t) none i es h.was_open ∙ omega (arith, length-insert ls (finished_in (take i es)) (entry_note t.heard t.sent (get_or es i none)) inside, h.counted))

pub ended_length : {i : ℕ} {t : Traffic} {es new : List DialEntry} {ls notes : List LinkNote} → Ends i t es new ls notes → length new ≡ length es
ended_length {i = i} {t = t} {es = es} {new = new} {ls = ls} {notes = notes} h = rw (h.entries none) (length-set es i _)

pub ended_dials : {i : ℕ} {t : Traffic} {es new : List DialEntry} {ls notes : List LinkNote} → Ends i t es new ls notes → merged 0 new notes ≡ finish i t (merged 0 es ls)
ended_dials {i = i} {t = t} {es = es} {new = new} {ls = ls} {notes = notes} h = rw (h.entries none, h.links none) (sym (finish-merged i 0 i t none es ls (omega arith) h.was_open h.counted))

pub ruleset counts = (opens-inside, finished_in-take, finished_in-open, finished_in-le)

pub ruleset links_are = (finished_links-merged)

pub ruleset kept = (finished_in-push, finished_in-le)
