-- What one physical line makes of a joining.
use Rattle.std.proofs.Common.{◌≡◌, ℕ, ◌+◌, ◌<◌, ◌≤◌, Bool, true, false, List, [], ◌∷◌, ◌++◌, length, refl, ap, sym, ◌∙◌, subst, arith, append_assoc, inl, inr, Option, None, Some}
use Rattle.std.specs.Prelude.{is_some, not, ◌==◌}
use Rattle.std.specs.Str.{is_utf8}
use Rattle.std.specs.Str.Lines.{lines}
use Rattle.std.proofs.lemmas.Bool.{cases_Bool, eqb-true, eqb-false, lt-ltb, le-ltb}
use Rattle.px_base.specs.Blanks.{trimmed}
use Rattle.px_text.specs.declared.TheConstants.{LINE_LIMIT}
use Rattle.px_text.specs.declared.faults.TextFault.{TextFault}
use Rattle.px_text.specs.declared.faults.TextFault.TheVariants.{Mem, NotText, TooLong}
use Rattle.px_text.specs.declared.joinings.Joining.{Joining}
use Rattle.px_text.specs.declared.lines.Line.{Line}
use Rattle.px_text.specs.Faults.{IsTextRefusal, earlier, first_line_fault, first_text_fault, first_not_text, first_too_long}
use Rattle.px_text.specs.Joinings.{AddsPhysicalLine, IsFirst, IsJoining, IsLaterLine, IsNoted, RefusesLine, with_ended_line, fault_after, first_of, kept_line, lines_after, lines_to_come, noted_not_text}
use Rattle.px_text.specs.Lines.{is_continued, joined_lines, joined_to, kept_lines, logical, part, uncommented, unescaped_line, without_continuation, without_mark}
use Rattle.px_text.proofs.JoiningLemmas.{IsFrom, from_later, earlier-not_text, earlier-too_long, first_not_text-from, first_too_long-fits, first_too_long-here, first_too_long-joined, first_too_long-joined_to, first_too_long-line, first_too_long-own, joined_to-continued, joined_to-last, kept-cons, kept-own}

pub first_from_empty : (lines : List Line) (text : List ℕ) → lines ≡ [] → text ≡ [] → IsFirst record { lines = lines; text = text; number = 1; next = 1; not_text = None }
unfolding first_line_fault
first_from_empty lines text no_lines no_text = record {
  lines = λ rest. rw (no_lines, no_text) (kept-own 1 rest);
  fault = λ rest. rw no_text (ap (earlier (first_not_text 1 rest)) (first_too_long-own 1 rest));
}

-- a joined line that is kept, and one that isn't
pub kept_line-empty : (number : ℕ) (text shown : List ℕ) → shown ≡ trimmed text → (length shown == 0) ≡ true → kept_line number text ≡ []
unfolding kept_lines
kept_line-empty number text shown is empty = rw (← is) (rw (le-ltb 0 (length shown) (omega (arith, eqb-true (length shown) 0 empty))) refl)

pub kept_line-some : (number : ℕ) (text shown : List ℕ) → shown ≡ trimmed text → (length shown == 0) ≡ false → kept_line number text ≡ record { number = number; text = shown } ∷ []
unfolding kept_lines
kept_line-some number text shown is some =
    let above : 0 < length shown = omega (arith, eqb-false (length shown) 0 some) in
    rw (← is) (rw (lt-ltb 0 (length shown) above) refl)

-- what the part of a physical line is
pub part-is : (line back : List ℕ) → back ≡ without_continuation line → unescaped_line (uncommented 0 back) ≡ part line
unfolding part
part-is line back is = ap (λ l. unescaped_line (uncommented 0 l)) is

-- the note of a line that is UTF-8, and of one that isn't
pub with_note-text : (j : Joining) (line : List ℕ) → is_utf8 line ≡ true → noted_not_text j line ≡ j.not_text
unfolding first_not_text
with_note-text j line text = elim j.not_text as (λ o. first_of o (first_not_text j.next (line ∷ [])) ≡ o) [ None ↦ rw text refl | Some k ↦ refl ]

pub with_note-other : (j : Joining) (line : List ℕ) → is_utf8 line ≡ false → noted_not_text j line ≡ first_of j.not_text (Some j.next)
unfolding first_not_text
with_note-other j line other = rw other refl

pub later_kept : (number next : ℕ) (o : Option ℕ) → IsLaterLine number next o → IsLaterLine number (next + 1) o
later_kept number next None later = tt
later_kept number next (Some k) later = (later.0, omega (arith, later.1))

-- no line is noted before the first physical line
pub first_noted : (number next : ℕ) (o : Option ℕ) → IsLaterLine number next o → next ≡ number → first_of o (Some next) ≡ Some number
first_noted number next None later front = ap Some front
first_noted number next (Some k) later front = absurd (omega (arith, later.0, later.1))

pub later_noted : (number next : ℕ) (o : Option ℕ) → number ≤ next → (next ≡ number → ⊥) → IsLaterLine number next o → IsLaterLine number (next + 1) (first_of o (Some next))
later_noted number next None ordered apart later = (omega (arith, apart), omega arith)
later_noted number next (Some k) ordered apart later = (later.0, omega (arith, later.1))

pub none_noted : (o : Option ℕ) (next : ℕ) (test : Bool) → is_some o ≡ not test → test ≡ true → Some next ≡ first_of o (Some next)
none_noted None next test is none = refl
none_noted (Some k) next test is none = cc

-- the first line that isn't UTF-8, where a line has been noted
first_of-noted : (o : Option ℕ) (n : ℕ) (line : List ℕ) (rest : List (List ℕ)) → first_of o (first_not_text n (line ∷ rest)) ≡ first_of (first_of o (first_not_text n (line ∷ []))) (first_not_text (n + 1) rest)
unfolding first_not_text
first_of-noted None n line rest = elim (cases_Bool (is_utf8 line)) [ inl does ↦ rw does refl | inr fails ↦ rw fails refl ]
first_of-noted (Some k) n line rest = refl

-- a line that is noted at the front of its joined line is the first fault
pub noted_refuses : (j : Joining) (line : List ℕ) → IsJoining j → noted_not_text j line ≡ Some j.number → (rest : List (List ℕ)) → fault_after j (line ∷ rest) ≡ Some (NotText j.number)
noted_refuses j line joining noted rest =
    let long = first_too_long (lines_to_come j (line ∷ rest)) in
    ap (λ o. earlier o long) (first_of-noted j.not_text j.next line rest ∙ ap (λ o. first_of o (first_not_text (j.next + 1) rest)) noted)
    ∙ earlier-not_text j.number long (first_too_long-joined_to j.number j.next j.text (line ∷ rest) joining.ordered)

-- the first line that isn't UTF-8 stands behind the front of the joined line
later_from : (number next : ℕ) (o : Option ℕ) (lines : List (List ℕ)) → number < next → IsLaterLine number next o → IsFrom (number + 1) (first_of o (first_not_text next lines))
later_from number next None lines ordered later = from_later (number + 1) next (first_not_text next lines) (omega arith) (first_not_text-from next lines)
later_from number next (Some k) lines ordered later = omega (arith, later.0)

too_long-here : (number next : ℕ) (text line : List ℕ) (rest : List (List ℕ)) → LINE_LIMIT < length (text ++ part line) → first_too_long (joined_to number text (joined_lines next (line ∷ rest))) ≡ Some number
too_long-here number next text line rest long =
    elim (cases_Bool (is_continued line)) [
      | inl does ↦ ap first_too_long (joined_to-continued number next text line rest does) ∙ first_too_long-here number (text ++ part line) (joined_lines (next + 1) rest) long
      | inr fails ↦ ap first_too_long (joined_to-last number next text line rest fails) ∙ first_too_long-line number (text ++ part line) (joined_lines (next + 1) rest) long
    ]

-- a joined line that became too long is the first fault
pub long_refuses : (j : Joining) (line : List ℕ) → IsJoining j → IsLaterLine j.number (j.next + 1) (noted_not_text j line) → LINE_LIMIT < length (j.text ++ part line) →
    (rest : List (List ℕ)) → fault_after j (line ∷ rest) ≡ Some (TooLong j.number)
long_refuses j line joining later long rest =
    let first = first_of j.not_text (first_not_text j.next (line ∷ rest)) in
    ap (earlier first) (too_long-here j.number j.next j.text line rest long)
    ∙ earlier-too_long j.number first
    (subst (IsFrom (j.number + 1)) (sym (first_of-noted j.not_text j.next line rest)) (later_from j.number (j.next + 1) (noted_not_text j line) rest (omega (arith, joining.ordered)) later))

-- the joining with a physical line's part
abbrev pub added : Joining → List ℕ → List ℕ → Joining
added j line text = record { lines = j.lines; text = text; number = j.number; next = j.next + 1; not_text = noted_not_text j line }

-- a physical line that the next continues
pub continued_adds : (j : Joining) (line : List ℕ) → is_continued line ≡ true → AddsPhysicalLine j line (added j line (j.text ++ part line))
continued_adds j line continued = record {
  lines = λ rest. ap (λ l. j.lines ++ kept_lines l) (sym (joined_to-continued j.number j.next j.text line rest continued));
  fault = λ rest.
      ap (λ o. earlier o (first_too_long (lines_to_come (added j line (j.text ++ part line)) rest))) (sym (first_of-noted j.not_text j.next line rest))
      ∙ ap (λ l. earlier (first_of j.not_text (first_not_text j.next (line ∷ rest))) (first_too_long l)) (sym (joined_to-continued j.number j.next j.text line rest continued));
}

long-last : (j : Joining) (line : List ℕ) (rest : List (List ℕ)) → is_continued line ≡ false → length (j.text ++ part line) ≤ LINE_LIMIT →
    first_too_long (lines_to_come j (line ∷ rest)) ≡ first_too_long (joined_lines (j.next + 1) rest)
long-last j line rest last fits =
    ap first_too_long (joined_to-last j.number j.next j.text line rest last) ∙ first_too_long-fits j.number (j.text ++ part line) (joined_lines (j.next + 1) rest) fits

-- the last physical line of a joined line
pub last_adds : (j : Joining) (line : List ℕ) → is_continued line ≡ false → length (j.text ++ part line) ≤ LINE_LIMIT → noted_not_text j line ≡ None →
    AddsPhysicalLine j line (with_ended_line (added j line (j.text ++ part line)))
last_adds j line last fits clear = record {
  lines = λ rest.
      ap (λ l. j.lines ++ kept_line j.number (j.text ++ part line) ++ l) (kept-own (j.next + 1) rest)
      ∙ append_assoc j.lines (kept_line j.number (j.text ++ part line)) (kept_lines (joined_lines (j.next + 1) rest))
      ∙ ap (λ l. j.lines ++ l) (sym (kept-cons record { number = j.number; text = j.text ++ part line } (joined_lines (j.next + 1) rest)))
      ∙ ap (λ l. j.lines ++ kept_lines l) (sym (joined_to-last j.number j.next j.text line rest last));
  fault = λ rest.
      ap (earlier (first_not_text (j.next + 1) rest)) (first_too_long-own (j.next + 1) rest)
      ∙ ap (earlier (first_not_text (j.next + 1) rest)) (sym (long-last j line rest last fits))
      ∙ ap (λ o. earlier o (first_too_long (lines_to_come j (line ∷ rest)))) (ap (λ o. first_of o (first_not_text (j.next + 1) rest)) (sym clear) ∙ sym (first_of-noted j.not_text j.next line rest));
}

-- the refusal of the last physical line of a joined line
pub last_refuses : (j : Joining) (line : List ℕ) (k : ℕ) → is_continued line ≡ false → length (j.text ++ part line) ≤ LINE_LIMIT → IsLaterLine j.number (j.next + 1) (noted_not_text j line) → noted_not_text j line ≡ Some k →
    (rest : List (List ℕ)) → fault_after j (line ∷ rest) ≡ Some (NotText k)
last_refuses j line k last fits later noted rest =
    ap (λ o. earlier o (first_too_long (lines_to_come j (line ∷ rest)))) (first_of-noted j.not_text j.next line rest ∙ ap (λ o. first_of o (first_not_text (j.next + 1) rest)) noted)
    ∙ ap (earlier (Some k)) (long-last j line rest last fits)
    ∙ earlier-not_text k (first_too_long (joined_lines (j.next + 1) rest))
    (from_later k (j.next + 1) (first_too_long (joined_lines (j.next + 1) rest)) (let within : IsLaterLine j.number (j.next + 1) (Some k) = subst (IsLaterLine j.number (j.next + 1)) noted later in omega (arith, within.1)) (first_too_long-joined (j.next + 1) rest))

too_long-none : first_too_long [] ≡ None
unfolding first_too_long
too_long-none = refl

-- the end of the file
pub end_lines : (j : Joining) → (with_ended_line j).lines ≡ lines_after j []
unfolding joined_lines joined_to
end_lines j = refl

pub end_sound : (j : Joining) → IsJoining j → j.not_text ≡ None → fault_after j [] ≡ None
unfolding joined_lines joined_to first_not_text
end_sound j joining clear = rw clear (rw (first_too_long-fits j.number j.text [] joining.fits) (rw too_long-none refl))

pub end_refuses : (j : Joining) (k : ℕ) → IsJoining j → j.not_text ≡ Some k → fault_after j [] ≡ Some (NotText k)
unfolding joined_lines joined_to first_not_text
end_refuses j k joining noted = rw noted (rw (first_too_long-fits j.number j.text [] joining.fits) (rw too_long-none refl))

-- the joining after its note of a line
abbrev pub noted : Joining → List ℕ → Joining
noted j line = record j { not_text = noted_not_text j line }

-- the joining with a text, before the next physical line
abbrev pub with_text : Joining → List ℕ → Joining
with_text j text = record { lines = j.lines; text = text; number = j.number; next = j.next + 1; not_text = j.not_text }

pub text_added : (j after : Joining) (line back text : List ℕ) → after ≡ noted j line → back ≡ without_continuation line → text ≡ after.text ++ unescaped_line (uncommented 0 back) → text ≡ j.text ++ part line
text_added j after line back text note behind is = is ∙ ap (λ l. after.text ++ l) (part-is line back behind) ∙ ap (λ (k : Joining). k.text ++ part line) note

pub step_noted : (j : Joining) (line : List ℕ) (e : TextFault) → IsJoining j → (e ≡ NotText j.number) × (noted_not_text j line ≡ Some j.number) → RefusesLine j line e
step_noted j line e joining is = subst (RefusesLine j line) (sym is.0) (noted_refuses j line joining is.1)

pub step_long : (j after : Joining) (line text : List ℕ) → IsJoining j → after ≡ noted j line → IsLaterLine j.number (j.next + 1) (noted_not_text j line) → text ≡ j.text ++ part line → LINE_LIMIT < length text →
    RefusesLine j line (TooLong after.number)
step_long j after line text joining note later is long =
    subst (λ (k : ℕ). RefusesLine j line (TooLong k)) (sym (ap (λ (k : Joining). k.number) note)) (long_refuses j line joining later (subst (λ (t : List ℕ). LINE_LIMIT < length t) is long))

pub step_continued : (j after : Joining) (line text : List ℕ) → after ≡ noted j line → text ≡ j.text ++ part line → is_continued line ≡ true → AddsPhysicalLine j line (with_text after text)
step_continued j after line text note is continued = rw (note, is) (continued_adds j line continued)

pub step_last : (j after new : Joining) (line text : List ℕ) → after ≡ noted j line → text ≡ j.text ++ part line → is_continued line ≡ false → length text ≤ LINE_LIMIT → after.not_text ≡ None →
    new ≡ with_ended_line (with_text after text) → AddsPhysicalLine j line new
step_last j after new line text note is last fits clear ended =
    rw ended (rw (note, is) (last_adds j line last (subst (λ (t : List ℕ). length t ≤ LINE_LIMIT) is fits) (sym (ap (λ (k : Joining). k.not_text) note) ∙ clear)))

pub step_refuses : (j after : Joining) (line text : List ℕ) (e : TextFault) → after ≡ noted j line → text ≡ j.text ++ part line → is_continued line ≡ false → length text ≤ LINE_LIMIT →
    IsLaterLine j.number (j.next + 1) (noted_not_text j line) → IsNoted (with_text after text) e → RefusesLine j line e
step_refuses j after line text (NotText k) note is last fits later known =
    last_refuses j line k last (subst (λ (t : List ℕ). length t ≤ LINE_LIMIT) is fits) later (sym (ap (λ (k : Joining). k.not_text) note) ∙ known)
step_refuses j after line text (TooLong k) note is last fits later known = absurd known
step_refuses j after line text Mem note is last fits later known = λ rest. tt

pub end_reports : (j : Joining) (e : TextFault) → IsJoining j → IsNoted j e → IsTextRefusal (fault_after j []) e
end_reports j (NotText k) joining known = end_refuses j k joining known
end_reports j (TooLong k) joining known = absurd known
end_reports j Mem joining known = tt

-- a joining goes on with the lines of `rest` as the text that it began with says
pub record Continues (text rest : List ℕ) (j : Joining) : Type 0 where
  pub joining : IsJoining j
  pub becomes : lines_after j (lines rest) ≡ logical text
  pub fault : fault_after j (lines rest) ≡ first_text_fault text
  pub count : j.next + length rest ≤ length text + 1

pub continues_first : (text rest : List ℕ) (j : Joining) → rest ≡ without_mark text → IsJoining j → IsFirst j → j.next ≡ 1 → length rest ≤ length text → Continues text rest j
unfolding logical
continues_first text rest j is joining first next shorter = record {
  joining = joining;
  becomes = first.lines (lines rest) ∙ ap (λ l. kept_lines (joined_lines 1 (lines l))) is;
  fault = first.fault (lines rest) ∙ ap (λ l. first_line_fault (lines l)) is;
  count = omega (arith, next);
}

pub continues_on : (text rest line after : List ℕ) (old new : Joining) → Continues text rest old → lines rest ≡ line ∷ lines after → length after < length rest → IsJoining new → new.next ≡ old.next + 1 → AddsPhysicalLine old line new →
    Continues text after new
continues_on text rest line after old new goes split shorter joining next adds = record {
  joining = joining;
  becomes = adds.lines (lines after) ∙ ap (lines_after old) (sym split) ∙ goes.becomes;
  fault = adds.fault (lines after) ∙ ap (fault_after old) (sym split) ∙ goes.fault;
  count = omega (arith, goes.count, next);
}

pub continues_refused : (text rest line after : List ℕ) (old : Joining) (e : TextFault) → Continues text rest old → lines rest ≡ line ∷ lines after → RefusesLine old line e → IsTextRefusal (first_text_fault text) e
continues_refused text rest line after old e goes split refuses =
    subst (λ (o : Option TextFault). IsTextRefusal o e) (ap (fault_after old) (sym split) ∙ goes.fault) (refuses (lines after))
