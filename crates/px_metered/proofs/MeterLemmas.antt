-- A meter, as byte after byte comes.
use Rattle.std.proofs.Common.{◌≡◌, ℕ, ◌+◌, ◌-◌, ◌<◌, ◌≤◌, ◌^◌, true, false, min, List, [], ◌∷◌, ◌++◌, length, take, Option, Some, refl, ap, sym, subst, ◌∙◌, arith, inl, inr, append_assoc, append-nil, length-append}
use Rattle.std.specs.Prelude.{◌==◌, ◌&&◌, not}
use Rattle.std.proofs.lemmas.Bool.{and_parts, cases_Bool, cases_lt, eqb-true, eq-eqb, not-true}
use Rattle.px_metered.specs.Returned.{behind_empty_line, body_count, empty_line, final_response, first_line, is_interim_status, returned_of, status_in, line_status}
use Rattle.px_metered.specs.Measuring.{IsInBody, IsInHead, IsFinalFrom, Measures, ends_interim}
use Rattle.px_metered.specs.declared.meters.Meter.{Meter}
use Rattle.px_metered.specs.declared.responses.Tally.{Tally}
use Rattle.px_metered.proofs.HeadLemmas.{behind_empty, line_whole, none_yet}
use Rattle.px_metered.proofs.ResponseLemmas.{final_behind, final_itself, final_open, status_in_front}

-- a meter to which nothing has come of a head
pub at_front : (m : Meter) → m.matched ≡ 0 → m.place ≡ 0 → m.body ≡ 0 → IsInHead m []
at_front m matched place body = record {
  ends = λ more. rw matched refl;
  front = rw place refl;
  none = body;
}

-- nothing has come
pub fresh : (m : Meter) → m.passed ≡ false → m.matched ≡ 0 → m.place ≡ 0 → m.body ≡ 0 → Measures m []
unfolding final_response first_line line_status
fresh m passed matched place body = record {
  head = λ h. at_front m matched place body;
  body = λ h. absurd (omega arith);
  first = λ h p. refl;
  later = λ h. absurd (cc);
  final = λ h. absurd (omega arith);
}

-- what comes behind a whole head
pub head_whole : (m : Meter) (bytes : List ℕ) → IsInHead m bytes → m.matched ≡ 4 → (more : List ℕ) → behind_empty_line (bytes ++ more) ≡ Some more
head_whole m bytes h whole more = h.ends more ∙ ap (λ (k : ℕ). behind_empty_line (take k empty_line ++ more)) whole ∙ behind_empty more

-- the status of a response with a whole head
pub head_status : (m : Meter) (bytes : List ℕ) → IsInHead m bytes → m.matched ≡ 4 → (more : List ℕ) → status_in (bytes ++ more) ≡ status_in (take m.place m.front)
head_status m bytes h whole more =
    let bare : behind_empty_line bytes ≡ Some [] = ap behind_empty_line (sym (append-nil bytes)) ∙ head_whole m bytes h whole [] in
    ap line_status (line_whole bytes more [] bare) ∙ sym (status_in_front bytes) ∙ ap status_in (sym h.front)

-- behind its head a response has what comes as its body
pub body_begins : (m : Meter) (bytes : List ℕ) → IsInHead m bytes → m.matched ≡ 4 → IsInBody m bytes
body_begins m bytes h whole = record {
  status = head_status m bytes h whole;
  counted = λ more. let none : m.body ≡ 0 = h.none in ap body_count (head_whole m bytes h whole more) ∙ omega arith;
}

-- so many bytes more of a body
pub body_more : (m n : Meter) (bytes more : List ℕ) → n.front ≡ m.front → n.place ≡ m.place → n.body ≡ min (m.body + length more) (2 ^ 64 - 1) → IsInBody m bytes → IsInBody n (bytes ++ more)
body_more m n bytes more front place body h = record {
  status = λ rest. ap status_in (append_assoc bytes more rest) ∙ h.status (more ++ rest) ∙ ap (λ (k : ℕ). status_in (take k m.front)) (sym place) ∙ ap (λ (l : List ℕ). status_in (take n.place l)) (sym front);
  counted = λ rest. ap (λ (l : List ℕ). body_count (behind_empty_line l)) (append_assoc bytes more rest) ∙ h.counted (more ++ rest) ∙ omega (arith, length-append more rest, body);
}

-- what is true of a meter that is at the end of an interim response that is passed over
pub record EndsInterim (m : Meter) : Type 0 where
  pub whole : m.matched ≡ 4
  pub first : m.passed ≡ false
  pub interim : is_interim_status (status_in (take m.place m.front)) ≡ true

pub ends_parts : (m : Meter) → ends_interim m ≡ true → EndsInterim m
ends_parts m h =
    let p = and_parts (m.matched == 4) (not m.passed && is_interim_status (status_in (take m.place m.front))) h in
    let q = and_parts (not m.passed) (is_interim_status (status_in (take m.place m.front))) p.1 in
    record { whole = eqb-true m.matched 4 p.0; first = not-true m.passed q.0; interim = q.1 }

-- at the end of the head of a response that is final, which isn't interim if it is the first
pub ends_other : (m : Meter) → ends_interim m ≡ false → m.matched ≡ 4 → m.passed ≡ false → is_interim_status (status_in (take m.place m.front)) ≡ false
ends_other m h whole first = rw (eq-eqb m.matched 4 whole, first) at h

-- behind the end of an interim response what comes is the final one
pub final_begins : (m : Meter) (bytes : List ℕ) → IsInHead m bytes → EndsInterim m → (more : List ℕ) → final_response (bytes ++ more) ≡ more
final_begins m bytes h ends more = final_behind (bytes ++ more) more (ap is_interim_status (head_status m bytes h ends.whole more) ∙ ends.interim) (head_whole m bytes h ends.whole more)

-- a byte that ended an interim response
pub step_interim : (m n p : Meter) (b : ℕ) (came : List ℕ) → m.matched < 4 → n.passed ≡ m.passed → IsInHead n (final_response came ++ b ∷ []) → EndsInterim n → p.passed ≡ true → p.matched ≡ 0 → p.place ≡ 0 → p.body ≡ n.body
    → Measures m came → Measures p (came ++ b ∷ [])
step_interim m n p b came within same h ends passed matched place body was =
    let own : final_response came ≡ came = was.first within (sym same ∙ ends.first) in
    let at : IsInHead n (came ++ b ∷ []) = subst (λ (bytes : List ℕ). IsInHead n (bytes ++ b ∷ [])) own h in
    let begins = final_begins n (came ++ b ∷ []) at ends in
    let bare : final_response (came ++ b ∷ []) ≡ [] = ap final_response (sym (append-nil (came ++ b ∷ []))) ∙ begins [] in
    record {
      head = λ h. subst (IsInHead p) (sym bare) (at_front p matched place (body ∙ at.none));
      body = λ h. absurd (omega arith);
      first = λ h q. absurd (cc);
      later = λ h more. begins more ∙ ap (λ (bytes : List ℕ). bytes ++ more) (sym bare);
      final = λ h. absurd (omega arith);
    }

-- the first response is the final one so far, where it isn't a whole interim one
pub still_first : (m : Meter) (bytes : List ℕ) → m.matched ≤ 4 → IsInHead m bytes → ends_interim m ≡ false → m.passed ≡ false → final_response bytes ≡ bytes
still_first m bytes most h ends first =
    elim (cases_lt m.matched 4) [
      | inl open_yet ↦ final_open bytes (ap behind_empty_line (sym (append-nil bytes)) ∙ h.ends [] ∙ none_yet m.matched open_yet)
      | inr whole ↦
          let is_whole : m.matched ≡ 4 = omega arith in
          ap final_response (sym (append-nil bytes)) ∙ final_itself (bytes ++ []) (ap is_interim_status (head_status m bytes h is_whole []) ∙ ends_other m ends is_whole first) ∙ append-nil bytes
    ]

-- a first response whose head is whole, and that isn't interim, is settled
pub first_settled : (m : Meter) (bytes : List ℕ) → IsInHead m bytes → ends_interim m ≡ false → m.matched ≡ 4 → m.passed ≡ false → IsFinalFrom bytes
first_settled m bytes h ends whole first more =
    let other : (rest : List ℕ) → is_interim_status (status_in (bytes ++ rest)) ≡ false = λ rest. ap is_interim_status (head_status m bytes h whole rest) ∙ ends_other m ends whole first in
    let own : final_response bytes ≡ bytes = ap final_response (sym (append-nil bytes)) ∙ final_itself (bytes ++ []) (other []) ∙ append-nil bytes in
    final_itself (bytes ++ more) (other more) ∙ ap (λ (front : List ℕ). front ++ more) (sym own)

-- what is settled stays so
pub settled_more : (came more : List ℕ) → IsFinalFrom came → IsFinalFrom (came ++ more)
settled_more came more settled rest =
    ap final_response (append_assoc came more rest) ∙ settled (more ++ rest) ∙ sym (append_assoc (final_response came) more rest) ∙ ap (λ (bytes : List ℕ). bytes ++ rest) (sym (settled more))

-- a byte that ended no interim response is added to what came of the final one
pub grown : (m n : Meter) (b : ℕ) (came : List ℕ) → m.matched < 4 → n.matched ≤ 4 → n.passed ≡ m.passed → IsInHead n (final_response came ++ b ∷ []) → ends_interim n ≡ false → Measures m came
    → final_response (came ++ b ∷ []) ≡ final_response came ++ b ∷ []
grown m n b came within most same h ends was =
    elim (cases_Bool m.passed) [
      | inl passed ↦ was.later passed (b ∷ [])
      | inr first ↦
          let own : final_response came ≡ came = was.first within first in
          let at : IsInHead n (came ++ b ∷ []) = subst (λ (bytes : List ℕ). IsInHead n (bytes ++ b ∷ [])) own h in
          let kept : final_response (came ++ b ∷ []) ≡ came ++ b ∷ [] = still_first n (came ++ b ∷ []) most at ends (same ∙ first) in
          kept ∙ ap (λ (bytes : List ℕ). bytes ++ b ∷ []) (sym own)
    ]

-- a byte that ended no interim response
pub step_other : (m n : Meter) (b : ℕ) (came : List ℕ) → m.matched < 4 → n.matched ≤ 4 → n.passed ≡ m.passed → IsInHead n (final_response came ++ b ∷ []) → ends_interim n ≡ false → Measures m came → Measures n (came ++ b ∷ [])
step_other m n b came within most same h ends was =
    let added = grown m n b came within most same h ends was in
    let at : IsInHead n (final_response (came ++ b ∷ [])) = subst (IsInHead n) (sym added) h in
    record {
      head = λ part. at;
      body = λ whole. body_begins n (final_response (came ++ b ∷ [])) at whole;
      first = λ part first. added ∙ ap (λ (bytes : List ℕ). bytes ++ b ∷ []) (was.first within (sym same ∙ first));
      later = λ passed. settled_more came (b ∷ []) (was.later (sym same ∙ passed));
      final = λ whole.
          elim (cases_Bool n.passed) [
            | inl passed ↦ settled_more came (b ∷ []) (was.later (sym same ∙ passed))
            | inr first ↦ first_settled n (came ++ b ∷ []) (subst (λ (bytes : List ℕ). IsInHead n (bytes ++ b ∷ [])) (was.first within (sym same ∙ first)) h) ends whole first
          ];
    }

-- so many bytes of a body
pub step_body : (m n : Meter) (came more : List ℕ) → m.matched ≡ 4 → n.passed ≡ m.passed → n.matched ≡ m.matched → n.front ≡ m.front → n.place ≡ m.place → n.body ≡ min (m.body + length more) (2 ^ 64 - 1) → Measures m came
    → Measures n (came ++ more)
step_body m n came more whole passed matched front place body was =
    let settled = was.final whole in
    let at = was.body whole in
    record {
      head = λ h. absurd (omega arith);
      body = λ h. subst (IsInBody n) (sym (settled more)) (body_more m n (final_response came) more front place body at);
      first = λ h. absurd (omega arith);
      later = λ h. settled_more came more settled;
      final = λ h. settled_more came more settled;
    }

-- a status and a count of a body together
abbrev pub returned_from : Option ℕ → ℕ → Tally
returned_from status body = record { status = status; body = body }

returned_same : (status : Option ℕ) (body : ℕ) (bytes : List ℕ) → status ≡ status_in bytes → body ≡ body_count (behind_empty_line bytes) → returned_from status body ≡ returned_from (status_in bytes) (body_count (behind_empty_line bytes))
returned_same status body bytes e f = cc

-- what was returned
pub told : (m : Meter) (came : List ℕ) (status : Option ℕ) → m.matched ≤ 4 → m.body < 2 ^ 64 → status ≡ status_in (take m.place m.front) → Measures m came → returned_from status m.body ≡ returned_of came
unfolding returned_of
told m came status most counts same was =
    elim (cases_lt m.matched 4) [
      | inl part ↦
          let h = was.head part in
          returned_same status m.body (final_response came) (same ∙ ap status_in h.front ∙ status_in_front (final_response came))
          (h.none ∙ ap body_count (sym (ap behind_empty_line (sym (append-nil (final_response came))) ∙ h.ends [] ∙ none_yet m.matched part)))
      | inr whole ↦
          let h = was.body (omega arith) in
          let bare : final_response came ++ [] ≡ final_response came = append-nil (final_response came) in
          let counted = h.counted [] in
          returned_same status m.body (final_response came) (same ∙ sym (h.status []) ∙ ap status_in bare) (omega (arith, counted, counts) ∙ ap (λ (l : List ℕ). body_count (behind_empty_line l)) bare)
    ]
