use Rattle.std.proofs.Common.{◌≡◌, ℕ, length, take, Some, None, true, false, sym, ◌∙◌, ap, arith}
use Rattle.px_framing.specs.Lines.{place_after_line, may_stand}
use Rattle.px_framing.proofs.ExtractLemmas.{text-place, text-is, text-length}
use Rattle.px_framing.proofs.extracts.whole_line.Goals as goal

pub returns-then-bytes-at-lt2-clause-line : goal.returns-then-bytes-at-lt2-clause-line
returns-then-bytes-at-lt2-clause-line c text more stands is =
    let at : Some c.in-Some.at ≡ Some (length text) = c.in-Some.ensures.value ∙ text-place c.args.before text more c.args.bytes.now stands is in
    let same : c.in-Some.at ≡ length text = cc in
    let room = text-length text more c.args.bytes.now is in
    absurd (omega arith)

pub returns-in-Some-next_place-clause-line : goal.returns-in-Some-next_place-clause-line
returns-in-Some-next_place-clause-line c text more stands is =
    let at : Some c.in-Some.at ≡ Some (length text) = c.in-Some.ensures.value ∙ text-place c.args.before text more c.args.bytes.now stands is in
    let same : c.in-Some.at ≡ length text = cc in
    let front : take c.in-Some.at c.args.bytes.now ≡ text = ap (λ (n : ℕ). take n c.args.bytes.now) same ∙ text-is text more c.args.bytes.now is in
    let next : c.in-Some-next_place.next ≡ place_after_line c.args.before text = c.in-Some-next_place.ensures.1 ∙ ap (place_after_line c.args.before) front in
    λ i. Some (record { text_len = same i; next = next i })

pub returns-in-None-next_place-clause-line : goal.returns-in-None-next_place-clause-line
returns-in-None-next_place-clause-line c text more stands is =
    let at : Some c.in-Some.at ≡ Some (length text) = c.in-Some.ensures.value ∙ text-place c.args.before text more c.args.bytes.now stands is in
    let same : c.in-Some.at ≡ length text = cc in
    let front : take c.in-Some.at c.args.bytes.now ≡ text = ap (λ (n : ℕ). take n c.args.bytes.now) same ∙ text-is text more c.args.bytes.now is in
    let no : may_stand c.args.before text ≡ false = ap (may_stand c.args.before) (sym front) ∙ c.in-None-next_place.ensures in
    let yes_ : may_stand c.args.before text ≡ true = stands in
    let both : true ≡ false = sym yes_ ∙ no in
    absurd (cc)

pub returns-in-None-clause-line : goal.returns-in-None-clause-line
returns-in-None-clause-line c text more stands is =
    let at : None ≡ Some (length text) = c.in-None.ensures.value ∙ text-place c.args.before text more c.args.bytes.now stands is in
    absurd (cc)
