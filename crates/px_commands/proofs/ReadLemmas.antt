-- What a file holds, by what reading it gave.
use Rattle.std.proofs.Common.{◌≡◌, ℕ, ◌≤◌, ◌<◌, Bool, true, false, cond, List, length, Option, None, Some, refl, sym, ap, arith, leb}
use Rattle.std.proofs.lemmas.Bool.{leb-true, leb-false}
use Rattle.px_base.specs.declared.files.Content.TheVariants as content
use Rattle.px_base.specs.declared.dials.Answer.{Answer}
use Rattle.px_base.specs.Contents.{content_of}
use Rattle.px_commands.specs.Origins.{IsOrigin}
use Rattle.px_commands.specs.Passes.{HasAnswers}

pub missing : (limit : ℕ) (held : Option (List ℕ)) → content.Missing ≡ content_of limit held → held ≡ None
missing limit None e = refl
missing limit (Some bytes) e = by (leb (length bytes) limit) e
  where
    by : (b : Bool) → content.Missing ≡ cond b (content.Found bytes) content.Over → Some bytes ≡ None
    by true h = (cc)
    by false h = (cc)

pub found : (limit : ℕ) (held : Option (List ℕ)) (text : List ℕ) → content.Found text ≡ content_of limit held → (held ≡ Some text) × (length text ≤ limit)
found limit None text e = (cc)
found limit (Some bytes) text e = by (leb (length bytes) limit) refl e
  where
    by : (b : Bool) → leb (length bytes) limit ≡ b → content.Found text ≡ cond b (content.Found bytes) content.Over → (Some bytes ≡ Some text) × (length text ≤ limit)
    by true h k = let same : text ≡ bytes = (cc) in (ap Some (sym same), omega (arith, leb-true _ _ h, ap length same))
    by false h k = (cc)

pub over : (limit : ℕ) (held : Option (List ℕ)) → content.Over ≡ content_of limit held → (bytes : List ℕ) × (held ≡ Some bytes) × (limit < length bytes)
over limit None e = (cc)
over limit (Some bytes) e = by (leb (length bytes) limit) refl e
  where
    by : (b : Bool) → leb (length bytes) limit ≡ b → content.Over ≡ cond b (content.Found bytes) content.Over → (xs : List ℕ) × (Some bytes ≡ Some xs) × (limit < length xs)
    by true h k = (cc)
    by false h k = (bytes, refl, leb-false _ _ h)

pub missing_answers : (limit : ℕ) (held : Option (List ℕ)) (answers : List Answer) → content.Missing ≡ content_of limit held → HasAnswers held answers → ⊥
missing_answers limit None answers e h = h
missing_answers limit (Some bytes) answers e h = let none = missing limit (Some bytes) e in (cc)

pub over_answers : (held : Option (List ℕ)) (answers : List Answer) → content.Over ≡ content_of 67108864 held → HasAnswers held answers → ⊥
over_answers None answers e h = h
over_answers (Some bytes) answers e h =
    let p = over 67108864 (Some bytes) e in
    let same : bytes ≡ p.0 = (cc) in
    omega (arith, p.2, h.0, ap length same)

pub found_answers : (held : Option (List ℕ)) (text : List ℕ) (answers : List Answer) → content.Found text ≡ content_of 67108864 held → IsOrigin text answers → HasAnswers held answers
found_answers held text answers e h = let p = found 67108864 held text e in rw p.0 (p.1, h)

pub found_no_answers : (held : Option (List ℕ)) (text : List ℕ) → content.Found text ≡ content_of 67108864 held → ((answers : List Answer) → IsOrigin text answers → ⊥) → (answers : List Answer) → HasAnswers held answers → ⊥
found_no_answers None text e none answers h = h
found_no_answers (Some bytes) text e none answers h =
    let p = found 67108864 (Some bytes) text e in
    let same : bytes ≡ text = (cc) in
    none answers (rw same at h.1)

pub ruleset origin_rules = (missing_answers, over_answers, found_answers, found_no_answers)
