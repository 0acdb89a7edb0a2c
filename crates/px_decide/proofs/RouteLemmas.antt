-- The last line that matches.
use Rattle.std.proofs.Common.{◌≡◌, ℕ, ◌+◌, ◌<◌, List, [], ◌∷◌, ◌++◌, length, take, map, get_or, Bool, true, false, Option, None, Some, refl, ap, sym, ◌∙◌}
use Rattle.std.specs.Prelude.{if◌then◌else◌}
use Rattle.std.specs.Option.{option_or}
use Rattle.std.proofs.lemmas.List.{map-append, take_more}
use Rattle.px_patterns.specs.declared.urls.Url.{Url}
use Rattle.px_patterns.specs.Patterns.{url_matches}
use Rattle.px_decide.specs.declared.forwards.ForwardLine.{ForwardLine}
use Rattle.px_decide.specs.Forwards.{Line}
use Rattle.px_decide.specs.Lines.{forward_line_of}
use Rattle.px_decide.specs.Routes.{last_line}

three : (o p q : Option Line) → option_or (option_or o p) q ≡ option_or o (option_or p q)
three None p q = refl
three (Some x) p q = refl

-- a line more at the end
last_line-last : (url : Url) (lines : List Line) (line : Line) →
    last_line url (lines ++ line ∷ []) ≡ option_or (if url_matches line.pattern url then Some line else None) (last_line url lines)
unfolding last_line
last_line-last url [] line = sym (or_none (if url_matches line.pattern url then Some line else None))
  where
    or_none : (o : Option Line) → option_or o None ≡ o
    or_none None = refl
    or_none (Some x) = refl
last_line-last url (first ∷ rest) line =
    ap (λ o. option_or o (if url_matches first.pattern url then Some first else None)) (last_line-last url rest line)
    ∙ three (if url_matches line.pattern url then Some line else None) (last_line url rest) (if url_matches first.pattern url then Some first else None)

last_line-take : (url : Url) (lines : List ForwardLine) (at : ℕ) (line : ForwardLine) → at < length lines → line ≡ get_or lines at line →
    last_line url (map forward_line_of (take (at + 1) lines)) ≡ option_or (if url_matches line.pattern url then Some (forward_line_of line) else None) (last_line url (map forward_line_of (take at lines)))
last_line-take url lines at line within is =
    ap (λ l. last_line url (map forward_line_of l)) (take_more lines at line within)
    ∙ ap (last_line url) (map-append forward_line_of (take at lines) (get_or lines at line ∷ []))
    ∙ last_line-last url (map forward_line_of (take at lines)) (forward_line_of (get_or lines at line))
    ∙ ap (λ l. option_or (if url_matches l.pattern url then Some (forward_line_of l) else None) (last_line url (map forward_line_of (take at lines)))) (sym is)

pub line_found : (url : Url) (lines : List ForwardLine) (at back : ℕ) (line : ForwardLine) (r : Bool) → back ≡ at + 1 → at < length lines → line ≡ get_or lines at line →
    r ≡ url_matches line.pattern url → r ≡ true → last_line url (map forward_line_of lines) ≡ last_line url (map forward_line_of (take back lines)) →
    Some (forward_line_of line) ≡ last_line url (map forward_line_of lines)
line_found url lines at back line r back_is within is r_is here so_far =
    sym (so_far ∙ ap (λ n. last_line url (map forward_line_of (take n lines))) back_is ∙ last_line-take url lines at line within is
    ∙ ap (λ b. option_or (if b then Some (forward_line_of line) else None) (last_line url (map forward_line_of (take at lines)))) (sym r_is ∙ here))

pub line_earlier : (url : Url) (lines : List ForwardLine) (at back : ℕ) (line : ForwardLine) (r : Bool) → back ≡ at + 1 → at < length lines → line ≡ get_or lines at line →
    r ≡ url_matches line.pattern url → r ≡ false → last_line url (map forward_line_of lines) ≡ last_line url (map forward_line_of (take back lines)) →
    last_line url (map forward_line_of lines) ≡ last_line url (map forward_line_of (take at lines))
line_earlier url lines at back line r back_is within is r_is here so_far =
    so_far ∙ ap (λ n. last_line url (map forward_line_of (take n lines))) back_is ∙ last_line-take url lines at line within is
    ∙ ap (λ b. option_or (if b then Some (forward_line_of line) else None) (last_line url (map forward_line_of (take at lines)))) (sym r_is ∙ here)

pub line_none : (url : Url) (lines : List ForwardLine) (at : ℕ) → at ≡ 0 → last_line url (map forward_line_of lines) ≡ last_line url (map forward_line_of (take at lines)) → None ≡ last_line url (map forward_line_of lines)
unfolding last_line
line_none url lines at zero_is so_far = sym (so_far ∙ ap (λ n. last_line url (map forward_line_of (take n lines))) zero_is)
