-- What URLs stand for, by their parts.
use Rattle.std.proofs.Common.{◌≡◌, ℕ, ◌-◌, Bool, true, false, List, [], ◌∷◌, length, take, drop, refl, ap, sym, ◌∙◌, arith, None, Some, Result, Ok, Err}
use Rattle.std.specs.Prelude.{◌==◌, codes, slice_index}
use Rattle.std.specs.List.{after_first, before_first}
use Rattle.std.proofs.lemmas.Bool.{eq-eqb, eqb-false, eqb-true, ne_eqb}
use Rattle.px_patterns.specs.declared.TheConstants.{AT, BRACKET_BEGIN, BRACKET_END, COLON}
use Rattle.px_patterns.specs.declared.faults.UrlFault.{UrlFault}
use Rattle.px_patterns.specs.declared.faults.UrlFault.TheVariants.{BadByte, BadPort, HasUser, Mem, NoHost, NotHttp}
use Rattle.px_patterns.specs.declared.urls.Url.{Url}
use Rattle.px_patterns.specs.Faults.{IsUrlRefusal}
use Rattle.px_patterns.specs.Places.{HasPlace, LacksPlace}
use Rattle.px_patterns.specs.Urls.{authority_of, begins_without_case, behind_host_part, bracketed_host, ends_host, has_bad_byte, host_of, host_part, is_address, named_host, path_of, port_of, url_of, url_of_part, with_nothing_behind}
use Rattle.px_patterns.proofs.PlaceLemmas.{after_first-rest, before_first-take}

abbrev is_bracket : ℕ → Bool
is_bracket b = b == BRACKET_END

-- ---- hosts

pub bracketed_yes : (text inside rest : List ℕ) (at : ℕ) → HasPlace (λ b. b == BRACKET_END) text at → inside ≡ take at text → rest ≡ drop at text → is_address inside ≡ true →
    bracketed_host text ≡ Some (inside, take (length rest - 1) (drop 1 rest))
bracketed_yes text inside rest at place front back good =
    let is : before_first (λ b. b == BRACKET_END) text ≡ inside = place.front ∙ sym front in
    let good' : is_address (before_first (λ b. b == BRACKET_END) text) ≡ true = ap is_address is ∙ good in
    rw (place.some, good') (ap (λ l. Some (l, after_first (λ b. b == BRACKET_END) text)) is ∙ ap (λ l. Some (inside, l)) (sym (after_first-rest (λ b. b == BRACKET_END) text rest at place back)))

pub bracketed_bad : (text inside : List ℕ) (at : ℕ) → HasPlace (λ b. b == BRACKET_END) text at → inside ≡ take at text → is_address inside ≡ false → bracketed_host text ≡ None
bracketed_bad text inside at place front bad =
    let bad' : is_address (before_first (λ b. b == BRACKET_END) text) ≡ false = ap is_address (place.front ∙ sym front) ∙ bad in
    rw (place.some, bad') refl

pub bracketed_open : (text : List ℕ) → LacksPlace (λ b. b == BRACKET_END) text → bracketed_host text ≡ None
bracketed_open text lacks = rw lacks.none refl

pub named_none : (part : List ℕ) (end : ℕ) → end ≡ length (before_first (λ b. b == COLON) part) → end ≡ 0 → named_host part ≡ None
named_none part end is none = rw (eq-eqb (length (before_first (λ b. b == COLON) part)) 0 (sym is ∙ none)) refl

pub named_some : (part front back : List ℕ) (end : ℕ) → end ≡ length (before_first (λ b. b == COLON) part) → (end ≡ 0 → ⊥) → front ≡ take end part → back ≡ drop end part → named_host part ≡ Some (front, back)
named_some part front back end is some before behind =
    rw (ne_eqb (length (before_first (λ b. b == COLON) part)) 0 (λ none. some (is ∙ none)))
    (ap (λ l. Some (l, drop (length (before_first (λ b. b == COLON) part)) part)) (sym (before ∙ before_first-take (λ b. b == COLON) part end is))
    ∙ ap (λ l. Some (front, l)) (ap (λ n. drop n part) (sym is) ∙ sym behind))

pub host_bracketed : (part : List ℕ) → slice_index part 0 ≡ BRACKET_BEGIN → host_of part ≡ bracketed_host (drop 1 part)
unfolding host_of
host_bracketed part begins = rw (eq-eqb (slice_index part 0) BRACKET_BEGIN begins) refl

pub host_named : (part : List ℕ) → (slice_index part 0 == BRACKET_BEGIN) ≡ false → host_of part ≡ named_host part
unfolding host_of
host_named part other = rw other refl

-- ---- host parts

pub part_user : (needed : Bool) (part path : List ℕ) (at : ℕ) → HasPlace (λ b. b == AT) part at → url_of_part needed part path ≡ Err HasUser
part_user needed part path at place = rw place.some refl

pub part_no_host : (needed : Bool) (part path : List ℕ) → LacksPlace (λ b. b == AT) part → host_of part ≡ None → url_of_part needed part path ≡ Err NoHost
part_no_host needed part path lacks none = rw (lacks.none, none) refl

pub part_no_port : (needed : Bool) (part path host behind : List ℕ) → LacksPlace (λ b. b == AT) part → host_of part ≡ Some (host, behind) → None ≡ port_of needed behind → url_of_part needed part path ≡ Err BadPort
part_no_port needed part path host behind lacks some none = rw (lacks.none, some, ← none) refl

pub part_url : (needed : Bool) (part path host behind shown : List ℕ) (port : ℕ) (text : List ℕ) → LacksPlace (λ b. b == AT) part → host_of part ≡ Some (host, behind) → Some port ≡ port_of needed behind → shown ≡ host → text ≡ path →
    url_of_part needed part path ≡ Ok record { host = shown; port = port; path = text }
part_url needed part path host behind shown port text lacks some is same_host same_path = rw (lacks.none, some, ← is, same_host, same_path) refl

-- ---- whole texts

pub url_bad : (text : List ℕ) → has_bad_byte text ≡ true → url_of text ≡ Err BadByte
unfolding url_of
url_bad text bad = rw bad refl

pub url_not_http : (text : List ℕ) → has_bad_byte text ≡ false → begins_without_case text (codes "http://") ≡ false → url_of text ≡ Err NotHttp
unfolding url_of
url_not_http text good other = rw (good, other) refl

pub url_whole : (text rest part behind : List ℕ) (end : ℕ) → has_bad_byte text ≡ false → begins_without_case text (codes "http://") ≡ true → rest ≡ drop 7 text → end ≡ length (before_first ends_host rest) → part ≡ take end rest → behind ≡ drop end rest →
    url_of_part false part (path_of behind) ≡ url_of text
unfolding url_of
url_whole text rest part behind end good begins is place front back =
    rw (good, begins, ← is)
    (ap (λ l. url_of_part false l (path_of behind)) (front ∙ before_first-take ends_host rest end place)
    ∙ ap (λ l. url_of_part false (host_part rest) (path_of l)) (back ∙ ap (λ n. drop n rest) place))

pub authority_bad : (text : List ℕ) → has_bad_byte text ≡ true → authority_of text ≡ Err BadByte
unfolding authority_of
authority_bad text bad = rw bad refl

pub authority_whole : (text part behind : List ℕ) (end : ℕ) → has_bad_byte text ≡ false → end ≡ length (before_first ends_host text) → part ≡ take end text → behind ≡ drop end text →
    authority_of text ≡ with_nothing_behind behind (url_of_part true part (codes "/"))
unfolding authority_of
authority_whole text part behind end good place front back =
    rw good
    (ap (λ l. with_nothing_behind (behind_host_part text) (url_of_part true l (codes "/"))) (sym (front ∙ before_first-take ends_host text end place))
    ∙ ap (λ l. with_nothing_behind l (url_of_part true part (codes "/"))) (sym (back ∙ ap (λ n. drop n text) place)))

pub authority_ok : (behind : List ℕ) (meaning : Result Url UrlFault) (url : Url) → meaning ≡ Ok url → (length behind == 0) ≡ true → with_nothing_behind behind meaning ≡ Ok url
authority_ok behind meaning url is empty = rw (is, empty) refl

pub authority_behind : (behind : List ℕ) (meaning : Result Url UrlFault) (url : Url) → meaning ≡ Ok url → (length behind == 0) ≡ false → with_nothing_behind behind meaning ≡ Err BadPort
authority_behind behind meaning url is some = rw (is, some) refl

pub authority_refused : (behind : List ℕ) (meaning : Result Url UrlFault) (fault : UrlFault) → IsUrlRefusal meaning fault → IsUrlRefusal (with_nothing_behind behind meaning) fault
authority_refused behind meaning Mem refused = tt
authority_refused behind meaning BadByte refused = ap (with_nothing_behind behind) refused
authority_refused behind meaning BadPort refused = ap (with_nothing_behind behind) refused
authority_refused behind meaning HasUser refused = ap (with_nothing_behind behind) refused
authority_refused behind meaning NoHost refused = ap (with_nothing_behind behind) refused
authority_refused behind meaning NotHttp refused = ap (with_nothing_behind behind) refused

-- an empty host part begins with no bracket
pub not_bracketed : (part : List ℕ) → (length part == 0) ≡ true → (slice_index part 0 == BRACKET_BEGIN) ≡ false
not_bracketed [] empty = ne_eqb 0 BRACKET_BEGIN (eqb-false 0 BRACKET_BEGIN refl)
not_bracketed (b ∷ part) empty = absurd (omega (arith, eqb-true (length (b ∷ part)) 0 empty))
