-- Where no line is found, none names what stands behind a dot.
use Rattle.std.proofs.Common.{◌≡◌, ℕ, Bool, true, false, cond, List, [], ◌∷◌, ◌++◌, refl, ap, sym, ◌∙◌, true≢false}
use Rattle.std.specs.Prelude.{Option, None, Some, is_some, ◌==◌, ◌||◌}
use Rattle.std.specs.List.{list_any}
use Rattle.std.specs.Option.{option_or}
use Rattle.std.specs.Str.{str_eq_ignore_ascii_case}
use Rattle.px_host_lists.specs.declared.TheConstants.{DOT}
use Rattle.px_host_lists.specs.Hosts.{HostEntry, first_listed, is_named_above, is_named_by, line_above, line_of, listed_line, without_end_dot}

not_some : (o : Option ℕ) → is_some o ≡ false → o ≡ None
not_some None e = refl
not_some (Some line) e = absurd (true≢false e)

or-first : (o p : Option ℕ) → option_or o p ≡ None → o ≡ None
or-first None p e = refl
or-first (Some line) p e = e

or-second : (o p : Option ℕ) → option_or o p ≡ None → p ≡ None
or-second None p e = e
or-second (Some line) p e = absurd (true≢false (ap is_some e))

step : (b : Bool) (o p : Option ℕ) → cond b (option_or o p) p ≡ None → p ≡ None
step true o p e = or-second o p e
step false o p e = e

behind-none : (entries : List HostEntry) (front behind : List ℕ) → line_above entries (front ++ 46 ∷ behind) ≡ None → line_of entries behind ≡ None
unfolding line_above
behind-none entries [] behind e = or-first (line_of entries behind) (line_above entries behind) e
behind-none entries (b ∷ front) behind e =
    behind-none entries front behind (step (b == DOT) (line_of entries (front ++ 46 ∷ behind)) (line_above entries (front ++ 46 ∷ behind)) e)

pub unlisted-exact : (entries : List HostEntry) (host : List ℕ) → is_some (listed_line entries host) ≡ false → line_of entries (without_end_dot host) ≡ None
unfolding first_listed listed_line
unlisted-exact entries host e =
    or-first (line_of entries (without_end_dot host)) (line_above entries (without_end_dot host))
    (not_some (option_or (line_of entries (without_end_dot host)) (line_above entries (without_end_dot host))) e)

pub unlisted-above : (entries : List HostEntry) (host : List ℕ) → is_some (listed_line entries host) ≡ false → (front behind : List ℕ) → without_end_dot host ≡ front ++ 46 ∷ behind → line_of entries behind ≡ None
unfolding first_listed listed_line
unlisted-above entries host e front behind whole =
    behind-none entries front behind
    (ap (λ h. line_above entries h) (sym whole)
    ∙ or-second (line_of entries (without_end_dot host)) (line_above entries (without_end_dot host))
    (not_some (option_or (line_of entries (without_end_dot host)) (line_above entries (without_end_dot host))) e))

-- ---- a list by its entries one by one

or-some : (o p : Option ℕ) → is_some (option_or o p) ≡ (is_some o || is_some p)
or-some None p = refl
or-some (Some line) p = refl

-- four tests in another order
or-swap : (a b c d : Bool) → ((a || b) || (c || d)) ≡ ((a || c) || (b || d))
or-swap true b c d = refl
or-swap false true true d = refl
or-swap false true false d = refl
or-swap false false true d = refl
or-swap false false false d = refl

any-or : (f g : HostEntry → Bool) (entries : List HostEntry) → (list_any f entries || list_any g entries) ≡ list_any (λ entry. f entry || g entry) entries
any-or f g [] = refl
any-or f g (entry ∷ entries) = or-swap (f entry) (list_any f entries) (g entry) (list_any g entries) ∙ ap (λ b. (f entry || g entry) || b) (any-or f g entries)

exact_by : (line : ℕ) (others : Option ℕ) (b : Bool) → is_some (cond b (Some line) others) ≡ (b || is_some others)
exact_by line others true = refl
exact_by line others false = refl

exact-any : (entries : List HostEntry) (host : List ℕ) → is_some (line_of entries host) ≡ list_any (λ entry. str_eq_ignore_ascii_case entry.host host) entries
unfolding line_of
exact-any [] host = refl
exact-any (entry ∷ entries) host =
    exact_by entry.line (line_of entries host) (str_eq_ignore_ascii_case entry.host host) ∙ ap (λ b. str_eq_ignore_ascii_case entry.host host || b) (exact-any entries host)

none-any : (entries : List HostEntry) → false ≡ list_any (λ entry. false) entries
none-any [] = refl
none-any (entry ∷ entries) = none-any entries

above_by : (entries : List HostEntry) (bytes : List ℕ) (b : Bool) → is_some (line_above entries bytes) ≡ list_any (λ entry. is_named_above entry.host bytes) entries →
    is_some (cond b (option_or (line_of entries bytes) (line_above entries bytes)) (line_above entries bytes))
    ≡ list_any (λ entry. cond b (str_eq_ignore_ascii_case entry.host bytes || is_named_above entry.host bytes) (is_named_above entry.host bytes)) entries
above_by entries bytes true same =
    or-some (line_of entries bytes) (line_above entries bytes)
    ∙ (ap (λ b. b || is_some (line_above entries bytes)) (exact-any entries bytes)
    ∙ (ap (λ b. list_any (λ entry. str_eq_ignore_ascii_case entry.host bytes) entries || b) same
    ∙ any-or (λ entry. str_eq_ignore_ascii_case entry.host bytes) (λ entry. is_named_above entry.host bytes) entries))
above_by entries bytes false same = same

above-any : (entries : List HostEntry) (bytes : List ℕ) → is_some (line_above entries bytes) ≡ list_any (λ entry. is_named_above entry.host bytes) entries
unfolding line_above
above-any entries [] = none-any entries
above-any entries (b ∷ bytes) = above_by entries bytes (b == DOT) (above-any entries bytes)

pub listed-any : (entries : List HostEntry) (host : List ℕ) → is_some (listed_line entries host) ≡ list_any (λ entry. is_named_by entry.host (without_end_dot host)) entries
unfolding listed_line first_listed
listed-any entries host =
    or-some (line_of entries (without_end_dot host)) (line_above entries (without_end_dot host))
    ∙ (ap (λ b. b || is_some (line_above entries (without_end_dot host))) (exact-any entries (without_end_dot host))
    ∙ (ap (λ b. list_any (λ entry. str_eq_ignore_ascii_case entry.host (without_end_dot host)) entries || b) (above-any entries (without_end_dot host))
    ∙ any-or (λ entry. str_eq_ignore_ascii_case entry.host (without_end_dot host)) (λ entry. is_named_above entry.host (without_end_dot host)) entries))
