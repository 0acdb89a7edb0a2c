-- What stays where no field has the name that an action is about.
use Rattle.std.proofs.Common.{◌≡◌, ℕ, Bool, true, false, List, [], ◌∷◌, ◌++◌, Option, Some, None, refl, ap, sym, cond}
use Rattle.std.proofs.lemmas.Bool.{false≢true}
use Rattle.std.specs.Prelude.{◌==◌, ◌&&◌, ◌||◌, codes, unwrap_or}
use Rattle.std.specs.List.{list_any}
use Rattle.std.specs.Option.{option_map_or}
use Rattle.px_base.specs.Numbers.{decimal}
use Rattle.px_actions.specs.Sets.{is_on, value}
use Rattle.px_actions.specs.declared.kinds.Kind.TheVariants as kind
use Rattle.px_actions.specs.declared.settings.Setting.{Setting}
use Rattle.px_fields.specs.declared.fields.Field.{Field}
use Rattle.px_fields.specs.Names.{has_field, has_name}
use Rattle.px_patterns.specs.declared.urls.Url.{Url}
use Rattle.px_headers.specs.Cookies.{cap_of, capped_cookie, session_cookie}
use Rattle.px_headers.specs.Referrers.{has_foreign_referrer, is_foreign, root_of, with_hidden_referrer}
use Rattle.px_headers.specs.Rows.{with_more, with_value, with_values, without_field, without_those}
use Rattle.px_headers.specs.ServerRows.{limit_cookies, with_capped_cookies, with_limited_cookies, with_session_cookies}

or-none : (a b : Bool) → (a || b) ≡ false → (a ≡ false) × (b ≡ false)
or-none false b none = (refl, none)
or-none true b none = absurd (false≢true (sym none))

either : {X : Type 0} (b : Bool) (x y z : X) → x ≡ z → y ≡ z → cond b x y ≡ z
either true x y z first second = first
either false x y z first second = second

or-else : {A X : Type 0} (f : A → X) (o : Option A) (x : X) → ((a : A) → f a ≡ x) → option_map_or f o x ≡ x
or-else f None x same = refl
or-else f (Some a) x same = same a

pub with_values_none : (p : Field → Bool) (change : List ℕ → List ℕ) (fields : List Field) → list_any p fields ≡ false → with_values p change fields ≡ fields
with_values_none p change [] none = refl
with_values_none p change (f ∷ fields) none =
    let parts = or-none (p f) (list_any p fields) none in
    rw parts.0 (ap (λ fs. f ∷ fs) (with_values_none p change fields parts.1))

without-none : (p : Field → Bool) (fields : List Field) → list_any p fields ≡ false → without_those p fields ≡ fields
without-none p [] none = refl
without-none p (f ∷ fields) none =
    let parts = or-none (p f) (list_any p fields) none in
    rw parts.0 (ap (λ fs. f ∷ fs) (without-none p fields parts.1))

pub with_more_none : (name separator more : List ℕ) (fields : List Field) → has_field name fields ≡ false → with_more name separator more fields ≡ fields ++ record { name = name; value = more } ∷ []
unfolding with_more
with_more_none name separator more [] none = refl
with_more_none name separator more (f ∷ fields) none =
    let parts = or-none (has_name name f) (has_field name fields) none in
    rw parts.0 (ap (λ fs. f ∷ fs) (with_more_none name separator more fields parts.1))

-- a head without cookies stays as it is
pub limit_none : (set : List Setting) (moment : ℕ) (fields : List Field) → has_field (codes "Set-Cookie") fields ≡ false → limit_cookies set moment fields ≡ fields
unfolding limit_cookies with_limited_cookies with_capped_cookies with_session_cookies
limit_none set moment fields none =
    let session = with_values_none (has_name (codes "Set-Cookie")) session_cookie fields none in
    either (is_on set kind.SessionCookiesOnly) _ _ fields session
    (or-else {A = List ℕ} _ (value set kind.LimitCookieLifetime) fields (λ v.
    let minutes = unwrap_or (decimal 100000000 v) 0 in
    either (minutes == 0) _ _ fields session
    (or-else _ (cap_of moment minutes) fields (λ cap. with_values_none (has_name (codes "Set-Cookie")) (capped_cookie cap) fields none))))

any-and : (p q : Field → Bool) (fields : List Field) → list_any p fields ≡ false → list_any (λ f. p f && q f) fields ≡ false
any-and p q [] none = refl
any-and p q (f ∷ fields) none =
    let parts = or-none (p f) (list_any p fields) none in
    rw parts.0 (any-and p q fields parts.1)

-- a head without a referrer stays as it is
pub hidden_none : (url : Url) (v : List ℕ) (fields : List Field) → has_field (codes "Referer") fields ≡ false → with_hidden_referrer url v fields ≡ fields
unfolding with_hidden_referrer without_field with_value
hidden_none url v fields none =
    let foreign = any-and (has_name (codes "Referer")) (λ (f : Field). is_foreign url.host f.value) fields none in
    either _ _ _ fields (without-none (has_name (codes "Referer")) fields none)
    (either _ _ _ fields (with_values_none (has_name (codes "Referer")) (λ _. root_of url) fields none)
    (either _ _ _ fields (without-none (has_foreign_referrer url.host) fields foreign)
    (either _ _ _ fields (with_values_none (has_foreign_referrer url.host) (λ _. root_of url) fields foreign)
    (with_values_none (has_name (codes "Referer")) (λ _. v) fields none))))
