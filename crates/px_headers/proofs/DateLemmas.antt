-- The date of a moment is the one date whose second it is.
use Rattle.std.proofs.Common.{◌≡◌, ℕ, zero, suc, ◌+◌, ◌-◌, ◌*◌, ◌/◌, ◌%◌, ◌<◌, ◌≤◌, Bool, true, false, cond, List, Some, None, refl, sym, ap, ◌∙◌, arith}
use Rattle.std.specs.Prelude.{◌^◌, min, nat_le, nat_lt, option_map, if◌then◌else◌}
use Rattle.std.proofs.lemmas.Bool.Decides.{nat_tests}
use Rattle.httpdate.specs.Calendar.{IsCivilDate, days_from_civil, days_of_months, weekday}
use Rattle.httpdate.specs.Date.{unix_secs, date_text}
use Rattle.httpdate.specs.Text.{imf_fixdate}
use Rattle.httpdate.specs.declared.parts.Parts.{Parts}
use Rattle.httpdate.specs.declared.date.HttpDate.{HttpDate}
use Rattle.httpdate.proofs.CalendarLemmas.{days_from_civil_year, days_from_civil_month}
use Rattle.px_headers.specs.Cookies.{cap_of}
use Rattle.px_headers.specs.Dates.{date_at, date_in, date_on, end_of_dates, month_on, year_on}

pick : (b : Bool) (x y z : ℕ) → (b ≡ true → x ≡ z) → (b ≡ false → y ≡ z) → cond b x y ≡ z
pick true x y z here there = here refl
pick false x y z here there = there refl

le-of : (a b : ℕ) → nat_le a b ≡ true → a ≤ b
le-of a b is = grind (arith, nat_tests)

gt-of : (a b : ℕ) → nat_le a b ≡ false → b < a
gt-of a b is = grind (arith, nat_tests)

le-cases : (a b : ℕ) (t : Bool) → nat_le a b ≡ t → (b < a → ⊥) → a ≤ b
le-cases a b true is never = le-of a b is
le-cases a b false is never = absurd (never (gt-of a b is))

pub le-by : (a b : ℕ) → (b < a → ⊥) → a ≤ b
le-by a b never = le-cases a b (nat_le a b) refl never

year_begins : (y m d : ℕ) → days_from_civil y 1 1 ≤ days_from_civil y m d
unfolding days_of_months
year_begins y m d = omega arith

month_begins : (y m d : ℕ) → days_from_civil y m 1 ≤ days_from_civil y m d
month_begins y m d = omega arith

-- a year that has begun on a day isn't past the day's year
begun-year : (y m d later : ℕ) → IsCivilDate y m d → days_from_civil later 1 1 ≤ days_from_civil y m d → later ≤ y
begun-year y m d later civil begun =
    le-by later y (λ past. let more = days_from_civil_year y m d later 1 1 civil past in omega arith)

-- a year that hasn't isn't the day's year
unbegun-year : (y m d later : ℕ) → days_from_civil y m d < days_from_civil later 1 1 → y ≡ later → ⊥
unbegun-year y m d later unbegun same = omega (arith, year_begins y m d, ap (λ k. days_from_civil k 1 1) same)

year-is : (y m d n : ℕ) → IsCivilDate y m d → y ≤ 1970 + n → year_on (days_from_civil y m d) n ≡ y
unfolding year_on
year-is y m d zero civil within = let low = civil.0.0 in omega arith
year-is y m d (suc n) civil within =
    pick (nat_le (days_from_civil (1970 + suc n) 1 1) (days_from_civil y m d)) (1970 + suc n) (year_on (days_from_civil y m d) n) y
    (λ is. let begun = begun-year y m d (1970 + suc n) civil (le-of (days_from_civil (1970 + suc n) 1 1) (days_from_civil y m d) is) in omega arith)
    (λ is.
    let other : y ≡ 1970 + suc n → ⊥ = unbegun-year y m d (1970 + suc n) (gt-of (days_from_civil (1970 + suc n) 1 1) (days_from_civil y m d) is) in
    year-is y m d n civil (omega arith))

begun-month : (y m d later : ℕ) → IsCivilDate y m d → days_from_civil y later 1 ≤ days_from_civil y m d → later ≤ m
begun-month y m d later civil begun =
    le-by later m (λ past. let more = days_from_civil_month y m d later 1 civil past in omega arith)

unbegun-month : (y m d later : ℕ) → days_from_civil y m d < days_from_civil y later 1 → m ≡ later → ⊥
unbegun-month y m d later unbegun same = omega (arith, month_begins y m d, ap (λ k. days_from_civil y k 1) same)

month-is : (y m d n : ℕ) → IsCivilDate y m d → m ≤ 1 + n → month_on y (days_from_civil y m d) n ≡ m
unfolding month_on
month-is y m d zero civil within = let low = civil.1.0 in omega arith
month-is y m d (suc n) civil within =
    pick (nat_le (days_from_civil y (1 + suc n) 1) (days_from_civil y m d)) (1 + suc n) (month_on y (days_from_civil y m d) n) m
    (λ is. let begun = begun-month y m d (1 + suc n) civil (le-of (days_from_civil y (1 + suc n) 1) (days_from_civil y m d) is) in omega arith)
    (λ is.
    let other : m ≡ 1 + suc n → ⊥ = unbegun-month y m d (1 + suc n) (gt-of (days_from_civil y (1 + suc n) 1) (days_from_civil y m d) is) in
    month-is y m d n civil (omega arith))

-- the numbers of a date are those of its days and seconds
parts-are : (p : Parts) → IsCivilDate p.year p.mon p.day → (p.hour < 24) × (p.min < 60) × (p.sec < 60) → p.wday ≡ weekday (days_from_civil p.year p.mon p.day) →
    date_on (days_from_civil p.year p.mon p.day) (p.hour * 3600 + p.min * 60 + p.sec) ≡ p
unfolding date_on
parts-are p civil time right_day =
    let year = year-is p.year p.mon p.day 8029 civil (let high = civil.0.1 in omega arith) in
    let low = civil.2.0 in
    let day : days_from_civil p.year p.mon p.day - days_from_civil p.year p.mon 1 + 1 ≡ p.day = omega arith in
    let hour : (p.hour * 3600 + p.min * 60 + p.sec) / 3600 ≡ p.hour = omega (arith, time) in
    let min : (p.hour * 3600 + p.min * 60 + p.sec) % 3600 / 60 ≡ p.min = omega (arith, time) in
    let sec : (p.hour * 3600 + p.min * 60 + p.sec) % 60 ≡ p.sec = omega (arith, time) in
    let wday = sym right_day in
    ap (λ y. date_in (days_from_civil p.year p.mon p.day) (p.hour * 3600 + p.min * 60 + p.sec) y (month_on y (days_from_civil p.year p.mon p.day) 11)) year
    ∙ (ap (λ m. date_in (days_from_civil p.year p.mon p.day) (p.hour * 3600 + p.min * 60 + p.sec) p.year m) (month-is p.year p.mon p.day 11 civil (let high = civil.1.1 in omega arith))
    ∙ λ i. record { year = p.year; mon = p.mon; day = day i; hour = hour i; min = min i; sec = sec i; wday = wday i })

not-below : (moment : ℕ) → nat_lt moment end_of_dates ≡ false → moment < end_of_dates → ⊥
not-below moment is within = grind (arith, nat_tests)

yes-below : (moment : ℕ) → nat_lt moment end_of_dates ≡ true → end_of_dates ≤ moment → ⊥
yes-below moment is past = grind (arith, nat_tests)

below : (b : Bool) (moment : ℕ) (x y : List ℕ) → nat_lt moment end_of_dates ≡ b → moment < end_of_dates → x ≡ y → (if b then Some x else None) ≡ Some y
below true moment x y is within same = ap Some same
below false moment x y is within same = absurd (not-below moment is within)

above : (b : Bool) (moment : ℕ) (x : List ℕ) → nat_lt moment end_of_dates ≡ b → end_of_dates ≤ moment → (if b then Some x else None) ≡ None
above true moment x is past = absurd (yes-below moment is past)
above false moment x is past = refl

-- the date of a moment is the text of each date whose second it is
pub date_is : (d : HttpDate) (moment : ℕ) → unix_secs d ≡ moment → moment < end_of_dates → date_at moment ≡ Some (date_text d)
unfolding date_at
date_is d moment is within =
    let time = d.time in
    let days : moment / 86400 ≡ days_from_civil d.parts.year d.parts.mon d.parts.day = omega (arith, time, is) in
    let seconds : moment % 86400 ≡ d.parts.hour * 3600 + d.parts.min * 60 + d.parts.sec = omega (arith, time, is) in
    below (nat_lt moment end_of_dates) moment (imf_fixdate (date_on (moment / 86400) (moment % 86400))) (date_text d) refl within
    (ap (λ days. imf_fixdate (date_on days (moment % 86400))) days
    ∙ (ap (λ seconds. imf_fixdate (date_on (days_from_civil d.parts.year d.parts.mon d.parts.day) seconds)) seconds ∙ ap imf_fixdate (parts-are d.parts d.civil d.time d.right_day)))

pub date_none : (moment : ℕ) → end_of_dates ≤ moment → date_at moment ≡ None
unfolding date_at
date_none moment past = above (nat_lt moment end_of_dates) moment (imf_fixdate (date_on (moment / 86400) (moment % 86400))) refl past

-- the cap of a moment that a u64 can't go past
most-is : (total latest most : ℕ) → latest ≡ min total most → total ≤ most → latest ≡ total
most-is total latest most is within = grind (arith, nat_tests)

most-past : (total latest most : ℕ) → latest ≡ min total most → most < total → latest ≡ most
most-past total latest most is past = grind (arith, nat_tests)

some-cap : (t : Bool) (moment minutes latest : ℕ) (date : List ℕ) → nat_le (moment + 60 * minutes) (2 ^ 64 - 1) ≡ t → latest ≡ min (moment + 60 * minutes) (2 ^ 64 - 1) →
    Some date ≡ date_at latest → Some (record { latest = latest; seconds = 60 * minutes; date = date }) ≡ cap_of moment minutes
unfolding cap_of
some-cap true moment minutes latest date t is dated =
    let same = most-is (moment + 60 * minutes) latest (2 ^ 64 - 1) is (le-of (moment + 60 * minutes) (2 ^ 64 - 1) t) in
    ap (λ n. Some (record { latest = n; seconds = 60 * minutes; date = date })) same
    ∙ ap (λ d. option_map (λ date. record { latest = moment + 60 * minutes; seconds = 60 * minutes; date = date }) d) (dated ∙ ap date_at same)
some-cap false moment minutes latest date t is dated =
    let same = most-past (moment + 60 * minutes) latest (2 ^ 64 - 1) is (gt-of (moment + 60 * minutes) (2 ^ 64 - 1) t) in
    let none = date_none latest (omega (arith, same)) in
    cc

none-cap : (t : Bool) (moment minutes latest : ℕ) → nat_le (moment + 60 * minutes) (2 ^ 64 - 1) ≡ t → latest ≡ min (moment + 60 * minutes) (2 ^ 64 - 1) →
    None ≡ date_at latest → None ≡ cap_of moment minutes
unfolding cap_of
none-cap true moment minutes latest t is dated =
    let same = most-is (moment + 60 * minutes) latest (2 ^ 64 - 1) is (le-of (moment + 60 * minutes) (2 ^ 64 - 1) t) in
    ap (λ d. option_map (λ date. record { latest = moment + 60 * minutes; seconds = 60 * minutes; date = date }) d) (dated ∙ ap date_at same)
none-cap false moment minutes latest t is dated =
    let past = gt-of (moment + 60 * minutes) (2 ^ 64 - 1) t in
    ap (λ d. option_map (λ date. record { latest = moment + 60 * minutes; seconds = 60 * minutes; date = date }) d) (sym (date_none (moment + 60 * minutes) (omega arith)))

pub cap-some : (moment minutes latest : ℕ) (date : List ℕ) → latest ≡ min (moment + 60 * minutes) (2 ^ 64 - 1) → Some date ≡ date_at latest →
    Some (record { latest = latest; seconds = 60 * minutes; date = date }) ≡ cap_of moment minutes
cap-some moment minutes latest date is dated = some-cap (nat_le (moment + 60 * minutes) (2 ^ 64 - 1)) moment minutes latest date refl is dated

pub cap-none : (moment minutes latest : ℕ) → latest ≡ min (moment + 60 * minutes) (2 ^ 64 - 1) → None ≡ date_at latest → None ≡ cap_of moment minutes
cap-none moment minutes latest is dated = none-cap (nat_le (moment + 60 * minutes) (2 ^ 64 - 1)) moment minutes latest refl is dated
