-- A moment as a line shows it has the parts of its date as a header has it.
use Rattle.std.proofs.Common.{◌≡◌, ℕ, zero, suc, ◌+◌, ◌/◌, ◌%◌, ◌≤◌, ◌<◌, Bool, true, false, cond, List, [], ◌∷◌, length, get_or, Some, None, refl, sym, ◌∙◌, ap, arith}
use Rattle.std.specs.Prelude.{nat_le, nat_lt, codes, if◌then◌else◌}
use Rattle.std.specs.Option.{option_map_or}
use Rattle.std.proofs.lemmas.Slice.Eq.{text_from_reads}
use Rattle.httpdate.specs.Calendar.{days_from_civil, weekday}
use Rattle.httpdate.specs.Date.{unix_secs, date_text}
use Rattle.httpdate.specs.Text.{day_name, imf_fixdate, month_name}
use Rattle.httpdate.specs.declared.date.HttpDate.{HttpDate}
use Rattle.httpdate.specs.declared.parts.Parts.{Parts}
use Rattle.px_headers.specs.Dates.{date_at, date_on, end_of_dates, month_on, year_on}
use Rattle.px_headers.proofs.DateLemmas.{date_is, date_none}
use Rattle.px_log_lines.specs.Lines.{log_date, reordered, shown_moment}

three_items : (xs : List ℕ) → length xs ≡ 3 → xs ≡ get_or xs 0 0 ∷ get_or xs 1 0 ∷ get_or xs 2 0 ∷ []
three_items xs three = text_from_reads xs _ three (refl, (refl, (refl, tt)))

day-letters : (n : ℕ) → 1 ≤ n → n ≤ 7 → length (day_name n) ≡ 3
day-letters zero low high = absurd (omega arith)
day-letters (suc zero) low high = refl
day-letters (suc (suc zero)) low high = refl
day-letters (suc (suc (suc zero))) low high = refl
day-letters (suc (suc (suc (suc zero)))) low high = refl
day-letters (suc (suc (suc (suc (suc zero))))) low high = refl
day-letters (suc (suc (suc (suc (suc (suc zero)))))) low high = refl
day-letters (suc (suc (suc (suc (suc (suc (suc zero))))))) low high = refl
day-letters (suc (suc (suc (suc (suc (suc (suc (suc k)))))))) low high = absurd (omega arith)

month-letters : (n : ℕ) → 1 ≤ n → n ≤ 12 → length (month_name n) ≡ 3
month-letters zero low high = absurd (omega arith)
month-letters (suc zero) low high = refl
month-letters (suc (suc zero)) low high = refl
month-letters (suc (suc (suc zero))) low high = refl
month-letters (suc (suc (suc (suc zero)))) low high = refl
month-letters (suc (suc (suc (suc (suc zero))))) low high = refl
month-letters (suc (suc (suc (suc (suc (suc zero)))))) low high = refl
month-letters (suc (suc (suc (suc (suc (suc (suc zero))))))) low high = refl
month-letters (suc (suc (suc (suc (suc (suc (suc (suc zero)))))))) low high = refl
month-letters (suc (suc (suc (suc (suc (suc (suc (suc (suc zero))))))))) low high = refl
month-letters (suc (suc (suc (suc (suc (suc (suc (suc (suc (suc zero)))))))))) low high = refl
month-letters (suc (suc (suc (suc (suc (suc (suc (suc (suc (suc (suc zero))))))))))) low high = refl
month-letters (suc (suc (suc (suc (suc (suc (suc (suc (suc (suc (suc (suc zero)))))))))))) low high = refl
month-letters (suc (suc (suc (suc (suc (suc (suc (suc (suc (suc (suc (suc (suc k))))))))))))) low high = absurd (omega arith)

least : (b : Bool) (x y : ℕ) → 1 ≤ x → 1 ≤ y → 1 ≤ cond b x y
least true x y first second = first
least false x y first second = second

most : (b : Bool) (x y n : ℕ) → x ≤ n → y ≤ n → cond b x y ≤ n
most true x y n first second = first
most false x y n first second = second

month-low : (year days n : ℕ) → 1 ≤ month_on year days n
unfolding month_on
month-low year days zero = omega arith
month-low year days (suc n) = least (nat_le (days_from_civil year (1 + suc n) 1) days) (1 + suc n) (month_on year days n) (omega arith) (month-low year days n)

month-high : (year days n : ℕ) → month_on year days n ≤ 1 + n
unfolding month_on
month-high year days zero = omega arith
month-high year days (suc n) =
    let before = month-high year days n in
    most (nat_le (days_from_civil year (1 + suc n) 1) days) (1 + suc n) (month_on year days n) (1 + suc n) (omega arith) (omega arith)

-- the parts of a date whose names have three letters each
pub reordered_is : (p : Parts) → length (day_name p.wday) ≡ 3 → length (month_name p.mon) ≡ 3 → reordered (imf_fixdate p) ≡ log_date p
reordered_is p day month = let d = three_items (day_name p.wday) day in let m = three_items (month_name p.mon) month in rw (d, m)

pub date-reordered : (days seconds : ℕ) → reordered (imf_fixdate (date_on days seconds)) ≡ log_date (date_on days seconds)
unfolding date_on
date-reordered days seconds =
    let low = month-low (year_on days 8029) days 11 in
    let high = month-high (year_on days 8029) days 11 in
    reordered_is (date_on days seconds) (day-letters (weekday days) (omega arith) (omega arith))
    (month-letters (month_on (year_on days 8029) days 11) low (omega arith))

either : (b : Bool) (date : List ℕ) (shown none : List ℕ) → reordered date ≡ shown → (if b then shown else none) ≡ option_map_or reordered (if b then Some date else None) none
either true date shown none is = sym is
either false date shown none is = refl

shown-by-date : (moment : ℕ) → shown_moment moment ≡ option_map_or reordered (date_at moment) (codes "-")
unfolding shown_moment date_at
shown-by-date moment =
    either (nat_lt moment end_of_dates) (imf_fixdate (date_on (moment / 86400) (moment % 86400))) (log_date (date_on (moment / 86400) (moment % 86400))) (codes "-")
    (date-reordered (moment / 86400) (moment % 86400))

pub shown_date : (d : HttpDate) (moment : ℕ) → unix_secs d ≡ moment → moment < end_of_dates → shown_moment moment ≡ reordered (date_text d)
shown_date d moment is within = shown-by-date moment ∙ ap (λ date. option_map_or reordered date (codes "-")) (date_is d moment is within)

pub shown_none : (moment : ℕ) → end_of_dates ≤ moment → shown_moment moment ≡ codes "-"
shown_none moment past = shown-by-date moment ∙ ap (λ date. option_map_or reordered date (codes "-")) (date_none moment past)
