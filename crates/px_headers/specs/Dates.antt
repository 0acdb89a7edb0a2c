-- The date of a moment, as a header has it (RFC 9110, section 5.6.7). Days are counted from 1 January 1970.
use Rattle.std.specs.Prelude.{ℕ, zero, suc, ◌+◌, ◌-◌, ◌/◌, ◌%◌, nat_le, nat_lt, List, Option, Some, None, if◌then◌else◌}
use Rattle.httpdate.specs.Calendar.{days_from_civil, weekday}
use Rattle.httpdate.specs.Text.{imf_fixdate}
use Rattle.httpdate.specs.declared.parts.Parts.{Parts}

-- the last year, of those up to n years past 1970, that has begun on that day
unfoldable pub year_on : ℕ → ℕ → ℕ
year_on days zero = 1970
year_on days (suc n) = if nat_le (days_from_civil (1970 + suc n) 1 1) days then 1970 + suc n else year_on days n

-- the last month of the year, of those up to n months past January, that has begun on that day
unfoldable pub month_on : ℕ → ℕ → ℕ → ℕ
month_on year days zero = 1
month_on year days (suc n) = if nat_le (days_from_civil year (1 + suc n) 1) days then 1 + suc n else month_on year days n

abbrev pub date_in : ℕ → ℕ → ℕ → ℕ → Parts
date_in days seconds year month = record {
  year = year;
  mon = month;
  day = days - days_from_civil year month 1 + 1;
  hour = seconds / 3600;
  min = seconds % 3600 / 60;
  sec = seconds % 60;
  wday = weekday days;
}

-- the date so many days and seconds past the beginning of 1970, up to the year 9999
unfoldable pub date_on : ℕ → ℕ → Parts
date_on days seconds = date_in days seconds (year_on days 8029) (month_on (year_on days 8029) days 11)

-- the first second of the year 10000
abbrev pub end_of_dates : ℕ
end_of_dates = 253402300800

-- the date of a moment, where it isn't past the year 9999
unfoldable pub date_at : ℕ → Option (List ℕ)
date_at moment = if nat_lt moment end_of_dates then Some (imf_fixdate (date_on (moment / 86400) (moment % 86400))) else None
