-- The pages of the proxy's own, and which takings give them.
use Rattle.std.specs.Prelude.{◌≡◌, ℕ, ◌==◌, ◌&&◌, ◌||◌, Bool, true, false, if◌then◌else◌, List, [], ◌++◌, Option, None, Some, Result, Ok, Err, codes, decimal}
use Rattle.std.specs.Str.{str_eq_ignore_ascii_case}
use Rattle.percent_encoding.specs.Percent.{percent_decode}
use Rattle.px_patterns.specs.Faults.{url_fault_name, url_fault_number}
use Rattle.px_patterns.specs.Urls.{url_of}
use Rattle.px_patterns.specs.declared.TheConstants.{DEFAULT_PORT}
use Rattle.px_patterns.specs.declared.faults.UrlFault.{UrlFault}
use Rattle.px_patterns.specs.declared.urls.Url.{Url}
use Rattle.px_config.specs.Insides.{Asked, InsideState, Law}
use Rattle.px_config.specs.declared.configs.Config.{Config}
use Rattle.px_config.specs.declared.insides.InsidePage.{InsidePage}
use Rattle.px_config.specs.declared.insides.Taking.{Taking}
use Rattle.px_show.specs.Showing.{shown}
use Rattle.px_pages.specs.Paths.{PageSeen, index, status, url_info, other, asked_at}
use Rattle.px_pages.specs.Statuses.{status_lines}

-- ---- the pages

abbrev pub found_page : List ℕ → InsidePage
found_page text = record { found = true; body = text }

-- what is said where there is no page
abbrev pub missing_page : List ℕ → InsidePage
missing_page text = record { found = false; body = text }

-- why a text is no URL: NUMBER NAME
abbrev pub url_fault_line : UrlFault → List ℕ
url_fault_line fault = decimal (url_fault_number fault) ++ codes " " ++ url_fault_name fault ++ codes "\n"

abbrev pub refused_page : UrlFault → InsidePage
refused_page fault = missing_page (url_fault_line fault)

-- what is shown of a URL with these tags, or why there is none
abbrev pub shown_page : Config → List (List ℕ) → Result Url UrlFault → InsidePage
shown_page config tags (Ok url) = found_page (shown config url tags)
shown_page config tags (Err fault) = refused_page fault

-- the URL for which a text stands as it is; where it stands for none so, the one for which it stands once its escapes are read
abbrev pub or_decoded : List ℕ → Result Url UrlFault → Result Url UrlFault
or_decoded text (Ok url) = Ok url
or_decoded text (Err fault) = url_of (percent_decode text)

abbrev pub url_asked : List ℕ → Result Url UrlFault
url_asked text = or_decoded text (url_of text)

-- what is shown of the URL for which a text stands
abbrev pub url_info_page : Config → List (List ℕ) → List ℕ → InsidePage
url_info_page config tags text = shown_page config tags (url_asked text)

-- which pages there are
abbrev pub index_text : List ℕ
index_text = codes "pages:\n/show-status\n/show-url-info?url=\n"

-- the page that is asked for, of the configuration of that number and for a client with these tags
abbrev pub page_for : Config → ℕ → List (List ℕ) → PageSeen → InsidePage
page_for config number tags index = found_page index_text
page_for config number tags status = found_page (status_lines config number)
page_for config number tags (url_info text) = url_info_page config tags text
page_for config number tags other = missing_page (codes "no such page\n")

-- ---- whose they are

-- one of the two names of the proxy itself
abbrev pub is_own_host : List ℕ → Bool
is_own_host host = str_eq_ignore_ascii_case host (codes "config.privoxy.org") || str_eq_ignore_ascii_case host (codes "p.p")

abbrev pub is_own : Url → Bool
is_own url = url.port == DEFAULT_PORT && is_own_host url.host

-- the page of a URL, if it is the proxy's own
unfoldable pub inside_page : Config → ℕ → Url → List (List ℕ) → Option InsidePage
inside_page config number url tags = if is_own url then Some (page_for config number tags (asked_at url.path)) else None

-- ---- takings

-- the page is the one of the taking's own tags, where a page is asked for
abbrev pub IsPaged : Law
IsPaged a t = t.page ≡ (if a.page_request then inside_page a.config a.number a.url t.tags else None)

-- a taking with these tags and their page
pub record FitsPages (given : List (List ℕ)) (a : Asked) (t : Taking) : Type 0 where
  pub page : IsPaged a t
  pub tags : t.tags ≡ given
  pub place : t.place ≡ 0

-- a taking without tags and its page
abbrev pub BareLaw : Law
BareLaw = FitsPages []

-- takings fit by that law and no other, whatever is taken, and none changes anything
abbrev pub pages_state : Law → InsideState
pages_state law = record { fits = law; steady = true; place = 0; changes = 0; log = None }
