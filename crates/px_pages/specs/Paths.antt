-- What the paths of the proxy's own pages ask for.
use Rattle.std.specs.Prelude.{ℕ, if◌then◌else◌, List, length, take, drop, codes}
use Rattle.std.specs.Str.{bytes_eq}
use Rattle.px_pages.specs.declared.paths.AskedPage.{AskedPage}
use Rattle.px_pages.specs.declared.paths.AskedPage.TheVariants as asked

-- which pages there are, what the configuration holds, what it does to the URL of a text, or no page
pub data PageSeen : Type 0 where
  index : PageSeen
  status : PageSeen
  url_info : List ℕ → PageSeen
  other : PageSeen

-- what stands before the text of a URL
abbrev pub url_info_front : List ℕ
url_info_front = codes "/show-url-info?url="

abbrev pub asked_at : List ℕ → PageSeen
asked_at path =
    if bytes_eq path (codes "/") then index
    else if bytes_eq path (codes "/show-status") then status
    else if bytes_eq (take (length url_info_front) path) url_info_front then url_info (drop (length url_info_front) path)
    else other

abbrev pub seen_page : AskedPage → PageSeen
seen_page asked.Index = index
seen_page asked.Status = status
seen_page (asked.UrlInfo text) = url_info text.now
seen_page asked.Other = other
