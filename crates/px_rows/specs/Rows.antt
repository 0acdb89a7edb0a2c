-- Values that stand in rows: lines, fields, URLs, heads, symbols and configurations.
use Rattle.std.specs.Prelude.{◌≡◌, ℕ, true, List, [], ◌∷◌, codes, length, None}
use Rattle.px_config.specs.Insides.{Asked, asked}
use Rattle.px_config.specs.Mains.{nothing_set, settings_of}
use Rattle.px_config.specs.declared.configs.Config.{Config}
use Rattle.px_config.specs.declared.settings.Settings.{Settings}
use Rattle.px_text.specs.declared.lines.Line.{Line}
use Rattle.px_fields.specs.declared.fields.Field.{Field}
use Rattle.px_head.specs.declared.requests.RequestHead.{RequestHead}
use Rattle.px_head.specs.declared.responses.ResponseHead.{ResponseHead}
use Rattle.px_patterns.specs.declared.urls.Url.{Url}
use Rattle.px_templates.specs.Pieces.{Piece}
use Rattle.px_templates.specs.declared.symbols.Symbols.{Symbols}

-- a line of a file
abbrev pub file_line : ℕ → List ℕ → Line
file_line number text = record { number = number; text = text }

abbrev pub field : List ℕ → List ℕ → Field
field name value = record { name = name; value = value }

abbrev pub url_at : List ℕ → ℕ → List ℕ → Url
url_at host port path = record { host = host; port = port; path = path }

abbrev pub request_head : List ℕ → List ℕ → ℕ → List Field → RequestHead
request_head method target minor fields = record { method = method; target = target; minor = minor; fields = fields }

abbrev pub answer : ℕ → ℕ → List ℕ → List Field → ResponseHead
answer minor status reason fields = record { minor = minor; status = status; reason = reason; fields = fields }

-- the values of a page's symbols
abbrev pub symbols : List ℕ → List ℕ → List ℕ → List ℕ → List ℕ → List ℕ → List ℕ → Symbols
symbols hostname port path url block_reason error parent = record {
  hostname = hostname;
  port = port;
  path = path;
  url = url;
  block_reason = block_reason;
  error = error;
  parent = parent;
}

-- a configuration whose main file is empty, with these templates
abbrev pub empty_config : (pages : List (List Piece)) → length pages ≡ 11 → Config
empty_config pages all = record {
  settings = settings_of nothing_set;
  sections = record { lists = []; names = []; sections = [] };
  filters = record { files = 0; filters = [] };
  forwards = [];
  pages = pages;
  image_blank = None;
  image_pattern = None;
  notes = [];
  all_pages = all;
}

-- a configuration that lets clients have the one tag `ads`
abbrev pub with_ads : Config → Config
with_ads c = record c { settings = record c.settings { tags = codes "ads" ∷ [] } }

-- a request of a path of the proxy's own under such a configuration, by a client at 127.0.0.1
abbrev pub own_request : Config → List ℕ → Asked
own_request c path = asked (with_ads c) 0 (url_at (codes "p.p") 80 path) true (codes "127.0.0.1")

-- what an empty main file sets but for where connections are taken
abbrev pub settings_at : List ℕ → ℕ → Settings
settings_at host port = record (settings_of nothing_set) { listen_host = host; listen_port = port }
