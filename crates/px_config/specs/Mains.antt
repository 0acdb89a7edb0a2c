-- The directives of the main file, and what its lines set, one after another (Privoxy's manual, "The Main Configuration File").
use Rattle.std.specs.Prelude.{ℕ, ◌+◌, ◌*◌, ◌==◌, ◌||◌, Bool, true, false, nat_lt, List, [], ◌∷◌, ◌++◌, length, Option, Some, None, option_map, Result, Ok, Err, codes, if◌then◌else◌}
use Rattle.std.specs.List.{find, list_any}
use Rattle.std.specs.Str.{bytes_eq, is_utf8}
use Rattle.px_base.specs.Numbers.{decimal}
use Rattle.px_text.specs.declared.lines.Line.{Line}
use Rattle.px_action_files.specs.Faults.{Refused, and_then, refused}
use Rattle.px_decide.specs.Forwards.{Line as ForwardLine, forward_line, forward_fault_number, socks_line}
use Rattle.px_decide.specs.declared.faults.ForwardFault.{ForwardFault}
use Rattle.px_decide.specs.declared.faults.ForwardFault.TheVariants as forwarding
use Rattle.px_action_files.specs.declared.faults.FileFault.{FileFault}
use Rattle.px_action_files.specs.declared.faults.FileFault.TheVariants as at
use Rattle.px_config.specs.Addresses.{AddressSeen, address_of}
use Rattle.px_config.specs.Directives.{name_in, value_in}
use Rattle.px_config.specs.declared.directives.Directive.{Directive}
use Rattle.px_config.specs.declared.directives.Directive.TheVariants as directive
use Rattle.px_config.specs.declared.directives.TheConstants.{DIRECTIVES}
use Rattle.px_config.specs.declared.mains.Address.{Address}
use Rattle.px_config.specs.declared.mains.Main.{Main}
use Rattle.px_config.specs.declared.mains.TheConstants.{DEFAULT_PATTERNS, MOST_PATTERNS}
use Rattle.px_config.specs.declared.names.TheConstants.{FILES_OF_A_KIND}
use Rattle.px_config.specs.declared.settings.ListLine.{ListLine}
use Rattle.px_config.specs.declared.settings.MainParts.{MainParts}
use Rattle.px_config.specs.declared.settings.Note.{Note}
use Rattle.px_config.specs.declared.settings.Settings.{Settings}
use Rattle.px_action_files.specs.Files.{is_named}
use Rattle.px_base.specs.Results.{result_map}

-- ---- what a line does

-- by the file's name, the line's number, what is set so far, and the line's value: what is set then, or a refusal
abbrev pub Effect : Type 0
Effect = List ℕ → ℕ → Main → List ℕ → Result Main Refused

-- what is set then; a value of another form is refused
abbrev pub or_refused : ℕ → Option Main → Result Main Refused
or_refused line None = refused line 29
or_refused line (Some m) = Ok m

-- 0 or 1
abbrev pub switch : List ℕ → Option Bool
switch value = if bytes_eq value (codes "0") then Some false else if bytes_eq value (codes "1") then Some true else None

-- 0 or 1, and the last line counts
abbrev pub sets_switch : (Bool → Main → Main) → Effect
sets_switch put file line m value = or_refused line (option_map (λ on. put on m) (switch value))

-- a number up to a most, and the last line counts
abbrev pub sets_number : ℕ → (ℕ → Main → Main) → Effect
sets_number most put file line m value = or_refused line (option_map (λ number. put number m) (decimal most value))

-- one file more of a kind; the seventeenth is refused
abbrev pub one_more : ℕ → ℕ → Result ℕ Refused
one_more line count = if nat_lt count FILES_OF_A_KIND then Ok (count + 1) else refused line 31

-- a file's name, and each line adds one
abbrev pub adds_file : (Main → ℕ) → (ℕ → Main → Main) → Effect
adds_file count put file line m value = result_map (λ number. put number m) (one_more line (count m))

-- a folder's name, which sets nothing more; which folder counts, `confdir` and `templdir` say
abbrev pub names_folder : Effect
names_folder file line m value = Ok m

abbrev pub refuses : Effect
refuses file line m value = refused line 29

abbrev pub with_note : List ℕ → ℕ → List ℕ → Main → Main
with_note file line text m = record m { notes = m.notes ++ record { file = file; line = line; text = text } ∷ [] }

-- the first address counts, and later ones are noted
abbrev pub with_address : List ℕ → ℕ → Main → Option Address → Result AddressSeen ℕ → Result Main Refused
with_address file line m before (Err number) = refused line number
with_address file line m None (Ok address) = Ok (record m { listen = Some (record { host = address.host; port = address.port_number }) })
with_address file line m (Some first) (Ok address) = Ok (with_note file line (codes "listen-address ignored") m)

-- a host, and optionally a colon and a port
abbrev pub listens : Effect
listens file line m value = with_address file line m m.listen (address_of value)

-- a refused forward line as it is reported at a line
abbrev pub seen_fault : ℕ → ForwardFault → FileFault
seen_fault line forwarding.Bad = at.At line 29
seen_fault line (forwarding.Pattern number) = at.At line number
seen_fault line forwarding.Mem = at.Mem

-- each line of either kind adds a forward line
abbrev pub with_forward : ℕ → Main → Result ForwardLine ForwardFault → Result Main Refused
with_forward line m (Ok forward) = Ok (record m { forwards = m.forwards ++ forward ∷ [] })
with_forward line m (Err fault) = refused line (forward_fault_number fault)

-- a forward line of a kind
abbrev pub adds_forward : (List ℕ → Result ForwardLine ForwardFault) → ℕ → Main → List ℕ → Result Main Refused
adds_forward meaning line m value = if is_utf8 value then with_forward line m (meaning value) else refused line 29

-- a name, white space and a description; a name twice is refused
abbrev pub adds_tag : ℕ → Main → List ℕ → Result Main Refused
adds_tag line m value =
    if length (value_in value) == 0 || list_any (λ tag. bytes_eq tag (name_in value)) m.tags then refused line 29
    else Ok (record m { tags = m.tags ++ name_in value ∷ [] })

abbrev pub list_line : ℕ → List ℕ → ListLine
list_line line value = record { number = line; name = name_in value; reason = value_in value }

-- a file's name, white space and a reason, and each line adds a list; the seventeenth is refused
abbrev pub adds_list : ℕ → Main → List ℕ → Result Main Refused
adds_list line m value =
    if length (value_in value) == 0 then refused line 29
    else if nat_lt (length m.lists) FILES_OF_A_KIND then Ok (record m { lists = m.lists ++ list_line line value ∷ [] })
    else refused line 31

-- ---- the table of directives

pub record Row : Type 0 where
  pub name : List ℕ
  -- what a line with a value sets
  pub effect : Effect

abbrev pub row : List ℕ → Effect → Row
row name effect = record { name = name; effect = effect }

-- what is set where no line of a directive is
abbrev pub nothing_set : Main
nothing_set = record {
  listen = None;
  buffer_limit = 4194304;
  empty_returns_ok = false;
  toggle = true;
  sharing = false;
  access_log = false;
  pattern_limit = DEFAULT_PATTERNS;
  tags = [];
  forwards = [];
  action_files = 0;
  filter_files = 0;
  lists = [];
  notes = [];
}

-- a directive's name, and what its lines set
unfoldable pub row_of : Directive → Row
row_of directive.ActionsFile = row (codes "actionsfile") (adds_file (λ m. m.action_files) (λ n m. record m { action_files = n }))
row_of directive.FilterFile = row (codes "filterfile") (adds_file (λ m. m.filter_files) (λ n m. record m { filter_files = n }))
row_of directive.HostList = row (codes "host-list") (λ file. adds_list)
row_of directive.Confdir = row (codes "confdir") names_folder
row_of directive.Templdir = row (codes "templdir") names_folder
row_of directive.ListenAddress = row (codes "listen-address") listens
row_of directive.BufferLimit = row (codes "buffer-limit") (sets_number 16384 (λ kilobytes m. record m { buffer_limit = kilobytes * 1024 }))
row_of directive.Forward = row (codes "forward") (λ file. adds_forward forward_line)
row_of directive.ForwardSocks5 = row (codes "forward-socks5") (λ file. adds_forward socks_line)
row_of directive.ForwardSocks5t = row (codes "forward-socks5t") (λ file. adds_forward socks_line)
row_of directive.ForwardSocks4 = row (codes "forward-socks4") refuses
row_of directive.ForwardSocks4a = row (codes "forward-socks4a") refuses
row_of directive.EmptyReturnsOk = row (codes "handle-as-empty-doc-returns-ok") (sets_switch (λ on m. record m { empty_returns_ok = on }))
row_of directive.Toggle = row (codes "toggle") (sets_switch (λ on m. record m { toggle = on }))
row_of directive.LinkReuse = row (codes "link-reuse") (sets_switch (λ on m. record m { sharing = on }))
row_of directive.AccessLog = row (codes "access-log") (sets_switch (λ on m. record m { access_log = on }))
row_of directive.PatternLimit = row (codes "pattern-limit") (sets_number MOST_PATTERNS (λ patterns m. record m { pattern_limit = patterns }))
row_of directive.ClientTag = row (codes "client-specific-tag") (λ file. adds_tag)

-- the directive of a name, if it is one of these
unfoldable pub directive_of : List ℕ → Option Directive
directive_of name = find (λ d. is_named name (row_of d).name) DIRECTIVES

abbrev pub is_other : Option Directive → Bool
is_other None = true
is_other (Some d) = false

-- ---- the lines

-- what a line sets: any other directive is ignored with a note, and one of these without a value is refused
abbrev pub with_directive : List ℕ → ℕ → Main → List ℕ → List ℕ → Option Directive → Result Main Refused
with_directive file line m name value None = Ok (with_note file line (codes "directive ignored: " ++ name) m)
with_directive file line m name value (Some d) = if length value == 0 then refused line 29 else (row_of d).effect file line m value

unfoldable pub with_line : List ℕ → Main → Line → Result Main Refused
with_line file m line = with_directive file line.number m (name_in line.text) (value_in line.text) (directive_of (name_in line.text))

-- what lines set, or the first refusal
unfoldable pub with_lines : List ℕ → Main → List Line → Result Main Refused
with_lines file m [] = Ok m
with_lines file m (line ∷ lines) = and_then (with_line file m line) (λ after. with_lines file after lines)

-- what the lines of the main file set, or the first refusal
abbrev pub main_of : List ℕ → List Line → Result Main Refused
main_of file lines = with_lines file nothing_set lines

-- the address where a line gives none
abbrev pub address_or : Option Address → Address
address_or None = record { host = codes "127.0.0.1"; port = 8118 }
address_or (Some address) = address

abbrev pub settings_of : Main → Settings
settings_of m = record {
  listen_host = (address_or m.listen).host;
  listen_port = (address_or m.listen).port;
  buffer_limit = m.buffer_limit;
  empty_returns_ok = m.empty_returns_ok;
  toggle = m.toggle;
  sharing = m.sharing;
  access_log = m.access_log;
  pattern_limit = m.pattern_limit;
  tags = m.tags;
}

-- what the main file gives
abbrev pub main_parts : Main → MainParts
main_parts m = record { settings = settings_of m; forwards = m.forwards; lists = m.lists; notes = m.notes }
