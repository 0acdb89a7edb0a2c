-- What the commands do that load a configuration and print: `check` and `show`.
use Rattle.std.specs.Prelude.{◌≡◌, ℕ, ◌⊎◌, List, Ok, Err, IsTrue}
use Rattle.px_base.specs.Sinks.{SinkState}
use Rattle.px_base.specs.Contents.{Contents, FilesState, Unchanged}
use Rattle.px_patterns.specs.Urls.{url_of}
use Rattle.px_patterns.specs.declared.faults.UrlFault.{UrlFault}
use Rattle.px_patterns.specs.declared.urls.Url.{Url}
use Rattle.px_config.specs.FaultLines.{fault_text}
use Rattle.px_config.specs.Gathering.{ReadsOneOf, gathered, names_read}
use Rattle.px_config.specs.Loading.{IsLoadFault, LoadCause}
use Rattle.px_config.specs.Spelling.{spelled, seen_config}
use Rattle.px_config.specs.declared.configs.Config.{Config}
use Rattle.px_config.specs.declared.faults.LoadFault.{LoadFault}
use Rattle.px_config.specs.declared.faults.LoadFault.TheVariants as fault
use Rattle.px_pages.specs.Pages.{url_fault_line}
use Rattle.px_show.specs.Showing.{checked, shown}
use Rattle.px_commands.specs.declared.statuses.Status.{Status}
use Rattle.px_commands.specs.declared.statuses.Status.TheVariants as status
use Rattle.px_commands.specs.Passes.{Outside, ReportsOn, ReportCause, Reports, GivesUp}

-- a text was printed on a sink, or memory was wanting for it and nothing was
abbrev pub ReportsOrWants : SinkState → SinkState → List ℕ → Status → Status → Type 0
ReportsOrWants old new text whole s =
    ((IsTrue old.tells → ReportsOn old.taken new.taken text whole s) × ReportCause old new whole s)
    ⊎ ((s ≡ status.NoMemory) × (new ≡ old))

-- the status of a command whose configuration doesn't load
abbrev pub load_status : LoadFault → Status
load_status (fault.Spelled file line number) = status.NotLoaded
load_status (fault.Read file) = status.ReadFailed
load_status fault.Mem = status.NoMemory

-- why CONFIG doesn't load: the first fault of what its files spell, or one of the files that it is made of couldn't be read
abbrev pub IsFaultOf : Contents → List ℕ → LoadFault → Type 0
IsFaultOf contents config fault = IsLoadFault (spelled (gathered contents config)) fault × ReadsOneOf (names_read contents config) fault

-- the files of CONFIG spell no configuration, or couldn't be read
pub record FailsToLoad (config : List ℕ) (old new : Outside) (s : Status) : Type 0 where
  pub fault : LoadFault
  pub is_fault : IsTrue old.files.tells → IsFaultOf old.files.contents config fault
  pub load_cause : LoadCause old.files.read_faults new.files.read_faults fault
  pub reports : Reports old new (fault_text fault) (load_status fault) s

-- the files of CONFIG spell that configuration
abbrev pub Loads : List ℕ → FilesState → Config → Type 0
Loads config files loaded = IsTrue files.tells → spelled (gathered files.contents config) ≡ Ok (seen_config loaded)

-- a text was put out, or a front of it where the output failed or wanted memory; nothing else was used
pub record Prints (old new : Outside) (text : List ℕ) (s : Status) : Type 0 where
  pub files : IsTrue old.files.tells → Unchanged old.files.contents new.files.contents
  pub input : new.input ≡ old.input
  pub errors : new.errors ≡ old.errors
  pub clock : new.clock ≡ old.clock
  pub printed : IsTrue old.out.tells → ReportsOn old.out.taken new.out.taken text status.Done s
  pub cause : ReportCause old.out new.out status.Done s

-- the notes and counts of CONFIG were printed
pub record Checks (config : List ℕ) (old new : Outside) (s : Status) : Type 0 where
  pub loaded : Config
  pub loads : Loads config old.files loaded
  pub prints : Prints old new (checked loaded) s

-- with the words of `check`
abbrev pub RunsCheck : List ℕ → Outside → Outside → Status → Type 0
RunsCheck config old new s = FailsToLoad config old new s ⊎ (Checks config old new s ⊎ GivesUp old new s)

-- the URL isn't read
pub record RefusesUrl (url : List ℕ) (old new : Outside) (s : Status) : Type 0 where
  pub fault : UrlFault
  pub refused : url_of url ≡ Err fault
  pub reports : Reports old new (url_fault_line fault) status.NoUrl s

-- what the configuration does to the URL was printed
pub record ShowsUrl (loaded : Config) (url : List ℕ) (tags : List (List ℕ)) (old new : Outside) (s : Status) : Type 0 where
  pub seen : Url
  pub read : url_of url ≡ Ok seen
  pub prints : Prints old new (shown loaded seen tags) s

-- with a configuration
abbrev pub ShowsBy : Config → List ℕ → List (List ℕ) → Outside → Outside → Status → Type 0
ShowsBy loaded url tags old new s = RefusesUrl url old new s ⊎ (ShowsUrl loaded url tags old new s ⊎ GivesUp old new s)

-- CONFIG loads, and then the URL is read
pub record ShowsLoaded (config url : List ℕ) (tags : List (List ℕ)) (old new : Outside) (s : Status) : Type 0 where
  pub loaded : Config
  pub loads : Loads config old.files loaded
  pub shows : ShowsBy loaded url tags old new s

-- with the words of `show`
abbrev pub RunsShow : List ℕ → List ℕ → List (List ℕ) → Outside → Outside → Status → Type 0
RunsShow config url tags old new s = FailsToLoad config old new s ⊎ (ShowsLoaded config url tags old new s ⊎ GivesUp old new s)
