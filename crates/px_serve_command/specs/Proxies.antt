-- What `serve` does: with its words, the files, the doors and the error output.
use Rattle.std.specs.Prelude.{◌≡◌, ℕ, ◌⊎◌, List, [], Option, Some, IfNone, IsTrue, MatchBool}
use Rattle.px_base.specs.Causes.{Rose}
use Rattle.px_base.specs.Contents.{FilesState, FilesGoOn}
use Rattle.px_base.specs.Moments.{ClockState}
use Rattle.px_base.specs.Sinks.{SinkState, SinkGoesOn}
use Rattle.px_base.specs.Sources.{SourceState}
use Rattle.px_config.specs.Gathering.{OnlyReads}
use Rattle.px_config.specs.declared.configs.Config.{Config}
use Rattle.px_config.specs.declared.sets.FileSet.{FileSet}
use Rattle.px_publish.specs.Views.{Pair}
use Rattle.px_link_pool.specs.Histories.{Views}
use Rattle.px_shared.specs.SharedDoors.{IsBelow, with_pools}
use Rattle.px_doors.specs.Doors.{DoorsState, DoorsGoesOn, Stays}
use Rattle.px_doors.specs.declared.addresses.ListenAddress.{ListenAddress}
use Rattle.px_desk.specs.Desks.{StandsAfter}
use Rattle.px_desk.specs.Facts.{IsClosed, Made}
use Rattle.px_desk.specs.Sets.{Spells, set_of}
use Rattle.px_desk.specs.Turns.{none}
use Rattle.px_desk.specs.declared.desks.ServeEnd.{ServeEnd}
use Rattle.px_desk.specs.declared.reloads.ReloadCounts.{ReloadCounts}
use Rattle.px_commands.specs.declared.statuses.Status.{Status}
use Rattle.px_commands.specs.declared.statuses.Status.TheVariants as status
use Rattle.px_commands.specs.declared.statuses.TheConstants.{USAGE}
use Rattle.px_commands.specs.Loads.{FailsToLoad}
use Rattle.px_commands.specs.Passes.{GivesUp, Outside, Reports}
use Rattle.px_commands.specs.Statuses.{code_of}
use Rattle.px_serve_command.specs.Endings.{status_of_serving}
use Rattle.px_commands.specs.Words.{IsServe}

-- what a proxy is run with
pub record ProxyOutside : Type 0 where
  pub files : FilesState
  pub doors : DoorsState
  pub errors : SinkState

-- what lasts of it, whatever is done
pub record ProxyGoesOn (old new : ProxyOutside) : Type 0 where
  pub files : FilesGoOn old.files new.files
  pub doors : DoorsGoesOn old.doors new.doors
  pub errors : SinkGoesOn old.errors new.errors

-- the same as a command's objects, with others that it doesn't use
abbrev pub as_outside : ProxyOutside → SourceState → SinkState → ClockState → Outside
as_outside p input out clock = record { files = p.files; input = input; out = out; errors = p.errors; clock = clock }

-- something is said of the files and the error output, and the doors weren't used
abbrev pub Beside : (Outside → Outside → Type 0) → ProxyOutside → ProxyOutside → Type 0
Beside Says old new = (new.doors ≡ old.doors) × ((input : SourceState) (out : SinkState) (clock : ClockState) → Says (as_outside old input out clock) (as_outside new input out clock))

-- the host and port of a configuration
abbrev pub listen_address : Config → ListenAddress
listen_address config = record { host = config.settings.listen_host; port = config.settings.listen_port }

-- as many workers served as were asked for; or none, and no connection was accepted
abbrev pub ServedByAsMany : ℕ → DoorsState → DoorsState → ℕ → Type 0
ServedByAsMany asked old new workers = (workers ≡ asked) ⊎ ((workers ≡ 0) × (new.accepted ≡ old.accepted))

-- no connection was accepted, the files were only read, and nothing was printed
pub record Unserved (old new : ProxyOutside) (counts : ReloadCounts) : Type 0 where
  pub stays : Stays old.doors new.doors
  pub reads : OnlyReads old.files new.files
  pub errors : new.errors ≡ old.errors
  pub none_counted : counts ≡ none

-- the doors failed as they were to listen
pub record FailsToListen (old new : ProxyOutside) (counts : ReloadCounts) (s : Status) : Type 0 where
  pub failed : s ≡ status.DoorsFailed
  pub cause : Rose old.doors.faults new.doors.faults
  pub unserved : Unserved old new counts
  pub listens_same : new.doors.listens_at ≡ old.doors.listens_at

-- memory was wanting before a connection was accepted
pub record WantsServing (old new : ProxyOutside) (counts : ReloadCounts) (s : Status) : Type 0 where
  pub wanting : s ≡ status.NoMemory
  pub unserved : Unserved old new counts

-- the connections of a desk that was made so were served, until the desk said that no more come; or memory was wanting before the
-- first was accepted
pub record ServesDesk (made : Made) (new : ProxyOutside) (counts : ReloadCounts) (s : Status) : Type 0 where
  pub stands : StandsAfter made new.files new.doors new.errors counts
  pub ended : Option ServeEnd
  pub closes : IsClosed made.doors made.most new.doors ended
  pub unopened : IfNone ended (new.doors.accepted ≡ made.doors.accepted)
  pub status_is : s ≡ status_of_serving ended

-- memory was wanting for the desk, and all is as it was
pub record WantsDesk (made : Made) (new : ProxyOutside) (counts : ReloadCounts) (s : Status) : Type 0 where
  pub wanting : s ≡ status.NoMemory
  pub same : new ≡ record { files = made.files; doors = made.doors; errors = made.err }
  pub none_counted : counts ≡ none

abbrev pub ServesPublished : Made → ProxyOutside → ReloadCounts → Status → Type 0
ServesPublished made new counts s = ServesDesk made new counts s ⊎ WantsDesk made new counts s

-- the doors listened at the host and port of the configuration, and their connections were served. `reading` are the files behind
-- the loading, and `listening` the doors as they began to listen: the desk's facts speak of these, and of the error output as it was
pub record ServesProxy (config : List ℕ) (most : ℕ) (loaded : FileSet) (first : Config) (old new : ProxyOutside) (counts : ReloadCounts) (s : Status) : Type 0 where
  pub reading : FilesState
  pub reads : OnlyReads old.files reading
  pub unfailed : reading.read_faults ≡ old.files.read_faults
  pub listening : DoorsState
  pub listens_at : listening.listens_at ≡ Some (listen_address first)
  pub stays : Stays old.doors listening
  pub goes_on : DoorsGoesOn old.doors listening
  pub calm : listening.faults ≡ old.doors.faults
  pub pair : Pair
  pub desk : ServesDesk (record { files = reading; doors = listening; err = old.errors; main = config; loaded = loaded; pair = pair; most = most }) new counts s

-- with a configuration that was loaded
abbrev pub ServesLoaded : List ℕ → ℕ → FileSet → Config → ProxyOutside → ProxyOutside → ReloadCounts → Status → Type 0
ServesLoaded config most loaded first old new counts s =
    FailsToListen old new counts s ⊎ (ServesProxy config most loaded first old new counts s ⊎ WantsServing old new counts s)

-- the same objects with other doors
abbrev pub with_doors : DoorsState → ProxyOutside → ProxyOutside
with_doors doors p = record { files = p.files; doors = doors; errors = p.errors }

-- the connections shared links: they were those of doors that give each a pool, put over the doors before these listened and
-- taken off at the end
pub record ServesSharing {S T : Type 0} (v : Views S T) (config : List ℕ) (most : ℕ) (loaded : FileSet) (first : Config) (old new : ProxyOutside) (counts : ReloadCounts) (s : Status) : Type 0 where
  pub doors : DoorsState
  pub serves : ServesLoaded config most loaded first (with_doors (with_pools old.doors []) old) (with_doors doors new) counts s
  pub below : IsBelow v doors new.doors

-- with a configuration that was loaded: where it says so, the connections share links
abbrev pub ServesFirst : {S T : Type 0} → Views S T → List ℕ → ℕ → FileSet → Config → ProxyOutside → ProxyOutside → ReloadCounts → Status → Type 0
ServesFirst v config most loaded first old new counts s =
    MatchBool first.settings.sharing (ServesSharing v config most loaded first old new counts s) (ServesLoaded config most loaded first old new counts s)

-- the files of CONFIG spell a configuration, by which the doors are served
pub record ServesConfig {S T : Type 0} (v : Views S T) (config : List ℕ) (most : ℕ) (old new : ProxyOutside) (counts : ReloadCounts) (s : Status) : Type 0 where
  pub loaded : FileSet
  pub gathered : IsTrue old.files.tells → loaded ≡ set_of config old.files.contents
  pub first : Config
  pub spells : Spells loaded first
  pub serves : ServesFirst v config most loaded first old new counts s

-- the files of CONFIG spell no configuration, or couldn't be read; or memory was wanting before that was known
pub record Unloaded (config : List ℕ) (old new : ProxyOutside) (counts : ReloadCounts) (s : Status) : Type 0 where
  pub why : Beside (λ a b. FailsToLoad config a b s) old new ⊎ Beside (λ a b. GivesUp a b s) old new
  pub none_counted : counts ≡ none

-- with the words of `serve`
abbrev pub RunsServe : {S T : Type 0} → Views S T → List ℕ → ℕ → ProxyOutside → ProxyOutside → ReloadCounts → Status → Type 0
RunsServe v config most old new counts s = Unloaded config old new counts s ⊎ ServesConfig v config most old new counts s

-- the words aren't those of `serve`
pub record RefusesServe (words : List (List ℕ)) (old new : ProxyOutside) (counts : ReloadCounts) (s : Status) : Type 0 where
  pub not_serve : (config : List ℕ) (workers most : ℕ) → ¬ IsServe words config workers most
  pub reports : Beside (λ a b. Reports a b USAGE.now status.Usage s) old new
  pub none_counted : counts ≡ none

-- the words are those of `serve`, by which so many workers served
pub record RunsWords {S T : Type 0} (v : Views S T) (words : List (List ℕ)) (old new : ProxyOutside) (counts : ReloadCounts) (served_by : ℕ) (s : Status) : Type 0 where
  pub config : List ℕ
  pub workers : ℕ
  pub most : ℕ
  pub is_serve : IsServe words config workers most
  pub as_many : ServedByAsMany workers old.doors new.doors served_by
  pub runs : RunsServe v config most old new counts s

abbrev pub ServesBy : {S T : Type 0} → Views S T → List (List ℕ) → ProxyOutside → ProxyOutside → ReloadCounts → ℕ → Status → Type 0
ServesBy v words old new counts served_by s = RefusesServe words old new counts s ⊎ RunsWords v words old new counts served_by s

-- how a proxy ends: by one status, with what it did and why, where the ends of links are seen so
pub record RunsProxy {S T : Type 0} (v : Views S T) (words : List (List ℕ)) (old new : ProxyOutside) (counts : ReloadCounts) (served_by code : ℕ) : Type 0 where
  pub ended : Status
  pub code_is : code ≡ code_of ended
  pub serves : ServesBy v words old new counts served_by ended
  pub goes_on : ProxyGoesOn old new
