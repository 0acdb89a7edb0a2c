-- What came of a command that loads a configuration and prints.
use Rattle.std.proofs.Common.{◌≡◌, ℕ, List, Ok, Err, IsTrue, refl, inl, inr}
use Rattle.px_base.specs.Contents.{FilesState, Unchanged}
use Rattle.px_base.specs.Sinks.{SinkState}
use Rattle.px_base.specs.Sources.{SourceState}
use Rattle.px_base.specs.Moments.{ClockState}
use Rattle.px_config.specs.declared.configs.Config.{Config}
use Rattle.px_config.specs.declared.faults.LoadFault.{LoadFault}
use Rattle.px_config.specs.FaultLines.{fault_text}
use Rattle.px_config.specs.Loading.{LoadCause}
use Rattle.px_patterns.specs.declared.faults.UrlFault.{UrlFault}
use Rattle.px_patterns.specs.declared.urls.Url.{Url}
use Rattle.px_patterns.specs.Urls.{url_of}
use Rattle.px_show.specs.Showing.{checked, shown}
use Rattle.px_commands.specs.declared.statuses.Status.{Status}
use Rattle.px_commands.specs.declared.statuses.Status.TheVariants as status
use Rattle.px_commands.specs.Loads.{FailsToLoad, IsFaultOf, Loads, Prints, ReportsOrWants, RunsCheck, RunsShow, ShowsBy, load_status}
use Rattle.px_pages.specs.Pages.{url_fault_line}
use Rattle.px_commands.specs.Passes.{GivesUp, Outside, ReportCause, Reports, ReportsOn}
use Rattle.px_commands.specs.Passing.{RunsPass}

-- nothing but a text was printed on the error output
pub reports_by : (f f' : FilesState) (i : SourceState) (o e e' : SinkState) (t : ClockState) (text : List ℕ) (whole s : Status)
    → (IsTrue f.tells → Unchanged f.contents f'.contents)
    → (IsTrue e.tells → ReportsOn e.taken e'.taken text whole s) → ReportCause e e' whole s
    → Reports (record { files = f; input = i; out = o; errors = e; clock = t }) (record { files = f'; input = i; out = o; errors = e'; clock = t }) text whole s
reports_by f f' i o e e' t text whole s same reported cause =
    record { untouched = record { files = same; input = refl; out = refl; clock = refl }; reported = reported; cause = cause }

-- nothing was printed, for want of memory
pub gives_up : (f f' : FilesState) (i : SourceState) (o e e' : SinkState) (t : ClockState) (s : Status)
    → (IsTrue f.tells → Unchanged f.contents f'.contents) → s ≡ status.NoMemory → e' ≡ e
    → GivesUp (record { files = f; input = i; out = o; errors = e; clock = t }) (record { files = f'; input = i; out = o; errors = e'; clock = t }) s
gives_up f f' i o e e' t s same wanting unprinted =
    record { wanting = wanting; same = record { untouched = record { files = same; input = refl; out = refl; clock = refl }; errors = unprinted } }

-- nothing was done, for want of memory
pub same_for_memory : (f : FilesState) (i : SourceState) (o e : SinkState) (t : ClockState)
    → GivesUp (record { files = f; input = i; out = o; errors = e; clock = t }) (record { files = f; input = i; out = o; errors = e; clock = t }) status.NoMemory
same_for_memory f i o e t = gives_up f f i o e e t status.NoMemory (λ told name. refl) refl refl

-- nothing but a text was put out
pub prints_by : (f f' : FilesState) (i : SourceState) (o o' e : SinkState) (t : ClockState) (text : List ℕ) (s : Status)
    → (IsTrue f.tells → Unchanged f.contents f'.contents)
    → (IsTrue o.tells → ReportsOn o.taken o'.taken text status.Done s) → ReportCause o o' status.Done s
    → Prints (record { files = f; input = i; out = o; errors = e; clock = t }) (record { files = f'; input = i; out = o'; errors = e; clock = t }) text s
prints_by f f' i o o' e t text s same printed cause =
    record { files = same; input = refl; errors = refl; clock = refl; printed = printed; cause = cause }

-- a configuration that doesn't load
pub fails_by : (config : List ℕ) (f f' : FilesState) (i : SourceState) (o e e' : SinkState) (t : ClockState) (fault : LoadFault) (s : Status)
    → (IsTrue f.tells → Unchanged f.contents f'.contents)
    → (IsTrue f.tells → IsFaultOf f.contents config fault) → LoadCause f.read_faults f'.read_faults fault
    → (IsTrue e.tells → ReportsOn e.taken e'.taken (fault_text fault) (load_status fault) s) → ReportCause e e' (load_status fault) s
    → FailsToLoad config (record { files = f; input = i; out = o; errors = e; clock = t }) (record { files = f'; input = i; out = o; errors = e'; clock = t }) s
fails_by config f f' i o e e' t fault s same is cause reported report_cause =
    record { fault = fault; is_fault = is; load_cause = cause; reports = reports_by f f' i o e e' t (fault_text fault) (load_status fault) s same reported report_cause }

-- `pass` of a configuration that doesn't load
pub pass_fails : (config origin sent : List ℕ) (tags : List (List ℕ)) (f f' : FilesState) (i : SourceState) (o e e' : SinkState) (t : ClockState) (fault : LoadFault) (s : Status)
    → (IsTrue f.tells → Unchanged f.contents f'.contents)
    → (IsTrue f.tells → IsFaultOf f.contents config fault) → LoadCause f.read_faults f'.read_faults fault
    → ReportsOrWants e e' (fault_text fault) (load_status fault) s
    → RunsPass config origin sent tags (record { files = f; input = i; out = o; errors = e; clock = t }) (record { files = f'; input = i; out = o; errors = e'; clock = t }) s
pass_fails config origin sent tags f f' i o e e' t fault s same is cause (inl reported) = inl (fails_by config f f' i o e e' t fault s same is cause reported.0 reported.1)
pass_fails config origin sent tags f f' i o e e' t fault s same is cause (inr wants) = inr (inr (gives_up f f' i o e e' t s same wants.0 wants.1))

-- `check` of a configuration that doesn't load
pub check_fails : (config : List ℕ) (f f' : FilesState) (i : SourceState) (o e e' : SinkState) (t : ClockState) (fault : LoadFault) (s : Status)
    → (IsTrue f.tells → Unchanged f.contents f'.contents)
    → (IsTrue f.tells → IsFaultOf f.contents config fault) → LoadCause f.read_faults f'.read_faults fault
    → ReportsOrWants e e' (fault_text fault) (load_status fault) s
    → RunsCheck config (record { files = f; input = i; out = o; errors = e; clock = t }) (record { files = f'; input = i; out = o; errors = e'; clock = t }) s
check_fails config f f' i o e e' t fault s same is cause (inl reported) = inl (fails_by config f f' i o e e' t fault s same is cause reported.0 reported.1)
check_fails config f f' i o e e' t fault s same is cause (inr wants) = inr (inr (gives_up f f' i o e e' t s same wants.0 wants.1))

-- `show` with a configuration that doesn't load
pub show_fails : (config url : List ℕ) (tags : List (List ℕ)) (f f' : FilesState) (i : SourceState) (o e e' : SinkState) (t : ClockState) (fault : LoadFault) (s : Status)
    → (IsTrue f.tells → Unchanged f.contents f'.contents)
    → (IsTrue f.tells → IsFaultOf f.contents config fault) → LoadCause f.read_faults f'.read_faults fault
    → ReportsOrWants e e' (fault_text fault) (load_status fault) s
    → RunsShow config url tags (record { files = f; input = i; out = o; errors = e; clock = t }) (record { files = f'; input = i; out = o; errors = e'; clock = t }) s
show_fails config url tags f f' i o e e' t fault s same is cause (inl reported) = inl (fails_by config f f' i o e e' t fault s same is cause reported.0 reported.1)
show_fails config url tags f f' i o e e' t fault s same is cause (inr wants) = inr (inr (gives_up f f' i o e e' t s same wants.0 wants.1))

-- `check` of a configuration that loads
pub check_prints : (config : List ℕ) (f f' : FilesState) (i : SourceState) (o o' e : SinkState) (t : ClockState) (loaded : Config) (s : Status)
    → (IsTrue f.tells → Unchanged f.contents f'.contents) → Loads config f loaded
    → (IsTrue o.tells → ReportsOn o.taken o'.taken (checked loaded) status.Done s) → ReportCause o o' status.Done s
    → RunsCheck config (record { files = f; input = i; out = o; errors = e; clock = t }) (record { files = f'; input = i; out = o'; errors = e; clock = t }) s
check_prints config f f' i o o' e t loaded s same loads printed cause =
    inr (inl (record { loaded = loaded; loads = loads; prints = prints_by f f' i o o' e t (checked loaded) s same printed cause }))

-- memory was wanting for what `check` prints
pub check_wants : (config : List ℕ) (f f' : FilesState) (i : SourceState) (o e : SinkState) (t : ClockState)
    → (IsTrue f.tells → Unchanged f.contents f'.contents)
    → RunsCheck config (record { files = f; input = i; out = o; errors = e; clock = t }) (record { files = f'; input = i; out = o; errors = e; clock = t }) status.NoMemory
check_wants config f f' i o e t same = inr (inr (gives_up f f' i o e e t status.NoMemory same refl refl))

-- `show` of a URL that isn't read
pub url_refused : (loaded : Config) (url : List ℕ) (tags : List (List ℕ)) (f f' : FilesState) (i : SourceState) (o e e' : SinkState) (t : ClockState) (fault : UrlFault) (s : Status)
    → (IsTrue f.tells → Unchanged f.contents f'.contents) → url_of url ≡ Err fault
    → ReportsOrWants e e' (url_fault_line fault) status.NoUrl s
    → ShowsBy loaded url tags (record { files = f; input = i; out = o; errors = e; clock = t }) (record { files = f'; input = i; out = o; errors = e'; clock = t }) s
url_refused loaded url tags f f' i o e e' t fault s same refused (inl reported) =
    inl (record { fault = fault; refused = refused; reports = reports_by f f' i o e e' t (url_fault_line fault) status.NoUrl s same reported.0 reported.1 })
url_refused loaded url tags f f' i o e e' t fault s same refused (inr wants) = inr (inr (gives_up f f' i o e e' t s same wants.0 wants.1))

-- `show` of a URL that is read
pub url_shown : (loaded : Config) (url : List ℕ) (tags : List (List ℕ)) (f f' : FilesState) (i : SourceState) (o o' e : SinkState) (t : ClockState) (seen : Url) (s : Status)
    → (IsTrue f.tells → Unchanged f.contents f'.contents) → url_of url ≡ Ok seen
    → (IsTrue o.tells → ReportsOn o.taken o'.taken (shown loaded seen tags) status.Done s) → ReportCause o o' status.Done s
    → ShowsBy loaded url tags (record { files = f; input = i; out = o; errors = e; clock = t }) (record { files = f'; input = i; out = o'; errors = e; clock = t }) s
url_shown loaded url tags f f' i o o' e t seen s same read printed cause =
    inr (inl (record { seen = seen; read = read; prints = prints_by f f' i o o' e t (shown loaded seen tags) s same printed cause }))

-- memory was wanting for what `show` prints
pub show_wants : (loaded : Config) (url : List ℕ) (tags : List (List ℕ)) (f f' : FilesState) (i : SourceState) (o e : SinkState) (t : ClockState)
    → (IsTrue f.tells → Unchanged f.contents f'.contents)
    → ShowsBy loaded url tags (record { files = f; input = i; out = o; errors = e; clock = t }) (record { files = f'; input = i; out = o; errors = e; clock = t }) status.NoMemory
show_wants loaded url tags f f' i o e t same = inr (inr (gives_up f f' i o e e t status.NoMemory same refl refl))

-- `show` behind a configuration that loads
pub show_loaded : (config url : List ℕ) (tags : List (List ℕ)) (old new : Outside) (loaded : Config) (s : Status)
    → Loads config old.files loaded → ShowsBy loaded url tags old new s → RunsShow config url tags old new s
show_loaded config url tags old new loaded s loads shows = inr (inl (record { loaded = loaded; loads = loads; shows = shows }))

pub ruleset check_rules = (check_fails, check_prints, check_wants)

pub ruleset show_rules = (show_fails, show_loaded)

pub ruleset url_rules = (url_refused, url_shown, show_wants)
