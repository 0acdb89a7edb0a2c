-- What came of the command `serve`.
use Rattle.std.proofs.Common.{rules, ◌≡◌, ℕ, Bool, true, false, List, [], IsTrue, MatchBool, Some, refl, sym, subst, ◌∙◌, inl, inr}
use Rattle.px_base.specs.Contents.{FilesState, FilesGoOn, Unchanged}
use Rattle.px_base.specs.Sinks.{SinkState, SinkGoesOn}
use Rattle.px_config.specs.declared.configs.Config.{Config}
use Rattle.px_config.specs.declared.faults.LoadFault.{LoadFault}
use Rattle.px_config.specs.declared.sets.FileSet.{FileSet}
use Rattle.px_config.specs.FaultLines.{fault_text}
use Rattle.px_config.specs.Gathering.{OnlyReads, gathered}
use Rattle.px_config.specs.Loading.{LoadCause}
use Rattle.px_publish.specs.Views.{Pair}
use Rattle.px_link_pool.specs.Histories.{Views}
use Rattle.px_shared.specs.SharedDoors.{with_pools}
use Rattle.px_doors.specs.Doors.{DoorsState, DoorsGoesOn, Stays}
use Rattle.px_desk.specs.Facts.{Made}
use Rattle.px_desk.specs.Sets.{Spells, set_of}
use Rattle.px_desk.specs.Turns.{none}
use Rattle.px_desk.specs.declared.reloads.ReloadCounts.{ReloadCounts}
use Rattle.px_commands.specs.declared.statuses.Status.{Status}
use Rattle.px_commands.specs.declared.statuses.Status.TheVariants as status
use Rattle.px_commands.specs.declared.statuses.TheConstants.{USAGE}
use Rattle.px_commands.specs.Loads.{IsFaultOf, ReportsOrWants, load_status}
use Rattle.px_commands.specs.Passes.{ReportCause, ReportsOn}
use Rattle.px_serve_command.specs.Proxies.{ProxyGoesOn, ProxyOutside, RunsServe, ServesBy, ServesFirst, ServesLoaded, ServesPublished, ServesSharing, Unserved, listen_address, with_doors}
use Rattle.px_commands.specs.Words.{IsServe}
use Rattle.px_base.proofs.SinkLemmas.{sink_goes_on}
use Rattle.px_config.proofs.GatherLemmas.{reads_twice}
use Rattle.px_desk.proofs.ReloadLemmas.{files_trans}
use Rattle.px_desk.proofs.StandsLemmas.{doors_trans}
use Rattle.px_commands.proofs.LoadLemmas.{fails_by, gives_up, reports_by}

pub goes_on_on : {a b c : ProxyOutside} → ProxyGoesOn a b → ProxyGoesOn b c → ProxyGoesOn a c
goes_on_on h k = record { files = files_trans h.files k.files; doors = doors_trans h.doors k.doors; errors = sink_goes_on h.errors k.errors }

pub goes_on_same : (p : ProxyOutside) → ProxyGoesOn p p
goes_on_same p = record { files = search rules; doors = search rules; errors = search rules }

reads_none : (f : FilesState) → OnlyReads f f
reads_none f = record { tells_same = refl; tells_later_same = refl; unchanged = λ t name. refl; later_same = λ t. refl; put_faults_same = refl; puts_same = refl; turns_same = refl }

-- the words aren't those of `serve`
pub serve_refused : {S T : Type 0} (v : Views S T) (words : List (List ℕ)) (f : FilesState) (d : DoorsState) (e e' : SinkState) (s : Status)
    → ((config : List ℕ) (workers most : ℕ) → ¬ IsServe words config workers most)
    → (IsTrue e.tells → ReportsOn e.taken e'.taken USAGE.now status.Usage s) → ReportCause e e' status.Usage s
    → ServesBy v words (record { files = f; doors = d; errors = e }) (record { files = f; doors = d; errors = e' }) none 0 s
serve_refused v words f d e e' s refused reported cause =
    inl (record { not_serve = refused; reports = (refl, λ i o t. reports_by f f i o e e' t USAGE.now status.Usage s (λ told name. refl) reported cause); none_counted = refl })

-- a configuration that doesn't load
pub serve_fails : {S T : Type 0} (v : Views S T) (config : List ℕ) (most : ℕ) (f f' : FilesState) (d : DoorsState) (e e' : SinkState) (fault : LoadFault) (s : Status)
    → (IsTrue f.tells → Unchanged f.contents f'.contents)
    → (IsTrue f.tells → IsFaultOf f.contents config fault) → LoadCause f.read_faults f'.read_faults fault
    → ReportsOrWants e e' (fault_text fault) (load_status fault) s
    → RunsServe v config most (record { files = f; doors = d; errors = e }) (record { files = f'; doors = d; errors = e' }) none s
serve_fails v config most f f' d e e' fault s same is cause (inl reported) =
    inl (record { why = inl (refl, λ i o t. fails_by config f f' i o e e' t fault s same is cause reported.0 reported.1); none_counted = refl })
serve_fails v config most f f' d e e' fault s same is cause (inr wants) =
    inl (record { why = inr (refl, λ i o t. gives_up f f' i o e e' t s same wants.0 wants.1); none_counted = refl })

unserved_from : {f f' : FilesState} {d : DoorsState} {e : SinkState} {new : ProxyOutside} {counts : ReloadCounts} → OnlyReads f f'
    → Unserved (record { files = f'; doors = d; errors = e }) new counts → Unserved (record { files = f; doors = d; errors = e }) new counts
unserved_from reads u = record { stays = u.stays; reads = reads_twice reads u.reads; errors = u.errors; none_counted = u.none_counted }

-- behind the loading, which only read
served_from : (config : List ℕ) (most : ℕ) (loaded : FileSet) (first : Config) (f f' : FilesState) (d : DoorsState) (e : SinkState) (new : ProxyOutside) (counts : ReloadCounts) (s : Status)
    → OnlyReads f f' → f'.read_faults ≡ f.read_faults
    → ServesLoaded config most loaded first (record { files = f'; doors = d; errors = e }) new counts s
    → ServesLoaded config most loaded first (record { files = f; doors = d; errors = e }) new counts s
served_from config most loaded first f f' d e new counts s reads calm (inl l) =
    inl (record { failed = l.failed; cause = l.cause; unserved = unserved_from reads l.unserved; listens_same = l.listens_same })
served_from config most loaded first f f' d e new counts s reads calm (inr (inl v)) = inr (inl (record {
  reading = v.reading;
  reads = reads_twice reads v.reads;
  unfailed = v.unfailed ∙ calm;
  listening = v.listening;
  listens_at = v.listens_at;
  stays = v.stays;
  goes_on = v.goes_on;
  calm = v.calm;
  pair = v.pair;
  desk = v.desk;
}))
served_from config most loaded first f f' d e new counts s reads calm (inr (inr w)) = inr (inr (record { wanting = w.wanting; unserved = unserved_from reads w.unserved }))

-- the same, whether the connections share links or not
first_from : {S T : Type 0} (v : Views S T) (config : List ℕ) (most : ℕ) (loaded : FileSet) (first : Config) (f f' : FilesState) (d : DoorsState) (e : SinkState) (new : ProxyOutside) (counts : ReloadCounts) (s : Status)
    → OnlyReads f f' → f'.read_faults ≡ f.read_faults
    → ServesFirst v config most loaded first (record { files = f'; doors = d; errors = e }) new counts s
    → ServesFirst v config most loaded first (record { files = f; doors = d; errors = e }) new counts s
first_from v config most loaded first f f' d e new counts s reads calm serves = by first.settings.sharing serves
  where
    by : (b : Bool)
        → MatchBool b (ServesSharing v config most loaded first (record { files = f'; doors = d; errors = e }) new counts s) (ServesLoaded config most loaded first (record { files = f'; doors = d; errors = e }) new counts s)
        → MatchBool b (ServesSharing v config most loaded first (record { files = f; doors = d; errors = e }) new counts s) (ServesLoaded config most loaded first (record { files = f; doors = d; errors = e }) new counts s)
    by true h = record { doors = h.doors; serves = served_from config most loaded first f f' (with_pools d []) e (with_doors h.doors new) counts s reads calm h.serves; below = h.below }
    by false h = served_from config most loaded first f f' d e new counts s reads calm h

-- a configuration that loads
pub serve_loads : {S T : Type 0} (v : Views S T) (config : List ℕ) (most : ℕ) (f f' : FilesState) (d : DoorsState) (e : SinkState) (new : ProxyOutside) (loaded : FileSet) (first : Config) (counts : ReloadCounts) (s : Status)
    → OnlyReads f f' → f'.read_faults ≡ f.read_faults → (IsTrue f.tells → loaded ≡ gathered f.contents config) → Spells loaded first
    → ServesFirst v config most loaded first (record { files = f'; doors = d; errors = e }) new counts s
    → RunsServe v config most (record { files = f; doors = d; errors = e }) new counts s
serve_loads v config most f f' d e new loaded first counts s reads calm set spells serves = inr (record {
  loaded = loaded;
  gathered = set;
  first = first;
  spells = spells;
  serves = first_from v config most loaded first f f' d e new counts s reads calm serves;
})

-- memory was wanting before the doors were used
pub wants_before : (config : List ℕ) (most : ℕ) (loaded : FileSet) (first : Config) (old : ProxyOutside) → ServesLoaded config most loaded first old old none status.NoMemory
wants_before config most loaded first old = inr (inr (record {
  wanting = refl;
  unserved = record { stays = record { accepted_same = refl; parted_same = λ t. refl }; reads = reads_none old.files; errors = refl; none_counted = refl };
}))

-- doors that listen, with what came of their desk
pub serves_listening : (config : List ℕ) (most : ℕ) (loaded : FileSet) (first : Config) (f : FilesState) (d listening : DoorsState) (e : SinkState) (pair : Pair) (new : ProxyOutside) (counts : ReloadCounts) (s : Status)
    → listening.listens_at ≡ Some (listen_address first) → Stays d listening → DoorsGoesOn d listening → listening.faults ≡ d.faults
    → ServesPublished (record { files = f; doors = listening; err = e; main = config; loaded = loaded; pair = pair; most = most }) new counts s
    → ServesLoaded config most loaded first (record { files = f; doors = d; errors = e }) new counts s
serves_listening config most loaded first f d listening e pair new counts s at stays goes calm (inl desk) = inr (inl (record {
  reading = f;
  reads = reads_none f;
  unfailed = refl;
  listening = listening;
  listens_at = at;
  stays = stays;
  goes_on = goes;
  calm = calm;
  pair = pair;
  desk = desk;
}))
serves_listening config most loaded first f d listening e pair new counts s at stays goes calm (inr w) = inr (inr (record {
  wanting = w.wanting;
  unserved = record {
    stays = rw w.same stays;
    reads = rw w.same (reads_none f);
    errors = rw w.same refl;
    none_counted = w.none_counted;
  };
}))

pub published_goes_on : (made : Made) (new : ProxyOutside) (counts : ReloadCounts) (s : Status) → ServesPublished made new counts s
    → ProxyGoesOn (record { files = made.files; doors = made.doors; errors = made.err }) new
published_goes_on made new counts s (inl desk) =
    let stands = desk.stands.stands in
    record { files = stands.list.goes_on; doors = stands.conns.goes_on; errors = stands.list.err_goes_on }
published_goes_on made new counts s (inr w) = rw w.same (goes_on_same (record { files = made.files; doors = made.doors; errors = made.err }))
