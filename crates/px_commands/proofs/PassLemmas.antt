-- What a command did, step by step.
use Rattle.std.proofs.Common.{rules, ◌≡◌, ℕ, Bool, true, false, List, [], ◌∷◌, ap, IsTrue, Option, Some, Result, Ok, Err, refl, sym, ◌∙◌, inl, inr, subst}
use Rattle.px_base.specs.Contents.{Contents, FilesState, FilesGoOn, Unchanged, Puts}
use Rattle.px_base.specs.Sources.{SourceState, SourceGoesOn}
use Rattle.px_base.specs.Sinks.{SinkState, SinkGoesOn}
use Rattle.px_base.specs.Moments.{ClockState, ClockGoesOn}
use Rattle.px_base.specs.declared.dials.Answer.{Answer}
use Rattle.px_base.specs.declared.faults.FilesFault.{FilesFault}
use Rattle.px_base.specs.Dials.{DialerState, fresh_dialer, finished_links}
use Rattle.px_decide.specs.Forwards.{has_socks}
use Rattle.px_config.specs.declared.configs.Config.{Config}
use Rattle.px_notes.specs.declared.sessions.SessionEnd.{SessionEnd}
use Rattle.px_serve.specs.Histories.{IsFixed, Looks}
use Rattle.px_socks.specs.Dialers.{KeptDialer, outer_state}
use Rattle.px_socks.specs.Handshakes.{Handshakes}
use Rattle.px_commands.specs.Loads.{Loads}
use Rattle.px_commands.specs.Passing.{RunsPass}
use Rattle.px_commands.specs.Clients.{ServesClient, StreamsState, in_memory, server_views}
use Rattle.px_commands.specs.Sents.{sent_text}
use Rattle.px_commands.specs.declared.statuses.Status.{Status}
use Rattle.px_commands.specs.Passes.{Outside, IsOutsideSame, HasAnswers, PutsAfter, HasServed, PassesSession, RunsLoaded, ServesOver, ServesThrough, begun_socks}
use Rattle.px_commands.proofs.ClientLemmas.{tells_left}

-- files that were only read
pub record OnlyRead (old new : FilesState) : Type 0 where
  pub tells_same : new.tells ≡ old.tells
  pub unchanged : IsTrue old.tells → Unchanged old.contents new.contents
  pub reads_same : new.read_faults ≡ old.read_faults
  pub put_faults_same : new.put_faults ≡ old.put_faults
  pub unput : new.puts ≡ old.puts

-- a put behind files that were only read
put_moved : (a b c : Contents) (sent text : List ℕ) (r : Result (Unit {0}) FilesFault) → Unchanged a b → Puts b c sent text r → Puts a c sent text r
put_moved a b c sent text (Ok done) same k = k
put_moved a b c sent text (Err f) same k = elim k [ inl stays ↦ inl (stays ∙ same sent) | inr front ↦ inr front ]

put_behind : (a b c : FilesState) (sent text : List ℕ) (e : SessionEnd) (s : Status) → OnlyRead a b → PutsAfter b c sent text e s → PutsAfter a c sent text e s
put_behind a b c sent text e s h (inl p) = inl (record {
  memory = p.memory;
  result = p.result;
  put = λ t. put_moved a.contents b.contents c.contents sent text p.result (h.unchanged t) (p.put (h.tells_same ∙ t));
  others = λ t other apart. p.others (h.tells_same ∙ t) other apart ∙ h.unchanged t other;
  cause = rw h.put_faults_same at p.cause;
  counted = rw h.unput at p.counted;
  status_is = p.status_is;
})
put_behind a b c sent text e s h (inr w) = inr (record { wanting = w.wanting; unput = w.unput ∙ h.unput; unchanged = λ t name. w.unchanged (h.tells_same ∙ t) name ∙ h.unchanged t name })

-- the answers of a file that was only read
moved_answers : (a b : Contents) (name : List ℕ) (answers : List Answer) → Unchanged a b → HasAnswers (b name) answers → HasAnswers (a name) answers
moved_answers a b name answers same h = subst (λ (held : Option (List ℕ)). HasAnswers held answers) (same name) h

moved_back : (a b : Contents) (name : List ℕ) (answers : List Answer) → Unchanged a b → HasAnswers (a name) answers → HasAnswers (b name) answers
moved_back a b name answers same h = subst (λ (held : Option (List ℕ)). HasAnswers held answers) (sym (same name)) h

-- a session, and SENT put behind it
pub passes_by : (config : Config) (origin sent : List ℕ) (tags : List (List ℕ)) (f f1 f2 : FilesState) (old new : StreamsState) (errors : SinkState) (answers : List Answer) (e : SessionEnd) (made : Option (List ℕ)) (s : Status)
    → OnlyRead f f1 → (IsTrue f.tells → HasAnswers (f.contents origin) answers)
    → HasServed config tags answers old new e made
    → ((text : List ℕ) → ((x : List ℕ) → made ≡ Some x → x ≡ text) → PutsAfter f1 f2 sent text e s)
    → PassesSession config origin sent tags (record { files = f; input = old.input; out = old.out; errors = errors; clock = old.clock }) (record { files = f2; input = new.input; out = new.out; errors = errors; clock = new.clock }) s
passes_by config origin sent tags f f1 f2 old new errors answers e made s read has h puts = record {
  answers = answers;
  has_answers = has;
  session_end = e;
  text = h.text;
  served = h.served;
  put = put_behind f f1 f2 sent h.text e s read (puts h.text h.made_is);
  unprinted = refl;
}

-- nothing was changed behind files that were only read
same_behind : (f f1 : FilesState) (i : SourceState) (o errors : SinkState) (t : ClockState) (new : Outside) → OnlyRead f f1
    → IsOutsideSame (record { files = f1; input = i; out = o; errors = errors; clock = t }) new → IsOutsideSame (record { files = f; input = i; out = o; errors = errors; clock = t }) new
same_behind f f1 i o errors t new h same = record {
  untouched = record {
    files = λ u name. same.untouched.files (h.tells_same ∙ u) name ∙ h.unchanged u name;
    input = same.untouched.input;
    out = same.untouched.out;
    clock = same.untouched.clock;
  };
  errors = same.errors;
}

-- what is done with files that were only read is done with those before
pub loaded_behind : (config : Config) (origin sent : List ℕ) (tags : List (List ℕ)) (f f1 : FilesState) (i : SourceState) (o errors : SinkState) (t : ClockState) (new : Outside) (s : Status) → OnlyRead f f1
    → RunsLoaded config origin sent tags (record { files = f1; input = i; out = o; errors = errors; clock = t }) new s
    → RunsLoaded config origin sent tags (record { files = f; input = i; out = o; errors = errors; clock = t }) new s
loaded_behind config origin sent tags f f1 i o errors t new s h (inl fails) =
    inl (record { failed = fails.failed; cause = rw h.reads_same at fails.cause; same = same_behind f f1 i o errors t new h fails.same })
loaded_behind config origin sent tags f f1 i o errors t new s h (inr (inl r)) =
    inr (inl (record { refused = r.refused; none = λ u answers k. r.none (h.tells_same ∙ u) answers (moved_back f.contents f1.contents origin answers (h.unchanged u) k); same = same_behind f f1 i o errors t new h r.same }))
loaded_behind config origin sent tags f f1 i o errors t new s h (inr (inr (inl p))) =
    inr (inr (inl (record {
      answers = p.answers;
      has_answers = λ u. moved_answers f.contents f1.contents origin p.answers (h.unchanged u) (p.has_answers (h.tells_same ∙ u));
      session_end = p.session_end;
      text = p.text;
      served = p.served;
      put = put_behind f f1 new.files sent p.text p.session_end s h p.put;
      unprinted = p.unprinted;
    })))
loaded_behind config origin sent tags f f1 i o errors t new s h (inr (inr (inr w))) =
    inr (inr (inr (record { wanting = w.wanting; same = same_behind f f1 i o errors t new h w.same })))

pub files_go_on : {a b c : FilesState} → FilesGoOn a b → FilesGoOn b c → FilesGoOn a c
files_go_on h k = search rules

pub source_same : (i : SourceState) → SourceGoesOn i i
source_same i = search rules

pub sink_same : (o : SinkState) → SinkGoesOn o o
sink_same o = search rules

pub clock_same : (t : ClockState) → ClockGoesOn t t
clock_same t = search rules

pub is_fixed : {looks : Looks} {config : Config} → IsTrue looks.tells → looks.view ≡ config ∷ []
    → looks.coming ≡ record { number = 0; config = config } ∷ [] → IsFixed looks config
is_fixed t v k = record { tells = t; view = v; coming = k }

-- what a session gave, with the dialer that is just made and the one client
pub has_served : {tags tags' : List (List ℕ)} {answers : List Answer} {old new : StreamsState} {e : SessionEnd} {made : Option (List ℕ)} {looks : Looks} {config : Config} {sharing : Bool} {d : DialerState} (d' : DialerState)
    → ServesClient in_memory sharing tags' looks old new d d' e → tags' ≡ tags → d ≡ fresh_dialer answers → sharing ≡ config.settings.sharing → IsFixed looks config
    → ((x : List ℕ) → made ≡ Some x → x ≡ sent_text (finished_links d'.dials)) → has_socks config.forwards ≡ false
    → HasServed config tags answers old new e made
has_served {tags = tags} {answers = answers} {old = old} {new = new} {e = e} {looks = looks} {config = config} d' served same fresh by fixed made_is plain = record {
  text = sent_text (finished_links d'.dials);
  served = record {
    looks = looks;
    fixed = fixed;
    inner = d';
    serves = subst (λ b. ServesOver b config.settings.sharing tags looks old new answers d' e) (sym plain) over;
    text_is = refl;
  };
  made_is = made_is;
}
  where
    over : ServesClient in_memory config.settings.sharing tags looks old new (fresh_dialer answers) d' e
    over = rw (same, fresh, by) at served

-- the same through SOCKS servers
pub has_served_through : {tags tags' : List (List ℕ)} {answers : List Answer} {old new : StreamsState} {e : SessionEnd} {made : Option (List ℕ)} {looks : Looks} {config : Config} {sharing : Bool} {k : KeptDialer} (k' : KeptDialer)
    → ServesClient server_views sharing tags' looks old new (outer_state k) (outer_state k') e → tags' ≡ tags → k ≡ begun_socks answers → sharing ≡ config.settings.sharing → IsFixed looks config
    → ((x : List ℕ) → made ≡ Some x → x ≡ sent_text (finished_links k'.inner.dials)) → (IsTrue k'.inner.tells → Handshakes (outer_state k').dials k'.inner.dials) → has_socks config.forwards ≡ true
    → HasServed config tags answers old new e made
has_served_through {tags = tags} {answers = answers} {old = old} {new = new} {e = e} {looks = looks} {config = config} k' served same begun by fixed made_is handshakes socks = record {
  text = sent_text (finished_links k'.inner.dials);
  served = record {
    looks = looks;
    fixed = fixed;
    inner = k'.inner;
    serves = subst (λ b. ServesOver b config.settings.sharing tags looks old new answers k'.inner e) (sym socks) through;
    text_is = refl;
  };
  made_is = made_is;
}
  where
    over : ServesClient server_views config.settings.sharing tags looks old new (outer_state (begun_socks answers)) (outer_state k') e
    over = rw (same, begun, by) at served

    through : ServesThrough config.settings.sharing tags looks old new answers k'.inner e
    through = record {
      kept = k';
      serves = over;
      inner_is = refl;
      handshakes = handshakes (tells_left server_views config.settings.sharing (outer_state (begun_socks answers)) over.dialer (outer_state k') over.serves.goes_on.dialer.tells_same over.left);
    }

-- the configuration loads
pub pass_loaded : (config origin sent : List ℕ) (tags : List (List ℕ)) (old new : Outside) (loaded : Config) (s : Status)
    → Loads config old.files loaded → RunsLoaded loaded origin sent tags old new s → RunsPass config origin sent tags old new s
pass_loaded config origin sent tags old new loaded s loads runs = inr (inl (record { loaded = loaded; loads = loads; runs = runs }))
