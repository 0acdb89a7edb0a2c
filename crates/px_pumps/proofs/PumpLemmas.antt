-- What a stage of a pump says of the bytes that were fed and put out.
use Rattle.std.proofs.Common.{◌≡◌, ◌≢◌, ◌⊎◌, ℕ, ◌+◌, ◌<◌, ◌≤◌, Bool, false, not, is_some, List, [], ◌++◌, length, take, Option, Some, None, sym, ap, ◌∙◌, refl, subst, arith, append_assoc, inl, inr}
use Rattle.std.proofs.lemmas.Grind.{common_steps}
use Rattle.std.proofs.lemmas.List.{append-nil}
use Rattle.std.proofs.Math.Seq.{drop-append_seam, drop-length}
use Rattle.px_head.specs.declared.responses.ResponseHead.{ResponseHead}
use Rattle.px_framing.specs.declared.rules.BodyRule.{BodyRule}
use Rattle.px_framing.specs.declared.places.State.{State}
use Rattle.px_framing.specs.declared.places.State.TheVariants as state
use Rattle.px_templates.specs.declared.pages.Page.{Page}
use Rattle.px_templates.specs.declared.pages.Page.TheVariants as page
use Rattle.px_subst.specs.declared.words.Vars.{Vars}
use Rattle.px_filter_files.specs.FilterFiles.{FiltersOfFiles}
use Rattle.px_config.specs.declared.configs.Config.{Config}
use Rattle.px_notes.specs.declared.endings.Ending.{Ending}
use Rattle.px_notes.specs.declared.endings.Ending.TheVariants as ending
use Rattle.px_notes.specs.declared.asked.Asked.{Asked}
use Rattle.px_answers.specs.Finished.{Work, finished, returned_so_far}
use Rattle.px_answers.specs.Forms.{body_of, is_more}
use Rattle.px_answers.specs.Passages as passages
use Rattle.px_answers.specs.Passages.{Passaging}
use Rattle.px_answers.specs.declared.courses.Course.{Course}
use Rattle.px_answers.specs.declared.courses.Course.TheVariants as course
use Rattle.px_answers.specs.declared.forms.Framed.{Framed}
use Rattle.px_answers.specs.declared.forms.AnswerOutcome.{AnswerOutcome}
use Rattle.px_answers.specs.declared.forms.Returned.{Returned}
use Rattle.px_answers.specs.declared.forms.Returned.TheVariants as returned
use Rattle.px_pumps.specs.declared.dues.Due.{Due}
use Rattle.px_pumps.specs.declared.flows.Flow.{Flow}
use Rattle.px_pumps.specs.declared.flows.Flow.TheVariants as flow
use Rattle.px_pumps.specs.declared.pumps.UnfinishedHead.{UnfinishedHead}
use Rattle.px_pumps.specs.declared.pumps.PumpStage.{PumpStage}
use Rattle.px_pumps.specs.declared.pumps.PumpStage.TheVariants as stage
use Rattle.px_pumps.specs.Answering.{Ask, Seen, Waiting, Bad, Good, Answered, most_heads, returned_ending, due_of, due_by}
use Rattle.px_pumps.specs.Asking.{ask_of, framed_answer}
use Rattle.px_pumps.specs.Heads.{ShowsOnly, LeadsPastInterims, IsWaiting}
use Rattle.px_pumps.specs.Pumps.{AnswerShows, PassageAfter, CourseTells, WasFed, IsOfConfig, Behind, Heads, RefusesAnswer, StageAfter, IsStageSettled, flow_by, keeps_by, flow_at, keeps_at, flow_behind, finished_of, flow_of, passed_of, BeginsDue, EndsAnswer, IsOfAnswer, SoFar, Pumped, StaysAtEnd}
use Rattle.px_pumps.proofs.HeadLemmas.{shows_waiting, leads_only, leads_over, leads_more}
use Rattle.px_pumps.proofs.AskingLemmas.{framed_rule}
use Rattle.px_framing.specs.Reading.{added}

-- what is known of each machine behind a head
abbrev pub Known : Type 0
Known = (w : Work) (f : Framed) (rest put : List ℕ) (c : Course) → passages.CourseAfter w f rest put c → CourseTells w f rest put c

pub added-none : (a : List ℕ) → added a a ≡ []
added-none a = drop-length a

pub added-append : (a b : List ℕ) → added a (a ++ b) ≡ b
added-append a b = drop-append_seam a b

-- what was added in two steps
pub added_two : (old mid new : List ℕ) → mid ≡ old ++ added old mid → new ≡ mid ++ added mid new → added old new ≡ added old mid ++ added mid new
added_two old mid new e f = ap (added old) (f ∙ ap (λ (xs : List ℕ). xs ++ added mid new) e ∙ append_assoc old (added old mid) (added mid new)) ∙ drop-append_seam old (added old mid ++ added mid new)

-- what is shown whatever follows is shown as it is
pub shows_now : (ask : Ask) (fed : List ℕ) (seen : List ℕ → Seen) → ((more : List ℕ) → AnswerShows ask (fed ++ more) (seen more)) → AnswerShows ask fed (seen [])
shows_now ask fed seen h = subst (λ (xs : List ℕ). AnswerShows ask xs (seen [])) (append-nil fed) (h [])

behind_now : (ask : Ask) (fed put : List ℕ) (p : Passaging) (config : Config) (b : Behind ask fed put config p) → AnswerShows ask fed (Good b.head b.rule b.rest)
behind_now ask fed put p config b = subst (λ (xs : List ℕ). AnswerShows ask fed (Good b.head b.rule xs)) (append-nil b.rest) (shows_now ask fed (λ more. Good b.head b.rule (b.rest ++ more)) b.shows)

not_page : (r : Returned) (p : Page) → returned_ending r ≡ ending.Page p → ⊥
not_page returned.Passed p e = absurd (cc)
not_page returned.Filtered p e = absurd (cc)
not_page returned.Bodiless p e = absurd (cc)
not_page returned.CutFront p e = absurd (cc)

-- what a machine put out that is at its end is what is returned, whatever follows
ended_due : (w : Work) (f : Framed) (rest put : List ℕ) (c : Course) (o : AnswerOutcome) → passages.CourseAfter w f rest put c → passages.ended_of c ≡ Some o → (more : List ℕ) (failed : Bool)
    → finished w f (body_of f.rule (rest ++ more)) failed ≡ record { bytes = put; outcome = o }
ended_due w f rest put (course.Holding raw reader) o h e more failed = absurd (cc)
ended_due w f rest put (course.Passing reader) o h e more failed = absurd (cc)
ended_due w f rest put (course.Ended outcome) o h e more failed =
    let same : outcome ≡ o = cc in
    subst (λ (x : AnswerOutcome). finished w f (body_of f.rule (rest ++ more)) failed ≡ record { bytes = put; outcome = x }) same (h.settled more failed)
ended_due w f rest put course.Wanting o h e more failed = absurd h

-- the same, over the rule of the head
behind_due : (ask : Ask) (fed put : List ℕ) (p : Passaging) (config : Config) (b : Behind ask fed put config p) (o : AnswerOutcome) → passages.ended_of p.course ≡ Some o → (rest : List ℕ) (failed : Bool)
    → finished_of ask b.head b.rule (b.rest ++ rest) failed ≡ record { bytes = put; outcome = o }
behind_due ask fed put p config b o e rest failed =
    subst (λ (r : BodyRule). finished ask.work (ask.framed b.head b.rule) (body_of r (b.rest ++ rest)) failed ≡ record { bytes = put; outcome = o }) b.rule_is
    (ended_due ask.work (ask.framed b.head b.rule) b.rest put p.course o b.behind.after e rest failed)

behind_front : (k : Known) (ask : Ask) (fed put : List ℕ) (p : Passaging) (config : Config) (b : Behind ask fed put config p) (rest : List ℕ) (failed : Bool)
    → take (length put) (finished_of ask b.head b.rule (b.rest ++ rest) failed).bytes ≡ put
behind_front k ask fed put p config b rest failed =
    subst (λ (r : BodyRule). take (length put) (finished ask.work (ask.framed b.head b.rule) (body_of r (b.rest ++ rest)) failed).bytes ≡ put) b.rule_is
    ((k ask.work (ask.framed b.head b.rule) b.rest put p.course b.behind.after).begins.front rest failed)

behind_lag : (k : Known) (ask : Ask) (fed put : List ℕ) (p : Passaging) (config : Config) (b : Behind ask fed put config p) → length (passed_of ask (Good b.head b.rule b.rest)) ≤ length put + 16384
behind_lag k ask fed put p config b =
    let within = subst (λ (r : BodyRule). length (returned_so_far (ask.framed b.head b.rule) (body_of r b.rest)) ≤ length put) b.rule_is (k ask.work (ask.framed b.head b.rule) b.rest put p.course b.behind.after).lag in
    omega (arith, within)

flow_is_of : (c : Option AnswerOutcome) (s : State) (e : Ending) → is_some c ≡ not (is_more s) → ((o : AnswerOutcome) → c ≡ Some o → returned_ending o.returned ≡ e) → flow_by c ≡ flow_behind s e
flow_is_of None state.More e x h = refl
flow_is_of None state.Whole e x h = absurd (cc)
flow_is_of None state.Cut e x h = absurd (cc)
flow_is_of None state.Misframed e x h = absurd (cc)
flow_is_of (Some o) state.More e x h = absurd (cc)
flow_is_of (Some o) state.Whole e x h = ap flow.Done (h o refl)
flow_is_of (Some o) state.Cut e x h = ap flow.Done (h o refl)
flow_is_of (Some o) state.Misframed e x h = ap flow.Done (h o refl)

behind_flow : (k : Known) (ask : Ask) (fed put : List ℕ) (p : Passaging) (config : Config) (b : Behind ask fed put config p) → flow_by (passages.ended_of p.course) ≡ flow_of ask (Good b.head b.rule b.rest)
behind_flow k ask fed put p config b =
    let exact = subst (λ (r : BodyRule). is_some (passages.ended_of p.course) ≡ not (is_more (body_of r b.rest).state)) b.rule_is (k ask.work (ask.framed b.head b.rule) b.rest put p.course b.behind.after).exact in
    flow_is_of (passages.ended_of p.course) (body_of b.rule b.rest).state (returned_ending (finished_of ask b.head b.rule b.rest false).outcome.returned) exact
    (λ o e. sym (ap (λ d. returned_ending d.outcome.returned) (rw (append-nil b.rest) at (behind_due ask fed put p config b o e [] false))))

behind_answered : (ask : Ask) (fed put : List ℕ) (p : Passaging) (config : Config) (b : Behind ask fed put config p) (rest : List ℕ) (failed : Bool) → Answered ask (fed ++ rest) failed (due_of ask (Good b.head b.rule (b.rest ++ rest)) failed)
behind_answered ask fed put p config b rest failed = record { seen = Good b.head b.rule (b.rest ++ rest); shows = (b.shows rest).shows; due_is = refl }

behind_output : (k : Known) (ask : Ask) (fed put : List ℕ) (p : Passaging) (config : Config) → Behind ask fed put config p → (rest : List ℕ) (failed : Bool) (due : Due) → Answered ask (fed ++ rest) failed due → BeginsDue put due
behind_output k ask fed put p config b rest failed due a =
    let s : a.seen ≡ Good b.head b.rule (b.rest ++ rest) = (b.shows rest).only a.seen a.shows in
    let r : due ≡ due_of ask (Good b.head b.rule (b.rest ++ rest)) failed = a.due_is ∙ ap (λ (x : Seen). due_of ask x failed) s in
    rw r (record {
      front = behind_front k ask fed put p config b rest failed;
      no_page = λ q e. absurd (not_page (finished_of ask b.head b.rule (b.rest ++ rest) failed).outcome.returned q e);
    })

behind_so_far : (k : Known) (ask : Ask) (fed put : List ℕ) (p : Passaging) (config : Config) → Behind ask fed put config p → SoFar ask fed put
behind_so_far k ask fed put p config b = inr (λ rest failed. record {
  due = due_of ask (Good b.head b.rule (b.rest ++ rest)) failed;
  answered = behind_answered ask fed put p config b rest failed;
  front = behind_front k ask fed put p config b rest failed;
})

-- the end of the flow behind a head
done_ends : (ask : Ask) (fed put : List ℕ) (failed : Bool) (head : ResponseHead) (r : BodyRule) (rest : List ℕ) (o : AnswerOutcome) → AnswerShows ask fed (Good head r rest) → finished_of ask head r rest failed ≡ record { bytes = put; outcome = o }
    → EndsAnswer ask (flow.Done (returned_ending o.returned)) o.keep fed failed put
done_ends ask fed put failed head r rest o shows e = record {
  seen = Good head r rest;
  shows = shows;
  flow_is = ap (λ d. flow.Done (returned_ending d.outcome.returned)) (sym e);
  ends_as = ap due_by e;
}

behind_ends : (ask : Ask) (fed put : List ℕ) (p : Passaging) (config : Config) (b : Behind ask fed put config p) (c : Option AnswerOutcome) → passages.ended_of p.course ≡ c → flow_by c ≢ flow.More → (rest : List ℕ) (failed : Bool)
    → EndsAnswer ask (flow_by c) (keeps_by c) (fed ++ rest) failed put
behind_ends ask fed put p config b None e n rest failed = absurd (n refl)
behind_ends ask fed put p config b (Some o) e n rest failed = done_ends ask (fed ++ rest) put failed b.head b.rule (b.rest ++ rest) o (b.shows rest) (behind_due ask fed put p config b o e rest failed)

refuses_ends : (ask : Ask) (fed put : List ℕ) (p : Page) → RefusesAnswer ask fed put p → (rest : List ℕ) (failed : Bool) → EndsAnswer ask (flow.Refused p) false (fed ++ rest) failed put
refuses_ends ask fed put p r rest failed = record {
  seen = Bad;
  shows = r.shows rest;
  flow_is = ap flow.Refused r.page_is;
  ends_as = (r.quiet, ap ask.page_due (sym r.page_is));
}

quiet_output : (put : List ℕ) (due : Due) → put ≡ [] → BeginsDue put due
quiet_output put due e = rw e (record { front = grind (arith, common_steps); no_page = λ p h. refl })

-- a head isn't whole
heads_show : (ask : Ask) (fed put : List ℕ) (config : Config) (h : UnfinishedHead) → Heads ask fed put config h → 0 < h.left → IsWaiting h.held → AnswerShows ask fed Waiting
heads_show ask fed put config h a some w =
    let held = subst (λ (xs : List ℕ). ShowsOnly h.left ask.method xs Waiting) (sym (append-nil h.held)) (shows_waiting h.left ask.method h.held some w) in
    subst (λ (xs : List ℕ). AnswerShows ask xs Waiting) (append-nil fed) (leads_only most_heads h.left ask.method fed h.held [] Waiting a.leads held)

-- what a pump says at a stage
pub pumped : (k : Known) (f : Flow) (ask : Ask) (fed put : List ℕ) (config : Config) (s : PumpStage) → StageAfter ask fed put config s → IsStageSettled config s → f ≡ flow_at s → Pumped ask fed put f (keeps_at s)
pumped k f ask fed put config (stage.Heading h) a i e = rw e (record {
  output = λ rest failed due x. quiet_output put due a.quiet;
  so_far = inl a.quiet;
  seen = Waiting;
  shows = heads_show ask fed put config h a i.0 i.1;
  flow_is = refl;
  settles = λ n. absurd (n refl);
  lag = omega arith;
})
pumped k f ask fed put config (stage.Behind p) b i e = rw e (record {
  output = behind_output k ask fed put p config b;
  so_far = behind_so_far k ask fed put p config b;
  seen = Good b.head b.rule b.rest;
  shows = behind_now ask fed put p config b;
  flow_is = behind_flow k ask fed put p config b;
  settles = λ n. behind_ends ask fed put p config b (passages.ended_of p.course) refl n;
  lag = behind_lag k ask fed put p config b;
})
pumped k f ask fed put config (stage.Refused p) r i e = rw e (record {
  output = λ rest failed due x. quiet_output put due r.quiet;
  so_far = inl r.quiet;
  seen = Bad;
  shows = shows_now ask fed (λ more. Bad) r.shows;
  flow_is = ap flow.Refused r.page_is;
  settles = λ n. refuses_ends ask fed put p r;
  lag = omega arith;
})
pumped k f ask fed put config stage.Wanting a i e = absurd a

pub so_far_at : (k : Known) (ask : Ask) (fed put : List ℕ) (config : Config) (s : PumpStage) → StageAfter ask fed put config s → SoFar ask fed put
so_far_at k ask fed put config (stage.Heading h) a = inl a.quiet
so_far_at k ask fed put config (stage.Behind p) b = behind_so_far k ask fed put p config b
so_far_at k ask fed put config (stage.Refused p) r = inl r.quiet
so_far_at k ask fed put config stage.Wanting a = absurd a

-- what the machine runs with is what is asked
work_is : (ask : Ask) (fed put : List ℕ) (config : Config) (p : Passaging) (filters : FiltersOfFiles) → Behind ask fed put config p → filters ≡ config.filters → record { filters = filters; vars = p.vars } ≡ ask.work
work_is ask fed put config p filters b e = rw (e, ← b.filters_are, b.behind.vars_are) refl

-- a piece for the machine behind a head
pub behind_more : (ask : Ask) (fed put piece more : List ℕ) (config : Config) (p q : Passaging) (filters : FiltersOfFiles) → Behind ask fed put config p → filters ≡ config.filters → q.vars ≡ p.vars → q.framed ≡ p.framed
    → ((rest put : List ℕ) → passages.CourseAfter (record { filters = filters; vars = p.vars }) p.framed rest put p.course → passages.CourseAfter (record { filters = filters; vars = p.vars }) p.framed (rest ++ piece) (put ++ more) q.course)
    → Behind ask (fed ++ piece) (put ++ more) config q
behind_more ask fed put piece more config p q filters b e vars framed step =
    let w = work_is ask fed put config p filters b e in
    record {
      filters_are = b.filters_are;
      head = b.head;
      rule = b.rule;
      rest = b.rest ++ piece;
      shows = λ next. rw (append_assoc fed piece next, append_assoc b.rest piece next) (b.shows (piece ++ next));
      rule_is = b.rule_is;
      behind = record {
        vars_are = vars ∙ b.behind.vars_are;
        framed_is = framed ∙ b.behind.framed_is;
        after = after w b.behind.framed_is b.rest put (b.rest ++ piece) (put ++ more) p.course q.course (step b.rest put) b.behind.after;
      };
    }
  where
    after : {w : Work} {f : Framed} → record { filters = filters; vars = p.vars } ≡ w → p.framed ≡ f → (rest put rest' put' : List ℕ) (c c' : Course)
        → (passages.CourseAfter (record { filters = filters; vars = p.vars }) p.framed rest put c → passages.CourseAfter (record { filters = filters; vars = p.vars }) p.framed rest' put' c')
        → passages.CourseAfter w f rest put c → passages.CourseAfter w f rest' put' c'
    after e1 e2 rest put rest' put' c c' step h = rw (← e1, ← e2) (step (rw (e1, e2) h))

pub refuses_more : (ask : Ask) (fed put bytes out : List ℕ) (p : Page) → RefusesAnswer ask fed put p → RefusesAnswer ask (fed ++ bytes) (put ++ added out out) p
refuses_more ask fed put bytes out p r = record {
  shows = λ more. rw (append_assoc fed bytes more) (r.shows (bytes ++ more));
  page_is = r.page_is;
  quiet = ap (λ (xs : List ℕ). put ++ xs) (added-none out) ∙ append-nil put ∙ r.quiet;
}

-- the answer ended behind its head
pub ends_behind : (ask : Ask) (fed put more : List ℕ) (failed : Bool) (config : Config) (p : Passaging) (c : Course) (filters : FiltersOfFiles) → Behind ask fed put config p → filters ≡ config.filters
    → ((rest put : List ℕ) → passages.CourseAfter (record { filters = filters; vars = p.vars }) p.framed rest put p.course → passages.EndsCourse (record { filters = filters; vars = p.vars }) p.framed rest failed (put ++ more) c)
    → EndsAnswer ask (flow_by (passages.ended_of c)) (keeps_by (passages.ended_of c)) fed failed (put ++ more)
ends_behind ask fed put more failed config p c filters b e step = by c (ends (work_is ask fed put config p filters b e) b.behind.framed_is b.rest put (put ++ more) p.course c (step b.rest put) b.behind.after)
  where
    ends : {w : Work} {f : Framed} → record { filters = filters; vars = p.vars } ≡ w → p.framed ≡ f → (rest put put' : List ℕ) (c c' : Course)
        → (passages.CourseAfter (record { filters = filters; vars = p.vars }) p.framed rest put c → passages.EndsCourse (record { filters = filters; vars = p.vars }) p.framed rest failed put' c')
        → passages.CourseAfter w f rest put c → passages.EndsCourse w f rest failed put' c'
    ends e1 e2 rest put put' c c' step h = rw (← e1, ← e2) (step (rw (e1, e2) h))

    by : (c : Course) → passages.EndsCourse ask.work (ask.framed b.head b.rule) b.rest failed (put ++ more) c → EndsAnswer ask (flow_by (passages.ended_of c)) (keeps_by (passages.ended_of c)) fed failed (put ++ more)
    by (course.Holding raw reader) e = absurd e
    by (course.Passing reader) e = absurd e
    by (course.Ended o) e = done_ends ask fed (put ++ more) failed b.head b.rule b.rest o (behind_now ask fed put p config b)
        (subst (λ (r : BodyRule). finished ask.work (ask.framed b.head b.rule) (body_of r b.rest) failed ≡ record { bytes = put ++ more; outcome = o }) b.rule_is e)
    by course.Wanting e = absurd e

-- the answer ended where no head is whole
pub ends_waiting : (ask : Ask) (fed put out : List ℕ) (failed : Bool) (config : Config) (h : UnfinishedHead) → Heads ask fed put config h → 0 < h.left → IsWaiting h.held
    → EndsAnswer ask (flow.Refused page.NoServerData) false fed failed (put ++ added out out)
ends_waiting ask fed put out failed config h a some w = record {
  seen = Waiting;
  shows = heads_show ask fed put config h a some w;
  flow_is = refl;
  ends_as = (ap (λ (xs : List ℕ). put ++ xs) (added-none out) ∙ append-nil put ∙ a.quiet, refl);
}

-- the answer ended where none is returned that begins so
pub ends_refused : (ask : Ask) (fed put out : List ℕ) (failed : Bool) (p : Page) → RefusesAnswer ask fed put p → EndsAnswer ask (flow.Refused p) false fed failed (put ++ added out out)
ends_refused ask fed put out failed p r =
    let none : put ++ added out out ≡ put = ap (λ (xs : List ℕ). put ++ xs) (added-none out) ∙ append-nil put in
    rw none (subst (λ (xs : List ℕ). EndsAnswer ask (flow.Refused p) false xs failed put) (append-nil fed) (refuses_ends ask fed put p r [] failed))

-- a piece for a head that isn't whole
pub heads_more : (ask : Ask) (fed put piece more held : List ℕ) (config : Config) (h : UnfinishedHead) (next : PumpStage) → Heads ask fed put config h → held ≡ h.held ++ piece
    → ((ask : Ask) (fed : List ℕ) → ask ≡ ask_of config h.asked ask.page_due → LeadsPastInterims most_heads ask.method fed h.left held → StageAfter ask fed more config next)
    → StageAfter ask (fed ++ piece) (put ++ more) config next
heads_more ask fed put piece more held config h next a e step =
    rw a.quiet (step ask (fed ++ piece) a.asks (rw e (leads_more most_heads h.left ask.method fed h.held piece a.leads)))

-- a head isn't whole behind more bytes
pub heads_wait : (ask : Ask) (fed out held rest : List ℕ) (left : ℕ) (config : Config) (h : UnfinishedHead) → ask ≡ ask_of config h.asked ask.page_due → h.held ≡ rest
    → LeadsPastInterims most_heads ask.method fed left held → LeadsPastInterims left h.asked.method held h.left rest → Heads ask fed (added out out) config h
heads_wait ask fed out held rest left config h asks e l1 l2 =
    let m : h.asked.method ≡ ask.method = sym (ap (λ (a : Ask). a.method) asks) in
    let l3 : LeadsPastInterims left ask.method held h.left rest = subst (λ (x : List ℕ). LeadsPastInterims left x held h.left rest) m l2 in
    record { asks = asks; leads = subst (λ (xs : List ℕ). LeadsPastInterims most_heads ask.method fed h.left xs) (sym e) (leads_over most_heads left h.left ask.method fed held rest l1 l3); quiet = added-none out }

-- no answer is returned that begins so
pub heads_refuse : (ask : Ask) (fed out held : List ℕ) (left : ℕ) (config : Config) (asked : Asked) → ask ≡ ask_of config asked ask.page_due → LeadsPastInterims most_heads ask.method fed left held
    → ((more : List ℕ) → ShowsOnly left asked.method (held ++ more) Bad) → RefusesAnswer ask fed (added out out) page.BadReply
heads_refuse ask fed out held left config asked asks l s =
    let m : asked.method ≡ ask.method = sym (ap (λ (a : Ask). a.method) asks) in
    record { shows = λ more. leads_only most_heads left ask.method fed held more Bad l (subst (λ (x : List ℕ). ShowsOnly left x (held ++ more) Bad) m (s more)); page_is = refl; quiet = added-none out }

-- the answer's own head is whole
pub heads_end : (ask : Ask) (fed put held rest : List ℕ) (left : ℕ) (config : Config) (asked : Asked) (head : ResponseHead) (r : BodyRule) (filters : FiltersOfFiles) (vars : Vars) (f : Framed) (p : Passaging)
    → ask ≡ ask_of config asked ask.page_due → filters ≡ config.filters → vars ≡ asked.vars → f ≡ framed_answer config asked head r → LeadsPastInterims most_heads ask.method fed left held
    → ((more : List ℕ) → ShowsOnly left asked.method (held ++ more) (Good head r (rest ++ more))) → PassageAfter (record { filters = filters; vars = vars }) f rest put p → Behind ask fed put config p
heads_end ask fed put held rest left config asked head r filters vars f p asks lent words framed l s after =
    let m : asked.method ≡ ask.method = sym (ap (λ (a : Ask). a.method) asks) in
    let settled : ask.framed head r ≡ framed_answer config asked head r = ap (λ (a : Ask). a.framed head r) asks in
    let w : record { filters = filters; vars = vars } ≡ ask.work = rw (lent, words) (sym (ap (λ (a : Ask). a.work) asks)) in
    record {
      filters_are = ap (λ (a : Ask). a.work.filters) asks;
      head = head;
      rule = r;
      rest = rest;
      shows = λ more. leads_only most_heads left ask.method fed held more (Good head r (rest ++ more)) l (subst (λ (x : List ℕ). ShowsOnly left x (held ++ more) (Good head r (rest ++ more))) m (s more));
      rule_is = ap (λ (g : Framed). g.rule) settled ∙ framed_rule config asked head r;
      behind = subst (λ (g : Framed). PassageAfter ask.work g rest put p) (framed ∙ sym settled) (subst (λ (v : Work). PassageAfter v f rest put p) w after);
    }

-- the machine behind a head, fed with what follows it so far
pub begun : (filters filters' : FiltersOfFiles) (vars : Vars) (f : Framed) (rest old mid new : List ℕ) (p q : Passaging) → filters' ≡ filters → p.vars ≡ vars → p.framed ≡ f → q.vars ≡ p.vars → q.framed ≡ p.framed
    → mid ≡ old ++ added old mid → new ≡ mid ++ added mid new → passages.CourseAfter (record { filters = filters; vars = vars }) f [] (added old mid) p.course
    → ((rest' put : List ℕ) → passages.CourseAfter (record { filters = filters'; vars = p.vars }) p.framed rest' put p.course → passages.CourseAfter (record { filters = filters'; vars = p.vars }) p.framed (rest' ++ rest) (put ++ added mid new) q.course)
    → PassageAfter (record { filters = filters; vars = vars }) f rest (added old new) q
begun filters filters' vars f rest old mid new p q lent pv pf qv qf e1 e2 start step = record {
  vars_are = qv ∙ pv;
  framed_is = qf ∙ pf;
  after = rw (added_two old mid new e1 e2) (rw (lent, pv, pf) at (step [] (added old mid) (rw (lent, pv, pf) start)));
}

-- a flow that may go on has no ending
pub more_open : (c : Option AnswerOutcome) → flow_by c ≡ flow.More → c ≡ None
more_open None e = refl
more_open (Some o) e = absurd (cc)

pub over_ended : (c : Option AnswerOutcome) → flow_by c ≢ flow.More → c ≢ None
over_ended None n e = n refl
over_ended (Some o) n e = absurd (cc)

pub ended_over : (c : Option AnswerOutcome) → c ≢ None → flow_by c ≢ flow.More
ended_over None n e = n refl
ended_over (Some o) n e = absurd (cc)

-- an answer that is done has an ending of its own
pub of_answer : (c : Option AnswerOutcome) → IsOfAnswer (flow_by c)
of_answer None = tt
of_answer (Some o) = (o.returned, refl)

-- a call behind the end changes nothing
pub stays_behind : (p q : Passaging) (out out' : List ℕ) → (passages.ended_of p.course ≢ None → (q ≡ p) × (out' ≡ out)) → StaysAtEnd (stage.Behind p) (stage.Behind q) out out'
stays_behind p q out out' h n = let s = h (over_ended (passages.ended_of p.course) n) in (ap stage.Behind s.0, s.1)

-- a machine behind a head was fed bytes
pub was_fed : (config : Config) (filters : FiltersOfFiles) (vars : Vars) (f : Framed) (rest put : List ℕ) (p : Passaging) → filters ≡ config.filters → PassageAfter (record { filters = filters; vars = vars }) f rest put p → WasFed config p
was_fed config filters vars f rest put p e a = record { rest = rest; put = put; after = rw (← e, a.vars_are, a.framed_is) a.after }

-- and was fed more, or was at its end
pub fed_more : (config : Config) (filters : FiltersOfFiles) (piece old new : List ℕ) (p q : Passaging) → filters ≡ config.filters → IsOfConfig config p → q.vars ≡ p.vars → q.framed ≡ p.framed
    → ((rest put : List ℕ) → passages.CourseAfter (record { filters = filters; vars = p.vars }) p.framed rest put p.course → passages.CourseAfter (record { filters = filters; vars = p.vars }) p.framed (rest ++ piece) (put ++ added old new) q.course)
    → (passages.ended_of p.course ≢ None → (q ≡ p) × (new ≡ old)) → IsOfConfig config q
fed_more config filters piece old new p q e i vars framed step repeats = record { limit_is = ap (λ (f : Framed). f.limit) framed ∙ i.limit_is; fed = by i.fed }
  where
    by : WasFed config p ⊎ (passages.ended_of p.course ≢ None) → WasFed config q ⊎ (passages.ended_of q.course ≢ None)
    by (inl h) = inl (record { rest = h.rest ++ piece; put = h.put ++ added old new; after = rw (vars, framed, ← e) (step h.rest h.put (rw e h.after)) })
    by (inr n) = inr (subst (λ (x : Passaging). passages.ended_of x.course ≢ None) (sym (repeats n).0) n)

ends_over : (w : Work) (f : Framed) (rest put : List ℕ) (failed : Bool) (c : Course) → passages.EndsCourse w f rest failed put c → passages.ended_of c ≢ None
ends_over w f rest put failed (course.Holding raw reader) e = absurd e
ends_over w f rest put failed (course.Passing reader) e = absurd e
ends_over w f rest put failed (course.Ended o) e = λ x. absurd (cc)
ends_over w f rest put failed course.Wanting e = absurd e

-- a machine that was ended is at its end
pub ended_all : (config : Config) (filters : FiltersOfFiles) (failed : Bool) (old new : List ℕ) (p q : Passaging) → filters ≡ config.filters → IsOfConfig config p
    → ((rest put : List ℕ) → passages.CourseAfter (record { filters = filters; vars = p.vars }) p.framed rest put p.course → passages.EndsCourse (record { filters = filters; vars = p.vars }) p.framed rest failed (put ++ added old new) q.course)
    → (passages.ended_of p.course ≢ None → (q ≡ p) × (new ≡ old)) → passages.ended_of q.course ≢ None
ended_all config filters failed old new p q e i step repeats = by i.fed
  where
    by : WasFed config p ⊎ (passages.ended_of p.course ≢ None) → passages.ended_of q.course ≢ None
    by (inl h) = ends_over (record { filters = filters; vars = p.vars }) p.framed h.rest (h.put ++ added old new) failed q.course (step h.rest h.put (rw e h.after))
    by (inr n) = subst (λ (x : Passaging). passages.ended_of x.course ≢ None) (sym (repeats n).0) n
