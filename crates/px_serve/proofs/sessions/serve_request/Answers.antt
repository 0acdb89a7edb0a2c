use Rattle.std.proofs.Common.{List, ℕ, ap, subst, ◌∙◌, refl}
use Rattle.px_ends.specs.Ends.{EndsState}
use Rattle.px_serve.specs.Histories.{Begun, looks_of}
use Rattle.px_serve.specs.Logging.{LogsLine}
use Rattle.px_serve.proofs.KeepingLemmas.{kept_is}
use Rattle.px_serve.proofs.SessionLemmas.{turned_none, turned_one}
use Rattle.px_serve.proofs.TakingLemmas.{fits_one, lawful_one, reads_received}
use Rattle.px_serve.proofs.sessions.serve_request.Goals as goal

pub returns-in-Ok-clause-turned : goal.returns-in-Ok-clause-turned
returns-in-Ok-clause-turned g c =
    let looks = looks_of g.K.Configs.tells g.K.Configs.view g.K.Configs.pair g.K.Configs.coming in
    let law = g.I.Inside.lawful in
    let ins = g.I.Inside.state c.args.inside.now in
    let mid = g.I.Inside.state c.receive.new.inside in
    let ins' = g.I.Inside.state c.log_exchange.new.inside in
    let now = c.now-moment.ensures in
    let peer_same = ap (λ (e : EndsState). e.peer) c.ends-in-Ok.view_is ∙ c.answer-answered.ensures.answers.goes_on.peer_same in
    let begun : Begun = record {
      number = c.current-snapshot.result.number;
      config = c.current-snapshot.result.config.now;
      moment = c.now-moment.result;
      seen = c.in-Ok.seen;
      received = c.ok-received.result;
      concluded = c.answer-answered.result.concluded;
      returned = c.answer-answered.result.returned;
    } in
    rw (c.end_after.ensures, c.count.ensures) (turned_one law ins ins' (looks c.args.configs.now) (looks c.look.new.self) c.args.ends.now _ c.answer-answered.new.ends _ c.logs-logs.result begun c.args.notes.now _
    c.requires.limit (rw (← c.ends.view_is) at c.in-Ok.ensures)
    (record {
      looks_tell = refl;
      pair = c.look.ensures.pair;
      clock_tells = now.goes_on.tells_same;
      goes_on = c.look.ensures.goes_on;
      used = record { number = c.current-snapshot.ensures.number; config = c.current-snapshot.ensures.config };
      look = c.look.ensures.given;
      looks_left = c.look.ensures.coming;
      moment = now.given;
      moments_left = now.coming;
    })
    now.goes_on
    (reads_received c.in-Ok.seen c.receive.result begun.received c.ok-received.ensures.value c.receive.ensures.reads)
    (lawful_one law ins mid _ begun c.receive.result c.ok-received.ensures.value c.receive.ensures.takes)
    (fits_one law ins mid ins' _ begun c.receive.result c.ok-received.ensures.value c.receive.ensures.takes c.receive.ensures.pages c.receive.ensures.changes c.receive.ensures.goes_on
    c.log_exchange.ensures.alone (ins'.log, subst (λ (p : List ℕ). LogsLine p begun.moment begun.seen begun.returned begun.concluded.ending ins.log ins'.log) peer_same (rw c.receive.ensures.unlogged at c.log_exchange.ensures.logs), refl))
    (rw (c.handed_of-handed.ensures, c.count.ensures) at c.answer-answered.ensures.answers) c.add.ensures)

pub answer-answered-requires-clause-of : goal.answer-answered-requires-clause-of
answer-answered-requires-clause-of g c lives outlives e =
    kept_is (g.K.Configs.view c.args.configs.now) (g.K.Configs.view c.look.new.self) c.args.kept.now c.current-snapshot.result.number c.current-snapshot.result.config.now
    c.look.ensures.goes_on c.requires.kept c.current-snapshot.ensures.config e

pub returns-in-Ok-clause-kept : goal.returns-in-Ok-clause-kept
returns-in-Ok-clause-kept g c =
    rw c.answer-answered.ensures.same (c.look.ensures.goes_on.stands c.args.kept.now.number c.args.kept.now.config c.requires.kept)

pub returns-in-Err-clause-turned : goal.returns-in-Err-clause-turned
returns-in-Err-clause-turned g c = turned_none _ _ _ _ _ _ _ c.in-Err.ensures
