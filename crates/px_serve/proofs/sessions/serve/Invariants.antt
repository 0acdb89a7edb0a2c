use Rattle.std.proofs.Common.{◌-◌, length}
use Rattle.px_serve.specs.declared.ends.TheConstants.{REQUEST_LIMIT}
use Rattle.px_serve.specs.Histories.{looks_of}
use Rattle.px_serve.specs.Keeping.{IsKept}
use Rattle.px_serve.proofs.SessionLemmas.{Serving}
use Rattle.px_serve.proofs.sessions.serve.Given as goal

abbrev pub invariant-requests : goal.invariant-requests
invariant-requests g l =
    let looks = looks_of g.K.Configs.tells g.K.Configs.view g.K.Configs.pair g.K.Configs.coming in
    record {
      serving : Serving g.I.Inside.lawful (g.I.Inside.state l.fn.inside) (g.I.Inside.state l.inside) (looks l.fn.configs) (looks l.configs) l.fn.ends l.ends l.notes;
      kept : IsKept (g.K.Configs.view l.configs) l.kept;
    }

abbrev pub decreases-requests : goal.decreases-requests
decreases-requests g l = REQUEST_LIMIT - length l.notes
