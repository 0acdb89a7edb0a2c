use Rattle.std.proofs.Common.{[], arith, append-nil}
use Rattle.px_publish.specs.Published.{seen_by}
use Rattle.px_proxy.proofs.WorkLemmas.{serves_conn}
use Rattle.px_proxy.proofs.workers.served.Goals as goal

pub returns-clause-served : goal.returns-clause-served
returns-clause-served g c =
    let served = c.serve_connection-session in
    record {
      conn = c.args.task.ends;
      is_nth = c.requires.nth;
      served = serves_conn g.I.Inside.lawful _ _ _ _ _ c.requires.lawful served.ensures.serves.serves ([], append-nil (seen_by served.new.configs)) (omega (arith, c.requires.learnt));
    }
