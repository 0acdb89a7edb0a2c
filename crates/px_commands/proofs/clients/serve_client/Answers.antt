use Rattle.px_commands.proofs.ClientLemmas.{client_served}
use Rattle.px_commands.proofs.clients.serve_client.Goals as goal

pub returns : goal.returns
returns g c = record {
  serves = client_served (record { ins = g.D.In.Source.state; outs = g.D.Out.Sink.state }) c.args.client.sharing c.args.client.tags _ _ _ _ _ _ _ _
      (rw c.new-pages.ensures at c.serve_ends-end.ensures.serves) (rw c.requires.peer at c.new-ends.ensures) c.opened-dialer.ensures.streams c.opened-dialer.ensures.dialer;
}
