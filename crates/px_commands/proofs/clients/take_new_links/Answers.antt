use Rattle.std.proofs.Common.{refl}
use Rattle.px_serve.proofs.CallerLemmas.{serves_fitting}
use Rattle.px_commands.proofs.ClientLemmas.{takes_new_links}
use Rattle.px_commands.proofs.clients.take_new_links.Goals as goal

pub returns : goal.returns
returns g c = record { serves = takes_new_links (record { ins = g.A.Dial.In.Source.state; outs = g.A.Dial.Out.Sink.state }) c.args.pages.tags _ _ _ _ _ _ (serves_fitting refl c.serve_cold-session.ensures) }
