use Rattle.std.proofs.Common.{rules}
use Rattle.px_publish.specs.Published.{pair_of}
use Rattle.px_serve_command.proofs.ProxyLemmas.{serves_listening}
use Rattle.px_serve_command.proofs.proxies.serve_loaded.Goals as goal

pub serve_published-requires-clause-first : goal.serve_published-requires-clause-first
serve_published-requires-clause-first g c κs within = (c.args.first, search rules, c.requires.spells)

pub returns-in-Ok-listen-clause-serves : goal.returns-in-Ok-listen-clause-serves
returns-in-Ok-listen-clause-serves g c =
    serves_listening c.args.serve.config.now c.args.serve.most c.args.loaded c.args.first (g.F.Files.state c.args.parts.files) (g.A.Doors.state c.args.parts.doors)
    (g.A.Doors.state c.listen.new.self) (g.E.Sink.state c.args.parts.err) (pair_of c.in-Ok-publish_pair.publisher) _ _ _
    (search rules) (search rules) c.listen.ensures.goes_on (search rules) c.serve_published.ensures.serves
