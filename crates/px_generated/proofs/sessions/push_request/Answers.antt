-- The three parts of a request are added one behind the other.
use Rattle.std.proofs.Common.{codes}
use Rattle.std.proofs.lemmas.Result.{on_ok_weaker}
use Rattle.px_generated.proofs.StepLemmas.{three_parts}
use Rattle.px_generated.specs.Files.{host_and_path}
use Rattle.px_generated.specs.Sessions.{generated_request}
use Rattle.px_generated.proofs.sessions.push_request.Goals as goal

pub returns : goal.returns
unfolding generated_request
returns c =
    on_ok_weaker c.push_all-2.result
    (three_parts c.args.out.now (codes "GET http://") (host_and_path c.args.host c.args.path) (codes " HTTP/1.1\r\n\r\n") c.push_all.new.self c.push_place.new.out c.push_all-2.new.self c.in_ok-push_all.ensures.ok c.in_ok-push_place.ensures)
    c.push_all-2.ensures.ok
