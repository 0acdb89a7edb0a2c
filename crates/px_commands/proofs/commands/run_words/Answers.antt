use Rattle.std.proofs.Common.{map, inl, inr, refl}
use Rattle.std.specs.Prelude.{string_bytes}
use Rattle.px_commands.proofs.LoadLemmas.{same_for_memory}
use Rattle.px_commands.proofs.commands.run_words.Goals as goal

pub returns-in-Err-clause-runs : goal.returns-in-Err-clause-runs
returns-in-Err-clause-runs g c =
    let parts = c.args.parts in
    inr (inl (record {
      config = c.in-Some.pass.config.now;
      origin = c.in-Some.pass.origin.now;
      sent = c.in-Some.pass.sent.now;
      tags = map string_bytes c.in-Some.pass.tags.now;
      is_pass = c.in-Some.ensures.pass;
      runs = inr (inr (same_for_memory (g.F.Files.state parts.files) (g.S.Source.state parts.input) (g.O.Sink.state parts.out) (g.E.Sink.state parts.err) (g.T.Clock.state parts.clock)));
    }))

pub returns-in-None-clause-runs : goal.returns-in-None-clause-runs
returns-in-None-clause-runs g c =
    c.run_other-status.ensures.runs (λ config origin sent tags. c.in-None.ensures.other refl config origin sent tags) (g.S.Source.state c.args.parts.input) (g.T.Clock.state c.args.parts.clock)
