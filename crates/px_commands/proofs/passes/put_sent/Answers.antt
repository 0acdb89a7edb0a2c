use Rattle.std.proofs.Common.{refl, sym, ◌∙◌, inl, inr}
use Rattle.px_commands.proofs.passes.put_sent.Goals as goal

pub returns-then-is_wanting-clause-puts : goal.returns-then-is_wanting-clause-puts
returns-then-is_wanting-clause-puts g c = inr (record { wanting = refl; unput = refl; unchanged = λ t name. refl })

pub returns-clause-puts : goal.returns-clause-puts
returns-clause-puts g c =
    let puts = c.put-put.ensures.puts in
    inl (record {
      memory = sym c.is_wanting.ensures ∙ c.if-is_wanting.false;
      result = c.put-put.result;
      put = puts.put;
      others = puts.others;
      cause = puts.cause;
      counted = puts.counted;
      status_is = c.status_after.ensures;
    })
