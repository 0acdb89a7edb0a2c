use Rattle.std.proofs.Common.{refl, inr}
use Rattle.px_commands.proofs.passes.put_served.Goals as goal

pub returns-in-Some-clause-puts : goal.returns-in-Some-clause-puts
returns-in-Some-clause-puts g c text is = rw (c.as_bytes.ensures, is c.in-Some.text c.in-Some.is) at c.put_sent.ensures.puts

pub returns-in-None-clause-puts : goal.returns-in-None-clause-puts
returns-in-None-clause-puts g c text is = inr (record { wanting = refl; unput = refl; unchanged = λ t name. refl })
