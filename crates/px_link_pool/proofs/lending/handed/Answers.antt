use Rattle.px_link_pool.proofs.lending.handed.Goals as goal

pub returns-clause-judged : goal.returns-clause-judged
returns-clause-judged g c = λ t u. record { answered = c.is_read_out.ensures.answered t; later = c.into_parts-source.ensures.later t; sent = c.into_inner-sink.ensures.sent u }
