use Rattle.std.proofs.Common.{◌≡◌, take, arith}
use Rattle.px_framing.proofs.HeldLemmas.{held-open, held-line-end, front-of}
use Rattle.px_framing.proofs.MoveLemmas.{move-open, move-line, move-wrong}
use Rattle.px_framing.proofs.passes.pass_byte.Goals as goal

pub returns-in-Open-clause-step : goal.returns-in-Open-clause-step
returns-in-Open-clause-step c =
    let front : take c.len-len.result c.deref.result.now ≡ c.args.kept.now.items = front-of _ _ _ c.args.byte _ (omega arith) c.append.ensures.items c.deref.ensures.value in
    record {
      used = (omega arith, omega arith);
      held = held-open c.args.place c.args.kept.now.items _ c.args.byte c.requires.line (rw front at c.in-Open.ensures) c.append.ensures.items;
      goes = move-open c.args.place c.args.kept.now.items _ c.args.byte c.requires.line (rw front at c.in-Open.ensures) c.append.ensures.items;
      fresh = λ e. absurd (cc);
      grows = λ e more. c.append.ensures.items;
    }

pub returns-in-Line-clause-step : goal.returns-in-Line-clause-step
returns-in-Line-clause-step c =
    let front : take c.len-len.result c.deref.result.now ≡ c.args.kept.now.items = front-of _ _ _ c.args.byte _ (omega arith) c.append.ensures.items c.deref.ensures.value in
    record {
      used = (omega arith, omega arith);
      held = held-line-end c.args.place c.in-Line.next c.args.kept.now.items _ c.args.byte (rw front at c.in-Line.ensures) c.clear.ensures.items;
      goes = move-line c.args.place c.in-Line.next c.args.kept.now.items _ c.args.byte c.requires.line (rw front at c.in-Line.ensures) c.clear.ensures.items;
      fresh = λ e. c.clear.ensures.items;
      grows = λ e more. absurd (cc);
    }

pub returns-in-Wrong-clause-step : goal.returns-in-Wrong-clause-step
returns-in-Wrong-clause-step c =
    let front : take c.len-len.result c.deref.result.now ≡ c.args.kept.now.items = front-of _ _ _ c.args.byte _ (omega arith) c.append.ensures.items c.deref.ensures.value in
    record {
      used = (omega arith, omega arith);
      held = c.clear-in-Wrong.ensures.items;
      goes = move-wrong c.args.place c.args.kept.now.items _ c.args.byte c.requires.line (rw front at c.in-Wrong.ensures) c.clear-in-Wrong.ensures.items;
      fresh = λ e. absurd (cc);
      grows = λ e more. absurd (cc);
    }
