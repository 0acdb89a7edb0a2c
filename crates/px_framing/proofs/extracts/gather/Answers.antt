use Rattle.std.proofs.Common.{◌∙◌, ap, sym, arith, take, drop, ◌++◌}
use Rattle.std.proofs.lemmas.List.{take_rest, length-drop, drop-drop}
use Rattle.px_framing.proofs.ExtractLemmas.{behind-same, gather-on, gathered}
use Rattle.px_framing.proofs.extracts.gather.Goals as goal

pub runs-preserved : goal.runs-preserved
runs-preserved c =
    let at = c.runs.at in
    let run = c.in-Some.run' in
    let bytes = c.runs.bytes in
    let new = c.copy_within.new.self in
    let old = c.args.bytes.now in
    let len = rw take_rest at c.in-Some.ensures.len in
    let divides = rw take_rest at c.in-Some.ensures.divides in
    let room = length-drop at bytes in
    let same = c.copy_within.ensures.len in
    record {
      len = c.copy_within.ensures.len ∙ c.runs.invariant.len;
      within = omega (arith, len.1, c.runs.invariant.within);
      behind = omega (arith, len.2, c.runs.invariant.behind);
      rest = behind-same bytes new at c.runs.to run.len run.data_len c.copy_within.ensures.after c.runs.invariant.behind len.2 (omega (arith, len.1, c.runs.invariant.within))
          ∙ sym (drop-drop run.len at bytes) ∙ ap (drop run.len) c.runs.invariant.rest ∙ drop-drop run.len at old;
      data_bytes = λ data_bytes w.
          let before = c.runs.invariant.data_bytes data_bytes w in
          let d = divides before.0 before.1 in
          gather-on bytes new (take c.args.from old ++ data_bytes) before.0 d.0 at c.runs.to run.len run.data_len run.next c.copy_within.ensures.after c.runs.invariant.behind len.2 (omega (arith, len.1, c.runs.invariant.within)) before.2 d.1 d.2;
    }

pub returns-in-None-clause-data_bytes : goal.returns-in-None-clause-data_bytes
returns-in-None-clause-data_bytes c data_bytes w =
    let before = c.runs.invariant.data_bytes data_bytes w in
    let divides = rw take_rest at c.in-None.ensures.divides in
    absurd (divides before.0 before.1)

pub returns-clause-data_bytes : goal.returns-clause-data_bytes
returns-clause-data_bytes c data_bytes w =
    gathered c.runs.before c.runs.bytes (take c.args.from c.args.bytes.now ++ data_bytes) c.runs.at c.runs.to (omega arith) (c.runs.invariant.data_bytes data_bytes w)
