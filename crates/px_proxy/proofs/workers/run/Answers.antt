use Rattle.std.proofs.Common.{rules, ◌≡◌, ◌++◌, ◌∙◌, ap, sym, length, take, drop}
use Rattle.std.proofs.Math.Seq.{take-append_seam}
use Rattle.px_proxy.proofs.workers.run.Goals as goal

pub gather-requires-clause-told : goal.gather-requires-clause-told
gather-requires-clause-told g c κs within =
    let count : length c.work_all.new.workers ≡ c.args.workers.len = search rules in
    let same : take c.args.workers.len (c.work_all.new.workers ++ drop (length c.work_all.new.workers) c.args.workers.items) ≡ c.work_all.new.workers =
    ap (λ n. take n (c.work_all.new.workers ++ drop (length c.work_all.new.workers) c.args.workers.items)) (sym count) ∙ take-append_seam c.work_all.new.workers (drop (length c.work_all.new.workers) c.args.workers.items) in
    rw same c.work_all.ensures.told
