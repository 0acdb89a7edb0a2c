use Rattle.std.proofs.Common.{ap, drop}
use Rattle.px_publish.proofs.Keeps.{grows, step_grows, shown_begins, told_entry}
use Rattle.px_publish.proofs.writers.show.Goals as goal

pub publish_as-requires : goal.publish_as-requires
publish_as-requires g c next is =
    let old = c.args.writer in let w = c.append.new.self in
    grows _ _ w.desk.shown.value next
    (step_grows old.desk.shown.value w.desk.shown.value next c.args.entry (drop old.behind old.log.items) (drop w.behind w.log.items)
    (ap (λ d. d.shown.value) c.in-Ok.ensures.desk) c.in-Ok.ensures.pending is c.requires)

pub returns-in-Ok-clause-shown : goal.returns-in-Ok-clause-shown
returns-in-Ok-clause-shown g c =
    let old = c.args.writer in let w = c.append.new.self in
    shown_begins c.publish_as.result.1 _ _ old.desk.shown.value w.desk.shown.value c.publish_as.result.0.desk.shown.value c.args.entry (drop w.behind w.log.items) (drop old.behind old.log.items)
    c.publish_as.ensures.values (ap (λ d. d.shown.value) c.in-Ok.ensures.desk) c.in-Ok.ensures.pending c.requires

pub returns-in-Ok-clause-told : goal.returns-in-Ok-clause-told
returns-in-Ok-clause-told g c = λ _.
    let old = c.args.writer in let w = c.append.new.self in
    told_entry c.publish_as.result.1 _ _ _ _ _ w.desk.shown.value c.publish_as.result.0.desk.shown.value c.args.entry (drop w.behind w.log.items) (drop old.behind old.log.items)
    (c.publish_as.ensures.succeeds tt) c.publish_as.ensures.values c.publish_as.ensures.rule c.in-Ok.ensures.pending
