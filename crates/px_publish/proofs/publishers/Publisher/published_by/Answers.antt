use Rattle.std.proofs.Common.{ap}
use Rattle.px_publish.proofs.Keeps.{begins_added}
use Rattle.px_publish.proofs.publishers.Publisher.published_by.Goals as goal

pub show-writer-requires : goal.show-writer-requires
show-writer-requires g c =
    let me = c.args.self in
    begins_added me.writer.desk.shown.value.front.seen me.newest.front.seen c.again-front.result.seen c.add.new.self.seen c.of.result.front.seen _ me.shown_list me.shown_front
    (ap (λ f. f.seen) c.again-front.ensures) c.add.ensures.book (c.add.ensures.list c.if-not-add.false) (ap (λ f. f.seen) c.of.ensures)
