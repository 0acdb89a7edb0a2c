use Rattle.px_log_lines.proofs.LineLemmas.{keeps_all, keeps_room}
use Rattle.px_log_lines.proofs.texts.LineText.push.Goals as goal

pub returns-then-bytes-room : goal.returns-then-bytes-room
returns-then-bytes-room c = keeps_all _ _ _ c.add.ensures

pub returns-else-bytes-room : goal.returns-else-bytes-room
returns-else-bytes-room c = keeps_room _ _ _ (rw c.self.view_is at c.self.invariant) (rw (c.len-room.ensures.value, c.self.view_is) at c.add-else-bytes-room.ensures)
