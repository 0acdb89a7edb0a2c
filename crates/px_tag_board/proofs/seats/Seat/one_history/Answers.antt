use Rattle.px_tag_board.proofs.seats.Seat.one_history.Goals as goal

pub returns : goal.returns
returns g c = rw (← c.self.view_is, ← c.other.view_is) c.sees_one_list.ensures
