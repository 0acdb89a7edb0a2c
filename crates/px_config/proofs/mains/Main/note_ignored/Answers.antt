use Rattle.px_config.proofs.mains.Main.note_ignored.Goals as goal

pub returns : goal.returns
returns c = rw c.in_ok-text.ensures at c.note.ensures
