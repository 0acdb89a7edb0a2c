use Rattle.std.proofs.Common.{arith}
use Rattle.px_base.specs.Dials.{Traffic}
use Rattle.px_base.proofs.EntryLemmas.{Ends, open_entry, ended_notes, ended_length, ended_dials}
use Rattle.px_base.proofs.entries.end_link.Goals as goal

pub note_end-requires : goal.note_end-requires
note_end-requires c = record {
  is_open = open_entry c.args.number c.args.entries.now.items c.args.links.now.items c.requires.is_open;
  notes = c.requires.notes;
  room = c.requires.room;
}

pub returns : goal.returns
returns c =
    let t : Traffic = record { heard = c.args.passage.heard; sent = c.args.passage.sent; read_failed = c.args.passage.end.read_failed; write_failed = c.args.passage.end.write_failed; finished = c.args.passage.end.finished } in
    let ends : Ends c.args.number t c.args.entries.now.items c.note_end.new.entries.items c.args.links.now.items c.note_end.new.links.items = record {
      entries = c.note_end.ensures.entries;
      links = c.note_end.ensures.links;
      was_open = open_entry c.args.number c.args.entries.now.items c.args.links.now.items c.requires.is_open;
      counted = c.requires.notes;
    } in
    record {
      dials = ended_dials ends;
      notes = ended_notes ends;
      room = omega (arith, ended_length ends);
    }
