use Rattle.std.proofs.Common.{refl, sym}
use Rattle.px_commands.proofs.OriginLemmas.{bytes_entry, no_entry}
use Rattle.px_commands.proofs.origins.read_entry.Goals as goal

pub returns-in_ok-answer-in-Some-read_bytes-clause-entry : goal.returns-in_ok-answer-in-Some-read_bytes-clause-entry
returns-in_ok-answer-in-Some-read_bytes-clause-entry c =
    rw c.in_ok-answer-in-Some-read_bytes.ensures (bytes_entry c.args.text.now c.in-Some-read_bytes.bytes.now c.in-Some-read_bytes.rest.now (sym c.in-Some-read_bytes.ensures.entry))

pub returns-in-None-clause-entry : goal.returns-in-None-clause-entry
returns-in-None-clause-entry c = no_entry c.args.text.now (c.in_default.ensures.none refl) (c.in_default-read_word.ensures.none refl) (sym c.in-None.ensures.entry)
