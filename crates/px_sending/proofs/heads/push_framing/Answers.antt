use Rattle.std.proofs.Common.{◌≡◌, codes, decimal}
use Rattle.px_head.specs.Prints.{field_lines}
use Rattle.px_sending.specs.Heads.{framing_fields, field_line_of}
use Rattle.px_sending.proofs.HeadLemmas.{line_alone}
use Rattle.px_sending.proofs.heads.push_framing.Goals as goal

pub returns-in-Length : goal.returns-in-Length
returns-in-Length c =
    let lines : field_lines (framing_fields c.args.rule) ≡ field_line_of (codes "Content-Length") (decimal c.in-Length.count) = rw c.in-Length.is (line_alone (codes "Content-Length") (decimal c.in-Length.count)) in
    rw lines (rw (c.as_bytes.ensures.value, c.format.ensures.text) at c.push_line.ensures)

pub returns-in-Chunked : goal.returns-in-Chunked
returns-in-Chunked c =
    let lines : field_lines (framing_fields c.args.rule) ≡ field_line_of (codes "Transfer-Encoding") (codes "chunked") = rw c.in-Chunked.is (line_alone (codes "Transfer-Encoding") (codes "chunked")) in
    rw lines c.push_line-in-Chunked.ensures
