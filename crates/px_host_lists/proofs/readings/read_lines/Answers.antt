use Rattle.std.proofs.Common.{◌≡◌, ◌+◌, ◌∙◌, ◌∷◌, ◌++◌, [], ap, sym, subst, arith, length}
use Rattle.std.specs.Prelude.{IfOk, IfSome, None, option_copied, slice_get, ◌==◌, ◌<◌}
use Rattle.std.specs.List.{slice_split}
use Rattle.std.proofs.lemmas.Result.{IfOk-weaker, err_from_is_err_and}
use Rattle.px_base.specs.Cuts.{parts_of}
use Rattle.px_host_lists.specs.Hosts.{SameLines}
use Rattle.px_host_lists.specs.Readings.{entries_from, host_refusal, list_entries, passed_lines}
use Rattle.px_host_lists.specs.Slots.{gathered_entries}
use Rattle.px_host_lists.proofs.ReadingLemmas.{begin-entries, begin-passed, count-within, ended-count, ended-entries, ended-first, further-count, further-entries, further-first, none-gathered, refused-line, same-notes}
use Rattle.px_host_lists.proofs.readings.read_lines.Goals as goal

pub lines-init : goal.lines-init
lines-init c =
    record {
      gathered = c.new-hosts.ensures.gathered;
      entries = begin-entries c.args.text.now c.unmarked-rest.result.now c.unmarked-rest.ensures.value
          ∙ ap (λ held. held ++ entries_from 1 (slice_split (λ b. b == 10) c.unmarked-rest.result.now)) (sym c.new-hosts.ensures.none);
      count = omega (arith, ap length (begin-passed c.args.text.now c.unmarked-rest.result.now c.unmarked-rest.ensures.value));
      first = ap (λ lines. slice_get lines 0) (begin-passed c.args.text.now c.unmarked-rest.result.now c.unmarked-rest.ensures.value);
      place = omega (arith, c.unmarked-rest.ensures.within);
      passed = omega arith;
    }

pub returns-in_err-other-clause-refused : goal.returns-in_err-other-clause-refused
returns-in_err-other-clause-refused c =
    let p = err_from_is_err_and c.from_residual.result c.from_residual.ensures.1 in
    rw (p.1, p.2)
    (refused-line (list_entries c.args.text.now) (gathered_entries c.lines.hosts) (c.lines.number + 1) (slice_split (λ b. b == 10) c.lines.rest.now) c.cut.result.0.now
    (parts_of 10 (option_copied c.cut.result.1)) c.in_err-other.field-0.0 c.lines.invariant.entries c.cut.ensures.parts c.in_err-other.ensures.refused)

pub lines-preserved : goal.lines-preserved
lines-preserved c =
    let cut : slice_split (λ b. b == 10) c.lines.rest.now ≡ c.cut.result.0.now ∷ slice_split (λ b. b == 10) c.in-Some.more.now =
    c.cut.ensures.parts ∙ ap (λ o. c.cut.result.0.now ∷ parts_of 10 (option_copied o)) c.in-Some.is in
    record {
      gathered = c.in_ok-other.ensures.gathered;
      entries = further-entries (list_entries c.args.text.now) (gathered_entries c.lines.hosts) (c.lines.number + 1) (slice_split (λ b. b == 10) c.lines.rest.now) c.cut.result.0.now
          (slice_split (λ b. b == 10) c.in-Some.more.now) c.lines.invariant.entries cut
          ∙ ap (λ held. held ++ entries_from (c.lines.number + 1 + 1) (slice_split (λ b. b == 10) c.in-Some.more.now)) (sym c.in_ok-other.ensures.added);
      count = further-count (length (passed_lines c.args.text.now)) c.lines.passed.count (c.lines.number + 1) (slice_split (λ b. b == 10) c.lines.rest.now) c.cut.result.0.now
          (slice_split (λ b. b == 10) c.in-Some.more.now) c.in_ok-other.other c.with-passed.result.count c.lines.invariant.count cut c.in_ok-other.ensures.other c.with-passed.ensures.count;
      first = further-first (slice_get (passed_lines c.args.text.now) 0) c.lines.passed.first (c.lines.number + 1) (slice_split (λ b. b == 10) c.lines.rest.now) c.cut.result.0.now
          (slice_split (λ b. b == 10) c.in-Some.more.now) c.in_ok-other.other c.with-passed.result.first c.lines.invariant.first cut c.in_ok-other.ensures.other c.with-passed.ensures.first;
      place =
          let shorter : length c.in-Some.more.now < length c.lines.rest.now = subst (λ o. IfSome o (λ more. length more.now < length c.lines.rest.now)) c.in-Some.is c.cut.ensures.shorter in
          omega (arith, shorter, c.lines.invariant.place);
      passed = count-within c.lines.passed.count c.lines.number c.with-passed.result.count c.in_ok-other.other c.lines.invariant.passed c.with-passed.ensures.count;
    }

-- the file ends with this line
cut-last : (c : goal.After-noted) → slice_split (λ b. b == 10) c.lines.rest.now ≡ c.cut.result.0.now ∷ []
cut-last c = c.cut.ensures.parts ∙ ap (λ o. c.cut.result.0.now ∷ parts_of 10 (option_copied o)) c.in-None.is

-- so its hosts are gathered
gathered-all : (c : goal.After-noted) → list_entries c.args.text.now ≡ gathered_entries c.take_line.new.self
gathered-all c =
    ended-entries (list_entries c.args.text.now) (gathered_entries c.lines.hosts) (c.lines.number + 1) (slice_split (λ b. b == 10) c.lines.rest.now) c.cut.result.0.now
    (gathered_entries c.take_line.new.self) c.lines.invariant.entries (cut-last c) c.in_ok-other.ensures.added

pub returns-in-None-clause-list : goal.returns-in-None-clause-list
returns-in-None-clause-list c = subst (λ l. IfOk c.noted.result (λ read. SameLines read.list l)) (sym (gathered-all c)) c.noted.ensures.list

pub returns-in-None-clause-notes : goal.returns-in-None-clause-notes
returns-in-None-clause-notes c =
    let count : length (passed_lines c.args.text.now) ≡ c.with-passed.result.count =
    ended-count (length (passed_lines c.args.text.now)) c.with-passed.result.count (c.lines.number + 1 + 1)
    (further-count (length (passed_lines c.args.text.now)) c.lines.passed.count (c.lines.number + 1) (slice_split (λ b. b == 10) c.lines.rest.now) c.cut.result.0.now [] c.in_ok-other.other
    c.with-passed.result.count c.lines.invariant.count (cut-last c) c.in_ok-other.ensures.other c.with-passed.ensures.count) in
    let first : slice_get (passed_lines c.args.text.now) 0 ≡ c.with-passed.result.first =
    ended-first (slice_get (passed_lines c.args.text.now) 0) c.with-passed.result.first (c.lines.number + 1 + 1)
    (further-first (slice_get (passed_lines c.args.text.now) 0) c.lines.passed.first (c.lines.number + 1) (slice_split (λ b. b == 10) c.lines.rest.now) c.cut.result.0.now [] c.in_ok-other.other
    c.with-passed.result.first c.lines.invariant.first (cut-last c) c.in_ok-other.ensures.other c.with-passed.ensures.first) in
    subst (λ notes. IfOk c.noted.result (λ read. read.notes ≡ notes))
    (same-notes c.args.text.now (gathered_entries c.take_line.new.self) c.with-passed.result.count c.with-passed.result.first (gathered-all c) count first) c.noted.ensures.notes

pub returns-in-None-clause-read : goal.returns-in-None-clause-read
returns-in-None-clause-read c =
    IfOk-weaker c.noted.result (λ read. SameLines read.list (gathered_entries c.take_line.new.self)) (λ _. host_refusal (list_entries c.args.text.now) ≡ None)
    (λ _ _. ap host_refusal (gathered-all c) ∙ none-gathered c.take_line.new.self c.in_ok-other.ensures.gathered) c.noted.ensures.list
