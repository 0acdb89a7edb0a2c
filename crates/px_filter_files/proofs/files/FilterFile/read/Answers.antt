use Rattle.std.proofs.Common.{◌≡◌, ◌+◌, ◌++◌, Bool, ◌||◌, Option, drop, cond, is_some, option_to_list, [], ap, ap₂, sym, ◌∙◌}
use mathlib.Core.Path.{fun_ext}
use Rattle.std.specs.Option.{option_and_then}
use Rattle.px_filter_files.specs.Headings.{HeadingParts, Key, heading_at, key_in}
use Rattle.px_filter_files.specs.Seen.{begins_filter}
use Rattle.px_filter_files.specs.FilterFiles.{all_skipped, filter_of, filters_in, own_lines, refusal_by, skipped_in}
use Rattle.px_filter_files.proofs.LineLemmas.{begun_later, fault_here, fault_later, file_is_read, file_is_refused, filters_later, seen_later, skipped_later, slice_to_end}
use Rattle.px_filter_files.proofs.files.FilterFile.read.Goals as goal

-- what is refused by the keys so far is what is refused by the lines so far
refused_so_far : {seen among : Key → Bool} {begun begins : Bool} {heading line_heading : Option HeadingParts} → ((key : Key) → seen key ≡ among key) →
    begun ≡ begins → heading ≡ line_heading → refusal_by seen begun heading ≡ refusal_by among begins line_heading
refused_so_far {among = among} {begun = begun} {begins = begins} {heading = heading} a b c =
    ap (λ k. refusal_by k begun heading) (fun_ext a) ∙ ap (λ x. refusal_by among x heading) b ∙ ap (refusal_by among begins) c

pub returns-in-Some-clause-value : goal.returns-in-Some-clause-value
returns-in-Some-clause-value c = λ _.
    let so_far = c.loop-at.invariant in
    let heading = c.at-heading.ensures ∙ ap heading_at c.as_bytes.ensures in
    let refused = sym (refused_so_far so_far.seen so_far.begun heading) ∙ sym c.in-Some.ensures.number in
    file_is_refused c.args.lines.now _
    (so_far.fault ∙ fault_here c.args.lines.now c.loop-at.at c.index-lines-at.result c.loop-at-test.true c.index-lines-at.is c.in-Some.number refused)

pub loop-at-preserved : goal.loop-at-preserved
loop-at-preserved c =
    let lines = c.args.lines.now in
    let at = c.loop-at.at in
    let line = c.index-lines-at.result in
    let inside = c.loop-at-test.true in
    let is = c.index-lines-at.is in
    let so_far = c.loop-at.invariant in
    let heading = c.at-heading.ensures ∙ ap heading_at c.as_bytes.ensures in
    let fine = sym (refused_so_far so_far.seen so_far.begun heading) ∙ sym c.in_default.ensures.number in
    let below = slice_to_end (at + 1) lines in
    let added = c.in_ok-add_filter.ensures.filters ∙ ap₂ (λ h b. c.loop-at.filters ++ option_to_list (filter_of h line.number b)) heading below in
    let skipped = c.in_ok-add_filter.ensures.skipped
    ∙ ap₂ (λ h b. c.loop-at.skipped ++ cond (is_some (option_and_then key_in h)) (skipped_in (own_lines b)) []) heading below in
    record {
      begun = begun_later lines at line inside is fine;
      seen = λ key. c.in_ok-add_key.ensures key ∙ ap₂ ◌||◌ (so_far.seen key) (ap (λ h. begins_filter h key) heading) ∙ sym (seen_later lines at line inside is key);
      fault = so_far.fault ∙ fault_later lines at line inside is fine;
      filters = ap (λ fs. fs ++ filters_in (drop (at + 1) lines)) added ∙ filters_later lines at line inside is c.loop-at.filters so_far.filters;
      skipped = ap (λ ns. ns ++ all_skipped (drop (at + 1) lines)) skipped ∙ skipped_later lines at line inside is c.loop-at.skipped so_far.skipped;
    }

pub returns-clause-value : goal.returns-clause-value
returns-clause-value c = λ _.
    let so_far = c.loop-at.invariant in
    file_is_read c.args.lines.now c.loop-at.at c.loop-at.filters c.loop-at.skipped c.loop-at-test.false so_far.fault so_far.filters so_far.skipped
