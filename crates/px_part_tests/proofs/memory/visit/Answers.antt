use Rattle.std.proofs.Common.{◌≡◌, ℕ, true, ◌==◌, List, [], ◌∷◌, ◌++◌, refl, ◌∙◌}
use Rattle.std.proofs.lemmas.Bool.{or_left, or_right, eq-eqb}
use Rattle.px_base.specs.declared.dials.Dial.{Dial}
use Rattle.px_base.specs.declared.dials.DialOutcome.TheVariants as outcome
use Rattle.px_base.specs.Dials.{is_open, is_open_at}
use Rattle.px_base.specs.Entries.{merged}
use Rattle.px_part_tests.proofs.memory.visit.Goals as goal

-- a link that was just dialled is open
open_last : (host : List ℕ) (port mark : ℕ) (offered : List ℕ) (ds : List Dial) → is_open mark (ds ++ record { host = host; port = port; outcome = outcome.Open mark offered } ∷ []) ≡ true
open_last host port mark offered [] = or_left (mark == mark) _ (eq-eqb mark mark refl)
open_last host port mark offered (d ∷ ds) = or_right (is_open_at mark d.outcome) _ (open_last host port mark offered ds)

pub hang_up-requires : goal.hang_up-requires
hang_up-requires c =
    let opened = c.in-Ok.ensures.dials refl in
    record {
      «open» = λ t. rw opened (open_last c.as_bytes.result.now 80 c.in-Ok.link.0.mark c.in-Ok.link.0.bytes.items (merged 0 c.args.dialer.now.entries.items c.args.dialer.now.links.items));
      one_mark = λ t. c.write_all-sent.ensures.goes_on.mark_same ∙ (c.in-Ok.ensures.told refl).one_mark;
    }
