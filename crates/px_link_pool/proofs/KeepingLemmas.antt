-- What was seen of a link says whether it may be kept.
use Rattle.std.proofs.Common.{◌≡◌, ℕ, Bool, true, false, not, IsTrue, ◌==◌, ◌&&◌, ◌||◌, List, [], ◌∷◌, ◌++◌, Option, Some, None, sym, ap, refl, ◌∙◌, arith}
use Rattle.std.specs.Prelude.{codes}
use Rattle.std.specs.Option.{is_none}
use Rattle.std.specs.Str.{bytes_eq}
use Rattle.std.proofs.lemmas.Bool.{eqb-true, eq-eqb}
use Rattle.httparse.proofs.GrammarLemmas.{request_unique, ReadsRequest-append}
use Rattle.px_base.specs.Causes.{Rose}
use Rattle.px_base.specs.Lists.{told}
use Rattle.px_base.specs.declared.faults.SinkFault.{SinkFault}
use Rattle.px_base.specs.declared.faults.SinkFault.TheVariants as fault
use Rattle.px_pool_ends.specs.declared.followers.Following.{Following}
use Rattle.px_pool_ends.specs.declared.followers.Following.TheVariants as following
use Rattle.px_pool_ends.specs.Answers.{is_answered, is_lost}
use Rattle.px_pool_ends.specs.Closings.{closing, IsMethodOf, IsImage, replaced, as_it_is}
use Rattle.px_pool_ends.specs.Incomings.{Hearing}
use Rattle.px_pool_ends.specs.Outgoings.{Sending, outer_sink, image, behind_head}
use Rattle.px_link_pool.specs.Histories.{is_read_out, is_left_open, may_keep, is_sending_wanting, is_link_wanting, IsJudged}
use Rattle.px_link_pool.specs.Keeping.{AsksToClose, IsSeenOpen}

both_of : (a b : Bool) → (a && b) ≡ true → (a ≡ true) × (b ≡ true)
both_of true b h = (refl, h)
both_of false b h = (cc)

none_of : (a b : Bool) → (a || b) ≡ false → (a ≡ false) × (b ≡ false)
none_of true b h = (cc)
none_of false b h = (refl, h)

not_true : (b : Bool) → not b ≡ true → b ≡ false
not_true true h = (cc)
not_true false h = refl

not_false : (b : Bool) → b ≡ false → not b ≡ true
not_false true h = (cc)
not_false false h = refl

answered_known : (f : Following) → is_answered f ≡ true → is_lost f ≡ false
answered_known (following.Heads count bytes search) h = refl
answered_known (following.Body reader) h = refl
answered_known following.Answered h = refl
answered_known following.Never h = refl
answered_known following.Lost h = (cc)

-- bytes that begin so are told
told_front : (t : Bool) (bytes front rest : List ℕ) → told t bytes ≡ (front ++ closing) ++ rest → bytes ≡ (front ++ closing) ++ rest
told_front true bytes front rest h = h
told_front false bytes [] rest h = (cc)
told_front false bytes (x ∷ front) rest h = (cc)

-- two heads at the front of the same bytes have one method
one_method : (block other behind rest method name : List ℕ) → IsMethodOf block method → IsMethodOf other name → block ++ behind ≡ other ++ rest → method ≡ name
one_method block other behind rest method name x y e =
    let same = request_unique (block ++ behind) x.tree y.tree behind rest (ReadsRequest-append block x.tree [] behind x.reads) (rw e (ReadsRequest-append other y.tree [] rest y.reads)) in
    x.is ∙ ap (λ t. t.method) same.0 ∙ sym y.is

asks_by : (taken sent head behind method : List ℕ) (b t : Bool) → IsImage taken sent b → b ≡ true → taken ≡ told t (head ++ behind) → IsMethodOf head method → bytes_eq method (codes "HEAD") ≡ false → AsksToClose taken
asks_by taken sent head behind method _ t (replaced front rest whole written goes) e is m not_head =
    let named : IsMethodOf (front ++ closing) whole.tree.method = record { tree = whole.tree; reads = whole.reads; is = refl } in
    let same : method ≡ whole.tree.method = one_method head (front ++ closing) behind rest method whole.tree.method m named (told_front t (head ++ behind) front rest (sym is ∙ written)) in
    record { front = front; rest = rest; method = whole.tree.method; head = whole; is = written; method_is = named; not_head = ap (λ n. bytes_eq n (codes "HEAD")) (sym same) ∙ not_head }
asks_by taken sent head behind method _ t (as_it_is none goes) e is m not_head = (cc)

pub seen_open : (h : Hearing) (s : Sending) → IsJudged h s → may_keep h s ≡ true → IsSeenOpen h s
seen_open h s j k =
    let p = both_of (is_read_out h) (is_left_open s) k in
    let q = both_of (is_answered h.following) (h.faults == 0) p.0 in
    let r = both_of (s.faults == 0) (is_none s.stopped && (not s.finished && (s.replaced && not (bytes_eq s.method (codes "HEAD"))))) p.1 in
    let u = both_of (is_none s.stopped) (not s.finished && (s.replaced && not (bytes_eq s.method (codes "HEAD")))) r.1 in
    let w = both_of (not s.finished) (s.replaced && not (bytes_eq s.method (codes "HEAD"))) u.1 in
    let x = both_of s.replaced (not (bytes_eq s.method (codes "HEAD"))) w.1 in
    record {
      answer = (j.answered (answered_known h.following q.0)).0 q.0;
      no_read_failed = eqb-true h.faults 0 q.1;
      no_write_failed = eqb-true s.faults 0 r.0;
      unfinished = not_true s.finished w.0;
      asked = asks_by (outer_sink s).taken (image s) s.head (behind_head s) s.method s.replaced s.sink.tells j.sent.is_image x.0 refl (j.sent.method x.0) (not_true (bytes_eq s.method (codes "HEAD")) x.1);
    }

none_stopped : (stopped : Option SinkFault) (before now : ℕ) → is_sending_wanting stopped ≡ false → (stopped ≡ Some fault.Failed → Rose before now) → now ≡ 0 → is_none stopped ≡ true
none_stopped None before now w c z = refl
none_stopped (Some fault.Failed) before now w c z = absurd (omega (arith, c refl, z))
none_stopped (Some fault.Mem) before now w c z = (cc)

-- the line was replaced, and the method isn't HEAD
replaced_by : (taken sent head behind method : List ℕ) (b t : Bool) → IsImage taken sent b → taken ≡ told t (head ++ behind) → (IsTrue b → IsMethodOf head method) → AsksToClose taken → (b && not (bytes_eq method (codes "HEAD"))) ≡ true
replaced_by taken sent head behind method _ t (replaced front rest whole written goes) is m asks =
    let same : method ≡ asks.method = one_method head (asks.front ++ closing) behind asks.rest method asks.method (m refl) asks.method_is (told_front t (head ++ behind) asks.front asks.rest (sym is ∙ asks.is)) in
    not_false (bytes_eq method (codes "HEAD")) (ap (λ n. bytes_eq n (codes "HEAD")) same ∙ asks.not_head)
replaced_by taken sent head behind method _ t (as_it_is none goes) is m asks = absurd (none asks.front asks.rest asks.is asks.head)

all_of : (a b : Bool) → a ≡ true → b ≡ true → (a && b) ≡ true
all_of true b e f = f
all_of false b e f = (cc)

pub kept_open : (h : Hearing) (s : Sending) → IsJudged h s → is_link_wanting h s ≡ false → s.sink.faults ≡ 0 → IsSeenOpen h s → may_keep h s ≡ true
kept_open h s j w z seen =
    let known = none_of (is_lost h.following) (is_sending_wanting s.stopped) w in
    all_of (is_read_out h) (is_left_open s)
    (all_of (is_answered h.following) (h.faults == 0) ((j.answered known.0).1 seen.answer) (eq-eqb h.faults 0 seen.no_read_failed))
    (all_of (s.faults == 0) (is_none s.stopped && (not s.finished && (s.replaced && not (bytes_eq s.method (codes "HEAD"))))) (eq-eqb s.faults 0 seen.no_write_failed)
    (all_of (is_none s.stopped) (not s.finished && (s.replaced && not (bytes_eq s.method (codes "HEAD")))) (none_stopped s.stopped s.begun.faults s.sink.faults known.1 j.sent.cause z)
    (all_of (not s.finished) (s.replaced && not (bytes_eq s.method (codes "HEAD"))) (not_false s.finished seen.unfinished)
    (replaced_by (outer_sink s).taken (image s) s.head (behind_head s) s.method s.replaced s.sink.tells j.sent.is_image refl j.sent.method seen.asked))))
