use Rattle.std.proofs.Common.{◌-◌, arith, length}
use Rattle.std.proofs.lemmas.List.{take_rest}
use Rattle.px_decide.proofs.TargetLemmas.{last_url-found, last_url-later, last_url-none}
use Rattle.px_decide.proofs.targets.last_url.Goals as goal

pub places-init : goal.places-init
places-init c = (omega arith, last_url-none c.args.text.now (length c.args.text.now) (omega arith))

pub returns-then-begins_url : goal.returns-then-begins_url
returns-then-begins_url c =
    let fits = c.places.invariant.0 in
    last_url-found c.args.text.now _ (c.places.at - 1) c.places.at c.begins_url.result (omega arith) (omega arith) (take_rest c.args.text.now (c.places.at - 1)) c.begins_url.ensures c.if-begins_url.true
    c.places.invariant.1

pub places-preserved : goal.places-preserved
places-preserved c =
    let fits = c.places.invariant.0 in (
      omega arith,
      last_url-later c.args.text.now _ (c.places.at - 1) c.places.at c.begins_url.result (omega arith) (omega arith) (take_rest c.args.text.now (c.places.at - 1)) c.begins_url.ensures c.if-begins_url.false
          c.places.invariant.1,
    )
