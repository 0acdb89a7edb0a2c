use Rattle.std.proofs.Common.{rules, ◌≡◌, ap, arith, length-append, ◌++◌, ◌∷◌, [], length}
use Rattle.px_tag_board.specs.declared.entries.BoardEntry.{BoardEntry}
use Rattle.px_tag_board.proofs.StateLemmas.{wearing_put}
use Rattle.px_tag_board.specs.Chains.{newest_of}
use Rattle.px_tag_board.specs.TagMaps.{worn}
use Rattle.px_tag_board.specs.States.{worn_by}
use Rattle.px_tag_board.specs.Tags.{tags_after}
use Rattle.px_tag_board.proofs.tag_boards.TagBoard.make.Goals as goal

pub invariant_of-self-2 : goal.invariant_of-self-2
invariant_of-self-2 g c =
    let old = c.args.self.now in
    let state = newest_of old.chain.states in
    let entry : BoardEntry = record { address = c.in_ok-from_bytes.field-0; change = c.in_ok-copy.field-0 } in
    let kept = c.in_ok-kept.kept in
    let more : newest_of c.add.new.self.states ≡ state ++ entry ∷ [] = search rules in
    let named : entry.address ≡ c.args.address.now = search rules in
    let is : kept ≡ tags_after (worn_by c.args.address.now state) entry.change = search rules in
    record {
      pair = search rules;
      wearing = wearing_put (worn old.tag_map) (worn c.reserve.new.self) (worn c.put.new.self) state (newest_of c.add.new.self.states) entry c.args.address.now kept
          old.wearing c.reserve.ensures.same c.put.ensures named is more;
      counted = let t = ap length more in omega (arith, c.add-2.ensures.total, length-append state (entry ∷ []));
      few = omega arith;
    }
