use Rattle.px_part_tests.proofs.publish.pair_of_one.Goals as goal

pub returns-clause-pair : goal.returns-clause-pair
returns-clause-pair g c = c.first_of-reader.ensures _ c.pair-publisher.ensures.pair
