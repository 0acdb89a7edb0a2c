use Rattle.px_head.proofs.ReadBackLemmas.{request-back, response-back, line-back}
use Rattle.px_head.proofs.laws.fields_read_back.Goals as goal

pub returns : goal.returns
returns c = record {
  request = request-back;
  response = response-back;
  line = line-back;
}
