use Rattle.px_answers.proofs.fields.push_length.Goals as goal

pub returns : goal.returns
returns c = rw c.in_ok-digits.ensures at c.push_field.ensures
