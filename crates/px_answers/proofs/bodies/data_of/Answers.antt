use Rattle.px_answers.proofs.AgainLemmas.{own_data}
use Rattle.px_answers.proofs.bodies.data_of.Goals as goal

pub returns-in-Absent : goal.returns-in-Absent
returns-in-Absent c = own_data c.args.rule c.args.raw (λ h. cc) c.requires.own

pub returns-in-Length : goal.returns-in-Length
returns-in-Length c = own_data c.args.rule c.args.raw (λ h. cc) c.requires.own

pub returns-in-ToClose : goal.returns-in-ToClose
returns-in-ToClose c = own_data c.args.rule c.args.raw (λ h. cc) c.requires.own
