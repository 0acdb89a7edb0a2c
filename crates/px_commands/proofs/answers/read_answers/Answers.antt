use Rattle.px_commands.proofs.answers.read_answers.Goals as goal

pub returns-in-Ok-clause-cause : goal.returns-in-Ok-clause-cause
returns-in-Ok-clause-cause g c = c.read_content.ensures.came (g.F.Files.state c.args.files.now) (g.F.Files.state c.read.new.self) c.in-Ok.ensures.reads.cause c.in-Ok.ensures.reads.put_faults_same
