use Rattle.px_publish.proofs.Keeps.{stays}
use Rattle.px_publish.proofs.readers.ConfigReader.looked.Goals as goal

pub enter_as-requires : goal.enter_as-requires
enter_as-requires g c x = stays _ _ x
