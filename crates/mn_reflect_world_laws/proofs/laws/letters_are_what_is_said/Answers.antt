use Rattle.mn_reflect_world_laws.proofs.Letters.{are_words}
use Rattle.mn_reflect_world_laws.proofs.laws.letters_are_what_is_said.Goals as goal

pub returns : goal.returns
returns c = are_words
