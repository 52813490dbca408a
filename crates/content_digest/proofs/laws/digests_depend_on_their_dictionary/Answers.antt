use Rattle.content_digest.proofs.SameDicts.{depends_on_its_dict}
use Rattle.content_digest.proofs.laws.digests_depend_on_their_dictionary.Goals as goal

pub returns : goal.returns
returns c = depends_on_its_dict
