use Rattle.sfv_text.proofs.Printable.{bare_is, item_is, inner_is, list_is, dict_is}
use Rattle.sfv_text.proofs.laws.strict_texts_are_printable.Goals as goal

pub returns : goal.returns
returns c = record { bare = bare_is; item = item_is; inner = inner_is; list = list_is; dict = dict_is }
