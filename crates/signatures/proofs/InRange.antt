-- What is in range is so in its parts, and what is read of a label is in range.
use Rattle.std.proofs.Common.{◌≡◌, Bool, true, ◌&&◌, List, ℕ, Some, Result, Ok, Err, sym, ap, ◌∙◌}
use Rattle.std.specs.Prelude.{IfOk}
use Rattle.std.specs.List.{list_all}
use Rattle.std.proofs.lemmas.Bool.{and_parts}
use Rattle.std.proofs.lemmas.List.Folds.{list_all-map}
use Rattle.sfv_text.specs.Keys.{have_distinct_keys, value_of}
use Rattle.sfv_text.specs.Range.{is_key, is_item_in_range, are_params_in_range, is_inner_in_range, is_member_in_range, is_dict_member_in_range, is_dict_in_range}
use Rattle.sfv_text.specs.declared.pair.Pair.{Pair}
use Rattle.sfv_text.specs.declared.value.InnerList.{InnerList}
use Rattle.sfv_text.specs.declared.value.Member.{Member}
use Rattle.sfv_text.specs.declared.value.Member.TheVariants.{InnerList as InnerMember}
use Rattle.sfv_text.proofs.ValueLaws.{value_passes}
use Rattle.sfv_read.proofs.InRange.{dict_read_in_range}
use Rattle.msg_head.specs.declared.error.Side.TheVariants.{Header}
use Rattle.msg_body.specs.Messages.{Message}
use Rattle.msg_body.specs.Views.{lines_on}
use Rattle.msg_head.specs.Values.{combined_value}
use Rattle.component_ids.specs.Identifiers.{item_of}
use Rattle.component_ids.specs.SignatureParams.{list_of, are_sig_params_in_range}
use Rattle.signatures.specs.Signatures.{input_name}
use Rattle.signatures.specs.Laws.{IsSignatureInRange}
use Rattle.signatures.specs.declared.label.LabelFault.{LabelFault}
use Rattle.signatures.specs.declared.label.LabelRead.{LabelRead}
use Rattle.signatures.specs.tools.Answered.{ExplainsLabel}

pub inner_in_range : (dict : List (Pair Member)) (key : List ℕ) (list : InnerList) → is_dict_in_range dict ≡ true → value_of dict key ≡ Some (InnerMember list)
    → is_inner_in_range list ≡ true
inner_in_range dict key list fits there =
    let at = value_passes is_dict_member_in_range dict key (InnerMember list) (and_parts (have_distinct_keys dict) (list_all is_dict_member_in_range dict) fits).1 there in
    ap is_member_in_range (sym at.2) ∙ (and_parts (is_key at.0.key) (is_member_in_range at.0.value) at.1).1

pub is_signature_in_range : IsSignatureInRange
is_signature_in_range message label params tag has =
    let dict = has.input.dict in
    let fits = dict_read_in_range (combined_value (lines_on Header message) input_name) dict has.input.has.reads in
    ap (λ (b : Bool). b && are_params_in_range params.params) (sym (list_all-map is_item_in_range item_of params.ids))
    ∙ inner_in_range dict label (list_of params) fits has.input.member_is

pub read_in_range : (message : Message) (label : List ℕ) (result : Result LabelRead LabelFault) → ExplainsLabel message label result
    → IfOk result (λ read. are_sig_params_in_range read.params ≡ true)
read_in_range message label (Ok read) x = is_signature_in_range message label read.params read.tag x
read_in_range message label (Err fault) x = tt
