-- Each row has one answer.
use Rattle.std.proofs.Common.{◌≡◌, ◌⊎◌, ℕ, Bool, true, false, List, Option, Some, None, Result, Ok, Err, inl, inr, refl, sym, ap, ◌∙◌}
use Rattle.std.specs.Prelude.{IsSomeAnd}
use Rattle.sfv_text.specs.Keys.{value_of}
use Rattle.sfv_text.specs.Strict.{item_text, list_text, dict_text, member_text}
use Rattle.sfv_text.specs.declared.pair.Pair.{Pair}
use Rattle.sfv_text.specs.declared.value.BareItem.{BareItem}
use Rattle.sfv_text.specs.declared.value.Member.{Member}
use Rattle.sfv_read.specs.Laws.{HasOneValue, HasValueOrNone}
use Rattle.sfv_read.specs.Reads.{ReadsItem, ReadsList, ReadsDict}
use Rattle.sfv_read.proofs.Readings.{item_has_one_value, list_has_one_value, dict_has_one_value, item_is_decided, list_is_decided, dict_is_decided}
use Rattle.msg_head.specs.declared.error.Side.TheVariants.{Header}
use Rattle.msg_head.specs.Lines.{FieldLine}
use Rattle.msg_body.specs.Messages.{Message}
use Rattle.msg_body.specs.Views.{lines_on}
use Rattle.msg_head.specs.Values.{values, combined_value, is_there}
use Rattle.component_ids.specs.Table.{is_field_name}
use Rattle.component_ids.specs.Types.{kind_in}
use Rattle.component_ids.specs.declared.types.FieldKind.{FieldKind}
use Rattle.component_ids.specs.declared.types.FieldKind.TheVariants as kind
use Rattle.component_ids.specs.declared.id.ComponentId.{ComponentId}
use Rattle.derived_values.specs.declared.lack.Lack.{Lack}
use Rattle.derived_values.specs.declared.lack.Lack.TheVariants.{Absent, Ambiguous, Underivable, Unreadable, NotAscii}
use Rattle.component_values.specs.Context.{MessageContext}
use Rattle.component_values.specs.Forms.{Form, form_of}
use Rattle.component_values.specs.Forms as form
use Rattle.derived_values.specs.Derived.{derived_of}
use Rattle.component_values.specs.Laws.{HasOrLacks, HasOneValueOnly, LacksInOneWay, LacksNoValue}
use Rattle.component_values.specs.Values.{StrictRow, KindRow, MemberRow, KeyRow, plain_value, byte_sequences, FormRow, LineRow, side_of, message_for, NameRow, MessageRow, ComesTo}
use Rattle.component_values.proofs.DerivedRows.{Answer, HasSoleAnswer, same, the_answer, derived_one}

-- ---- structured values

strict_one : {V : Type 0} (Reads : List ℕ → V → Type 0) (text_of : V → List ℕ) → HasValueOrNone Reads → HasOneValue Reads → (text : List ℕ) → HasSoleAnswer (StrictRow Reads text_of text)
strict_one {V} Reads text_of decides one text = elim (decides text) [
  | inl read ↦ record { answer = Ok (text_of read.0); is = (read.0, read.1, refl); only = is_read read.0 read.1 }
  | inr none ↦ record { answer = Err Unreadable; is = (refl, none); only = is_unread none }
]
  where
    is_read : (v : V) → Reads text v → (other : Answer) → StrictRow Reads text_of text other → other ≡ Ok (text_of v)
    is_read v reads (Ok value) row = ap Ok (row.2 ∙ ap text_of (one text row.0 v row.1 reads))
    is_read v reads (Err lack) row = absurd (row.1 v reads)

    is_unread : ((v : V) → Reads text v → ⊥) → (other : Answer) → StrictRow Reads text_of text other → other ≡ Err Unreadable
    is_unread none (Ok value) row = absurd (none row.0 row.1)
    is_unread none (Err lack) row = ap Err row.0

pub kind_one : (known : Option FieldKind) (text : List ℕ) → HasSoleAnswer (KindRow known text)
kind_one (Some kind.Item) text = strict_one ReadsItem item_text item_is_decided item_has_one_value text
kind_one (Some kind.List) text = strict_one ReadsList list_text list_is_decided list_has_one_value text
kind_one (Some kind.Dictionary) text = strict_one ReadsDict dict_text dict_is_decided dict_has_one_value text
kind_one None text = the_answer (Err Unreadable)

-- ---- members

abbrev pub member_answer : Option Member → Answer
member_answer None = Err Absent
member_answer (Some member) = Ok (member_text member)

pub member_some : (key text : List ℕ) (dict : List (Pair Member)) → ReadsDict text dict → (found : Option Member) → value_of dict key ≡ found → MemberRow key text (member_answer found)
member_some key text dict reads None is = (dict, reads, is)
member_some key text dict reads (Some member) is = (dict, reads, rw is refl)

at_member : (value : List ℕ) (found : Option Member) → IsSomeAnd found (λ member. value ≡ member_text member) → Ok value ≡ member_answer found
at_member value None is = absurd is
at_member value (Some member) is = ap Ok is

one_dict : (text : List ℕ) (dict other : List (Pair Member)) → ReadsDict text dict → ReadsDict text other → dict ≡ other
one_dict = dict_has_one_value

pub member_read : (key text : List ℕ) (dict : List (Pair Member)) → ReadsDict text dict → (other : Answer) → MemberRow key text other → other ≡ member_answer (value_of dict key)
member_read key text dict reads (Ok value) row =
    at_member value (value_of row.0 key) row.2 ∙ ap (λ d. member_answer (value_of d key)) (one_dict text row.0 dict row.1 reads)
member_read key text dict reads (Err Absent) row =
    ap member_answer (sym row.2) ∙ ap (λ d. member_answer (value_of d key)) (one_dict text row.0 dict row.1 reads)
member_read key text dict reads (Err Ambiguous) row = absurd (row.1 dict reads)
member_read key text dict reads (Err Underivable) row = absurd (row.1 dict reads)
member_read key text dict reads (Err Unreadable) row = absurd (row.1 dict reads)
member_read key text dict reads (Err NotAscii) row = absurd (row.1 dict reads)

member_unread : (key text : List ℕ) → ((dict : List (Pair Member)) → ReadsDict text dict → ⊥) → (other : Answer) → MemberRow key text other → other ≡ Err Unreadable
member_unread key text none (Ok value) row = absurd (none row.0 row.1)
member_unread key text none (Err Absent) row = absurd (none row.0 row.1)
member_unread key text none (Err Ambiguous) row = ap Err row.0
member_unread key text none (Err Underivable) row = ap Err row.0
member_unread key text none (Err Unreadable) row = ap Err row.0
member_unread key text none (Err NotAscii) row = ap Err row.0

member_one : (key text : List ℕ) → HasSoleAnswer (MemberRow key text)
member_one key text = elim (dict_is_decided text) [
  | inl read ↦ record {
    answer = member_answer (value_of read.0 key);
    is = member_some key text read.0 read.1 (value_of read.0 key) refl;
    only = member_read key text read.0 read.1;
  }
  | inr none ↦ record { answer = Err Unreadable; is = (refl, none); only = member_unread key text none }
]

key_one : (known : Option FieldKind) (key text : List ℕ) → HasSoleAnswer (KeyRow known key text)
key_one (Some kind.Item) key text = the_answer (Err Unreadable)
key_one (Some kind.List) key text = the_answer (Err Unreadable)
key_one (Some kind.Dictionary) key text = member_one key text
key_one None key text = member_one key text

-- ---- fields

form_one : (asked : Form) (known : Option FieldKind) (lines : List FieldLine) (name : List ℕ) → HasSoleAnswer (FormRow asked known lines name)
form_one form.wrapped known lines name = the_answer (Ok (byte_sequences (values lines name)))
form_one (form.member key) known lines name = key_one known key (combined_value lines name)
form_one form.strict known lines name = kind_one known (combined_value lines name)
form_one form.plain known lines name = the_answer (plain_value (combined_value lines name))

line_one : (there : Bool) (params : List (Pair BareItem)) (known : Option FieldKind) (lines : List FieldLine) (name : List ℕ) → HasSoleAnswer (LineRow there params known lines name)
line_one false params known lines name = the_answer (Err Absent)
line_one true params known lines name = form_one (form_of params) known lines name

-- ---- components

name_one : (named : Bool) (context : MessageContext) (id : ComponentId) (message : Message) → HasSoleAnswer (NameRow named context id message)
name_one true context id message =
    let lines = lines_on (side_of id.params) message in
    line_one (is_there lines id.name) id.params (kind_in context.types id.name) lines id.name
name_one false context id message = derived_one (derived_of id.name) id.params context.scheme (lines_on Header message) message.head.start

message_one : (message : Result Message Lack) (context : MessageContext) (id : ComponentId) → HasSoleAnswer (MessageRow message context id)
message_one (Err lack) context id = the_answer (Err lack)
message_one (Ok message) context id = name_one (is_field_name id.name) context id message

sole_answer : (context : MessageContext) (id : ComponentId) → HasSoleAnswer (ComesTo context id)
sole_answer context id = message_one (message_for context id.params) context id

one_answer : (context : MessageContext) (id : ComponentId) (one other : Answer) → ComesTo context id one → ComesTo context id other → one ≡ other
one_answer context id one other is also = same (sole_answer context id) one other is also

-- ---- the laws

pub has_or_lacks : HasOrLacks
has_or_lacks context id = let row = sole_answer context id in by_answer row.answer row.is
  where
    by_answer : (answer : Answer) → ComesTo context id answer → ((value : List ℕ) × ComesTo context id (Ok value)) ⊎ ((lack : Lack) × ComesTo context id (Err lack))
    by_answer (Ok value) is = inl (value, is)
    by_answer (Err lack) is = inr (lack, is)

pub has_one_value : HasOneValueOnly
has_one_value context id value other is also = let e = one_answer context id (Ok value) (Ok other) is also in cc

pub lacks_in_one_way : LacksInOneWay
lacks_in_one_way context id lack other is also = let e = one_answer context id (Err lack) (Err other) is also in cc

pub lacks_no_value : LacksNoValue
lacks_no_value context id value lack is also = let e = one_answer context id (Ok value) (Err lack) is also in absurd cc
