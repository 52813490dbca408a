-- Fields whose Dictionaries take one more member, by a line of their own.
use Rattle.std.proofs.Common.{◌≡◌, ℕ, true, false, Some, List, [], ◌∷◌, ◌++◌, codes, length, arith, refl, sym, ap, subst, ◌∙◌, inl, inr}
use Rattle.std.specs.List.{list_all, list_any, join_by}
use Rattle.std.specs.Str.{bytes_eq}
use Rattle.std.proofs.lemmas.Bool.{and_parts, cases_Bool, lt-ltb}
use Rattle.std.proofs.lemmas.List.{append-nil}
use Rattle.std.proofs.lemmas.Slice.Eq.{bytes_eq-Decides}
use Rattle.byte_grammar.specs.Classes.{is_line_byte, is_token}
use Rattle.sfv_text.specs.Keys.{has_key, put, value_of}
use Rattle.sfv_text.specs.Range.{is_dict_in_range, is_dict_member_in_range, is_key, is_member_in_range, is_string_byte}
use Rattle.sfv_text.specs.Strict.{dict_member_text, dict_text, dict_value_text}
use Rattle.sfv_text.specs.declared.pair.Pair.{Pair}
use Rattle.sfv_text.specs.declared.value.Member.{Member}
use Rattle.sfv_text.proofs.Printable.{dict_is}
use Rattle.sfv_text.proofs.PutLaws.{put_new}
use Rattle.sfv_read.specs.Reads.{ReadsDict}
use Rattle.sfv_read.proofs.MoreMembers.{dict_more, strict_ends}
use Rattle.sfv_read.proofs.Readings.{dict_is_decided}
use Rattle.sfv_read.proofs.StrictReads.{dict_text_reads}
use Rattle.msg_head.specs.Lines.{FieldLine, IsLine}
use Rattle.msg_head.specs.Names.{has_name}
use Rattle.msg_head.specs.Values.{combined_value, has_bytes, is_there, value}
use Rattle.msg_head.specs.declared.error.Side.TheVariants.{Header}
use Rattle.msg_head.proofs.MoreLines.{combined_first, combined_more, there_more, there_same, value_after_space, values_same}
use Rattle.msg_body.specs.Messages.{Message}
use Rattle.msg_body.specs.Views.{lines_on}
use Rattle.signatures.specs.Signatures.{HasDict, HasMember}
use Rattle.signatures.proofs.Reading.{one_dict}
use Rattle.signing.specs.SignCauses.{HasLabel, IsMalformed}
use Rattle.signing.specs.Written.{line_of}
use Rattle.signing.proofs.AddedLines.{printable_line, raw_of}

-- ---- values by their keys

module _ {V : Type 0} where
  pub not_there : (ps : List (Pair V)) (key : List ℕ) → ((v : V) → ¬ (value_of ps key ≡ Some v)) → list_any (has_key key) ps ≡ false
  not_there [] key none = refl
  not_there (p ∷ ps) key none = elim (cases_Bool (has_key key p)) [
    | inl is ↦ absurd (none p.value (rw is refl))
    | inr not ↦ rw not (not_there ps key (λ v same. none v (rw not same)))
  ]

  -- a value is found before others that come after it
  pub value_first : (ps qs : List (Pair V)) (key : List ℕ) (v : V) → value_of ps key ≡ Some v → value_of (ps ++ qs) key ≡ Some v
  value_first [] qs key v is = absurd cc
  value_first (p ∷ ps) qs key v is = elim (cases_Bool (has_key key p)) [
    | inl own ↦ rw own (rw own at is)
    | inr not ↦ rw not (value_first ps qs key v (rw not at is))
  ]

  -- the last value is found where no other has the key
  pub value_last : (ps : List (Pair V)) (key : List ℕ) (v : V) → list_any (has_key key) ps ≡ false → value_of (ps ++ record { key = key; value = v } ∷ []) key ≡ Some v
  value_last [] key v none = let own : bytes_eq key key ≡ true = (bytes_eq-Decides key key).1 refl in rw own refl
  value_last (p ∷ ps) key v none = elim (cases_Bool (has_key key p)) [
    | inl own ↦ absurd (cc (rw own at none))
    | inr not ↦ rw not (value_last ps key v (rw not at none))
  ]

-- ---- the line of a member

module _ (member : Pair Member) (fits : is_dict_member_in_range member ≡ true) where
  alone_in_range : is_dict_in_range (member ∷ []) ≡ true
  alone_in_range = rw fits refl

  alone : dict_text (member ∷ []) ≡ dict_member_text member
  alone = append-nil (dict_member_text member)

  line_bytes : list_all is_line_byte (dict_member_text member) ≡ true
  line_bytes = printable_line (dict_member_text member) (ap (λ (t : List ℕ). list_all is_string_byte t) (sym alone) ∙ dict_is (member ∷ []) alone_in_range)

  not_empty : has_bytes (dict_member_text member) ≡ true
  not_empty = go member.key (and_parts (is_key member.key) (is_member_in_range member.value) fits).0
    where
      go : (key : List ℕ) → is_key key ≡ true → has_bytes (key ++ dict_value_text member.value) ≡ true
      go [] is = absurd cc
      go (c ∷ cs) is = lt-ltb 0 (length (c ∷ (cs ++ dict_value_text member.value))) (omega arith)

  pub line_value : (name : List ℕ) → value (line_of name (dict_member_text member)).raw ≡ dict_member_text member
  line_value name = let ends = strict_ends member fits in value_after_space (dict_member_text member) line_bytes not_empty ends.0 ends.1

  pub member_is_line : (name : List ℕ) → is_token name ≡ true → IsLine (line_of name (dict_member_text member))
  member_is_line name token = record { name = token; raw = raw_of (dict_member_text member) line_bytes }

  pub reads_alone : ReadsDict (dict_member_text member) (member ∷ [])
  reads_alone = subst (λ (t : List ℕ). ReadsDict t (member ∷ [])) alone (dict_text_reads (member ∷ []) alone_in_range)

-- ---- fields

-- The field of the name has the member in these lines, beside those that it has in the others.
pub record TakesMember (before after : List FieldLine) (name : List ℕ) (member : Pair Member) : Type 0 where
  pub there : is_there after name ≡ true
  pub kept : (dict : List (Pair Member)) → is_there before name ≡ true → ReadsDict (combined_value before name) dict → ¬ (dict ≡ [])
      → ReadsDict (combined_value after name) (put dict member.key member.value)
  pub new : is_there before name ≡ false → ReadsDict (combined_value after name) (member ∷ [])

pub combined_same : (xs ys : List FieldLine) (name : List ℕ) → is_there ys name ≡ false → combined_value (xs ++ ys) name ≡ combined_value xs name
combined_same xs ys name none = ap (λ (ts : List (List ℕ)). join_by (λ t. t) (codes ", ") ts) (values_same xs ys name none)

pub takes : (xs : List FieldLine) (shown name : List ℕ) (member : Pair Member) → is_dict_member_in_range member ≡ true → has_name name (line_of shown (dict_member_text member)) ≡ true
    → TakesMember xs (xs ++ line_of shown (dict_member_text member) ∷ []) name member
takes xs shown name member fits named =
    let line = line_of shown (dict_member_text member) in
    let own = line_value member fits shown in
    record {
      there = there_more xs line name named;
      kept = λ dict there reads some.
          subst (λ (t : List ℕ). ReadsDict t (put dict member.key member.value)) (sym (combined_more xs line name named there ∙ ap (λ (t : List ℕ). combined_value xs name ++ (codes ", " ++ t)) own))
          (dict_more (combined_value xs name) dict member reads some fits);
      new = λ none. subst (λ (t : List ℕ). ReadsDict t (member ∷ [])) (sym (combined_first xs line name named none ∙ own)) (reads_alone member fits);
    }

-- lines of other names among them change nothing
pub takes_before : (xs further after : List FieldLine) (name : List ℕ) (member : Pair Member) → is_there further name ≡ false → TakesMember (xs ++ further) after name member → TakesMember xs after name member
takes_before xs further after name member none t =
    let there = there_same xs further name none in
    record {
      there = t.there;
      kept = λ dict here reads some. t.kept dict (there ∙ here) (subst (λ (t : List ℕ). ReadsDict t dict) (sym (combined_same xs further name none)) reads) some;
      new = λ absent. t.new (there ∙ absent);
    }

pub takes_after : (xs ys further : List FieldLine) (name : List ℕ) (member : Pair Member) → is_there further name ≡ false → TakesMember xs ys name member → TakesMember xs (ys ++ further) name member
takes_after xs ys further name member none t =
    let same = sym (combined_same ys further name none) in
    record {
      there = there_same ys further name none ∙ t.there;
      kept = λ dict here reads some. subst (λ (t : List ℕ). ReadsDict t (put dict member.key member.value)) same (t.kept dict here reads some);
      new = λ absent. subst (λ (t : List ℕ). ReadsDict t (member ∷ [])) same (t.new absent);
    }

-- ---- messages

module _ (message written : Message) (name : List ℕ) (member : Pair Member) (taken : TakesMember (lines_on Header message) (lines_on Header written) name member)
    (free : ¬ HasLabel message name member.key) where
  key_is_new : (dict : List (Pair Member)) → HasDict message name dict → list_any (has_key member.key) dict ≡ false
  key_is_new dict has = not_there dict member.key (λ value is. free (value, record { dict = dict; has = has; member_is = is }))

  -- a Dictionary that has members has one more
  pub dict_taken : (dict : List (Pair Member)) → HasDict message name dict → ¬ (dict ≡ []) → HasDict written name (dict ++ member ∷ [])
  dict_taken dict has some = record {
    there = taken.there;
    reads =
        subst (λ (d : List (Pair Member)). ReadsDict (combined_value (lines_on Header written) name) d) (sym (put_new dict member.key member.value (key_is_new dict has))) (taken.kept dict has.there has.reads some);
  }

  -- a member that was there is there still
  pub member_kept : (label : List ℕ) (value : Member) → HasMember message name label value → HasMember written name label value
  member_kept label value is = record {
    dict = is.dict ++ member ∷ [];
    has = dict_taken is.dict is.has (λ none. absurd (cc (is.member_is, none)));
    member_is = value_first is.dict (member ∷ []) label value is.member_is;
  }

  module _ (sound : ¬ IsMalformed message name) where
    pub some_member : (dict : List (Pair Member)) → HasDict message name dict → ¬ (dict ≡ [])
    some_member dict has none = sound (has.there, λ other also. one_dict message name other dict also has ∙ none)

    -- where there is no Dictionary, there is one of it alone
    pub dict_begun : ((dict : List (Pair Member)) → ¬ HasDict message name dict) → HasDict written name (member ∷ [])
    dict_begun none = elim (cases_Bool (is_there (lines_on Header message) name)) [
      | inl there ↦ absurd (sound (there, λ dict has. absurd (none dict has)))
      | inr absent ↦ record { there = taken.there; reads = taken.new absent }
    ]

    -- the new one is there
    pub member_taken : HasMember written name member.key member.value
    member_taken = elim (dict_is_decided (combined_value (lines_on Header message) name)) [
      | inl found ↦ elim (cases_Bool (is_there (lines_on Header message) name)) [
        | inl there ↦
            let has : HasDict message name found.0 = record { there = there; reads = found.1 } in
            record { dict = found.0 ++ member ∷ []; has = dict_taken found.0 has (some_member found.0 has); member_is = value_last found.0 member.key member.value (key_is_new found.0 has) }
        | inr absent ↦ record { dict = member ∷ []; has = record { there = taken.there; reads = taken.new absent }; member_is = value_last [] member.key member.value refl }
      ]
      | inr none ↦ record { dict = member ∷ []; has = dict_begun (λ dict has. none dict has.reads); member_is = value_last [] member.key member.value refl }
    ]
