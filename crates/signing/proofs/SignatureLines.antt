-- The lines of a signature give the fields of signatures its members.
use Rattle.std.proofs.Common.{◌≡◌, ℕ, Bool, true, false, ◌&&◌, ◌||◌, Option, Some, None, List, [], ◌∷◌, ◌++◌, All, codes, refl, sym, ap, subst, ◌∙◌, append_assoc, inl, inr}
use Rattle.std.specs.List.{list_all}
use Rattle.std.specs.Str.{byte, bytes_eq}
use Rattle.std.proofs.lemmas.Bool.{and_from, cases_Bool}
use Rattle.std.proofs.lemmas.List.{append-nil}
use Rattle.std.proofs.lemmas.List.Elements.{All-cons, All-nil}
use Rattle.std.proofs.lemmas.List.Folds.{list_all-map}
use Rattle.sfv_text.specs.Range.{are_params_in_range, is_byte, is_dict_member_in_range, is_inner_in_range, is_item_in_range, is_key, is_member_in_range}
use Rattle.sfv_text.specs.Strict.{bytes_text, dict_member_text}
use Rattle.sfv_text.specs.declared.pair.Pair.{Pair}
use Rattle.sfv_text.specs.declared.value.BareItem.TheVariants.{Bytes}
use Rattle.sfv_text.specs.declared.value.Member.{Member}
use Rattle.sfv_text.specs.declared.value.Member.TheVariants.{Item as ItemMember, InnerList as InnerMember}
use Rattle.msg_head.specs.Lines.{FieldLine, IsLine}
use Rattle.msg_head.specs.Names.{has_name}
use Rattle.msg_head.specs.Values.{is_there}
use Rattle.msg_head.specs.declared.error.Side.TheVariants.{Header}
use Rattle.msg_body.specs.Messages.{Message}
use Rattle.msg_body.specs.Views.{lines_on}
use Rattle.component_ids.specs.Identifiers.{item_of}
use Rattle.component_ids.specs.SignatureParams.{list_of}
use Rattle.component_ids.specs.Table.{is_listed}
use Rattle.content_digest.specs.declared.algorithm.Algorithm.{Algorithm}
use Rattle.sfv_text.proofs.PutLaws.{bytes_eq-sym}
use Rattle.signatures.specs.Signatures.{input_name, signature_name}
use Rattle.signing.specs.Specs.{IsValidSpec}
use Rattle.signing.specs.Written.{digest_lines, digest_name, line_of, signature_lines}
use Rattle.signing.specs.declared.spec.SignSpec.{SignSpec}
use Rattle.signing.proofs.AddedLines.{FrameNothing}
use Rattle.signing.proofs.TakenMembers.{TakesMember, member_is_line, takes, takes_after, takes_before}

-- ---- the digest's line

pub digest_other : (message : Message) (digest : Option Algorithm) (name : List ℕ) → has_name name (line_of (codes "Content-Digest") []) ≡ false → is_there (digest_lines message digest) name ≡ false
digest_other message None name other = refl
digest_other message (Some algorithm) name other = elim (cases_Bool (is_there (lines_on Header message) digest_name)) [
  | inl there ↦ rw there refl
  | inr none ↦ rw (none, other) refl
]

-- ---- the members

-- the member of `Signature-Input`
abbrev pub input_member : SignSpec → Pair Member
input_member spec = record { key = spec.label; value = InnerMember (list_of spec.params) }

-- the member of `Signature`
abbrev pub signature_member : SignSpec → List ℕ → Pair Member
signature_member spec tag = record { key = spec.label; value = ItemMember (record { bare = Bytes tag; params = [] }) }

or_parts : (a b : Bool) → (a || b) ≡ false → (a ≡ false) × (b ≡ false)
or_parts true b h = absurd cc
or_parts false b h = (refl, h)

module _ (spec : SignSpec) (valid : IsValidSpec spec) where
  pub input_in_range : is_dict_member_in_range (input_member spec) ≡ true
  input_in_range =
      and_from (is_key spec.label) (is_inner_in_range (list_of spec.params)) valid.label
      (ap (λ b. b && are_params_in_range spec.params.params) (list_all-map is_item_in_range item_of spec.params.ids) ∙ valid.in_range)

  module _ (tag : List ℕ) (bytes : list_all is_byte tag ≡ true) where
    pub signature_in_range : is_dict_member_in_range (signature_member spec tag) ≡ true
    signature_in_range = and_from (is_key spec.label) (is_member_in_range (signature_member spec tag).value) valid.label (rw bytes refl)

    abbrev input_line : FieldLine
    input_line = line_of (codes "Signature-Input") (dict_member_text (input_member spec))

    abbrev signature_line : FieldLine
    signature_line = line_of (codes "Signature") (dict_member_text (signature_member spec tag))

    lines_are : signature_lines spec tag ≡ input_line ∷ signature_line ∷ []
    lines_are = ap (λ (t : List ℕ). input_line ∷ line_of (codes "Signature") (spec.label ++ byte "=" ∷ t) ∷ []) (sym (append-nil (bytes_text tag)))

    pub signature_are_lines : All IsLine (signature_lines spec tag)
    signature_are_lines =
        subst (λ (ls : List FieldLine). All IsLine ls) (sym lines_are)
        (All-cons IsLine input_line (signature_line ∷ []) (member_is_line (input_member spec) input_in_range (codes "Signature-Input") refl)
        (All-cons IsLine signature_line [] (member_is_line (signature_member spec tag) signature_in_range (codes "Signature") refl) (All-nil IsLine)))

    -- names that neither line has
    pub signature_other : (name : List ℕ) → is_listed (signature_name ∷ input_name ∷ []) name ≡ false → is_there (signature_lines spec tag) name ≡ false
    signature_other name other =
        let one = or_parts (bytes_eq name signature_name) (bytes_eq name input_name || false) other in
        let two = or_parts (bytes_eq name input_name) false one.1 in
        let input : has_name name input_line ≡ false = bytes_eq-sym input_name name ∙ two.0 in
        let signature : has_name name signature_line ≡ false = bytes_eq-sym signature_name name ∙ one.0 in
        ap (λ (ls : List FieldLine). is_there ls name) lines_are ∙ rw (input, signature) refl

    module _ (xs : List FieldLine) where
      joined : ((xs ++ input_line ∷ []) ++ signature_line ∷ []) ≡ xs ++ signature_lines spec tag
      joined = append_assoc xs (input_line ∷ []) (signature_line ∷ []) ∙ ap (λ (ls : List FieldLine). xs ++ ls) (sym lines_are)

      pub takes_input : TakesMember xs (xs ++ signature_lines spec tag) input_name (input_member spec)
      takes_input =
          subst (λ (ls : List FieldLine). TakesMember xs ls input_name (input_member spec)) joined
          (takes_after xs (xs ++ input_line ∷ []) (signature_line ∷ []) input_name (input_member spec) refl
          (takes xs (codes "Signature-Input") input_name (input_member spec) input_in_range refl))

      pub takes_signature : TakesMember xs (xs ++ signature_lines spec tag) signature_name (signature_member spec tag)
      takes_signature =
          subst (λ (ls : List FieldLine). TakesMember xs ls signature_name (signature_member spec tag)) joined
          (takes_before xs (input_line ∷ []) ((xs ++ input_line ∷ []) ++ signature_line ∷ []) signature_name (signature_member spec tag) refl
          (takes (xs ++ input_line ∷ []) (codes "Signature") signature_name (signature_member spec tag) signature_in_range refl))

    pub signature_frame_nothing : FrameNothing (signature_lines spec tag)
    signature_frame_nothing = record { codings = refl; lengths = refl }
