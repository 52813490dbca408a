-- The digests of a response that is signed as its request asks.
use Rattle.std.proofs.Common.{◌≡◌, ◌<◌, ℕ, true, false, Option, Some, None, List, [], ◌∷◌, ◌++◌, append-nil, append_assoc, codes, length, map, arith, refl, sym, ap, subst, ◌∙◌, inl, inr}
use Rattle.std.specs.List.{All, join_by, list_all, list_any}
use Rattle.std.specs.Str.{byte}
use Rattle.std.proofs.lemmas.Bool.{cases_Bool, lt-ltb}
use Rattle.std.proofs.lemmas.List.Elements.{All-head}
use Rattle.std.proofs.lemmas.Slice.Eq.{bytes_eq-Decides}
use Rattle.byte_grammar.specs.Classes.{is_line_byte}
use Rattle.byte_grammar.proofs.ListLaws.{all_implied}
use Rattle.sfv_text.specs.Keys.{value_of}
use Rattle.sfv_text.specs.Range.{is_dict_in_range, is_dict_member_in_range, is_string_byte}
use Rattle.sfv_text.specs.Strict.{dict_member_text, dict_text}
use Rattle.sfv_text.specs.declared.pair.Pair.{Pair}
use Rattle.sfv_text.specs.declared.value.BareItem.TheVariants.{Bytes}
use Rattle.sfv_text.specs.declared.value.Member.{Member}
use Rattle.sfv_text.specs.declared.value.Member.TheVariants.{Item as ItemMember}
use Rattle.sfv_text.proofs.Printable.{dict_is}
use Rattle.sfv_read.specs.Reads.{ReadsDict}
use Rattle.sfv_read.proofs.MoreMembers.{strict_ends}
use Rattle.sfv_read.proofs.StrictReads.{dict_text_reads}
use Rattle.msg_head.specs.Lines.{FieldLine, line_of}
use Rattle.msg_head.specs.Values.{has_bytes, is_there, value}
use Rattle.msg_head.proofs.LineBytes.{line_byte_of}
use Rattle.msg_head.proofs.MoreLines.{combined_first, there_more, there_same, value_after_space, values_same}
use Rattle.msg_body.specs.Messages.{Message}
use Rattle.msg_body.specs.Views.{message_content}
use Rattle.component_values.specs.Context.{MessageContext, context_with}
use Rattle.content_digest.specs.Algorithms.{digest_by, key_of}
use Rattle.content_digest.specs.Digests.{DigestHolds, agrees, digest_dict, digest_name, is_known}
use Rattle.content_digest.specs.declared.algorithm.Algorithm.{Algorithm}
use Rattle.content_digest.specs.declared.algorithm.Algorithm.TheVariants.{Sha256, Sha512}
use Rattle.settings.specs.Configuration.{Configuration}
use Rattle.signatures.specs.ContentDigests.{digest_text}
use Rattle.signatures.specs.Signatures.{HasDict}
use Rattle.signing.specs.WishCauses.{IsWantCause, IsWantFault, want_order}
use Rattle.signing.specs.Wishes.{AreWished, MeetWishes, wish_name}
use Rattle.signing.specs.Written.{digest_lines, signature_lines, signed_message, with_lines}
use Rattle.signing.specs.declared.fault.WantFault.{WantFault}
use Rattle.signing.specs.declared.fault.WantFault.TheVariants as want
use Rattle.signing.specs.declared.spec.SignSpec.{SignSpec}
use Rattle.negotiation.specs.Each.{IsSignedEach}
use Rattle.negotiation.specs.Laws.{HasDigestWhereChosen}
use Rattle.negotiation.specs.NegotiateCauses.{HasDigestBy, HasOtherDigests, HasRightDigests}
use Rattle.negotiation.specs.Negotiated.{AreNegotiated, with_digest_by}
use Rattle.negotiation.specs.Preferences.{IsChosen}
use Rattle.signing.proofs.DigestBytes.{digests_are_bytes}
use Rattle.negotiation.proofs.Digesting.{digests_decided}
use Rattle.negotiation.proofs.Negotiating.{digest_met, wishes_met}
use Rattle.negotiation.proofs.WishedSignatures.{HasDigest, asked_digest}
use Rattle.negotiation.proofs.Wishing.{one_wished_digest}

-- ---- the value of a digest's line

member : Algorithm → List ℕ → Pair Member
member algorithm content = record { key = key_of algorithm; value = ItemMember (record { bare = Bytes (digest_by algorithm content); params = [] }) }

in_range : (algorithm : Algorithm) (content : List ℕ) → is_dict_member_in_range (member algorithm content) ≡ true
unfolding member
in_range Sha256 content = rw (digests_are_bytes Sha256 content) refl
in_range Sha512 content = rw (digests_are_bytes Sha512 content) refl

some_bytes : (algorithm : Algorithm) (content : List ℕ) → has_bytes (dict_member_text (member algorithm content)) ≡ true
unfolding member
some_bytes Sha256 content = lt-ltb 0 (length (dict_member_text (member Sha256 content))) (omega arith)
some_bytes Sha512 content = lt-ltb 0 (length (dict_member_text (member Sha512 content))) (omega arith)

known : (algorithm : Algorithm) (content : List ℕ) → list_any is_known (digest_dict algorithm content) ≡ true
known Sha256 content = refl
known Sha512 content = refl

agree : (algorithm : Algorithm) (content : List ℕ) → list_all (agrees content) (digest_dict algorithm content) ≡ true
agree Sha256 content = rw ((bytes_eq-Decides (digest_by Sha256 content) (digest_by Sha256 content)).1 refl) refl
agree Sha512 content = rw ((bytes_eq-Decides (digest_by Sha512 content) (digest_by Sha512 content)).1 refl) refl

own_value : (algorithm : Algorithm) (content : List ℕ) → value_of (digest_dict algorithm content) (key_of algorithm) ≡ Some (member algorithm content).value
unfolding member
own_value Sha256 content = refl
own_value Sha512 content = refl

module _ (algorithm : Algorithm) (content : List ℕ) where
  dict_in_range : is_dict_in_range (digest_dict algorithm content) ≡ true
  unfolding member
  dict_in_range = rw (in_range algorithm content) refl

  alone : dict_text (digest_dict algorithm content) ≡ dict_member_text (member algorithm content)
  unfolding member
  alone = append-nil (dict_member_text (member algorithm content))

  clean : list_all is_line_byte (dict_member_text (member algorithm content)) ≡ true
  clean =
      all_implied is_string_byte is_line_byte (λ c is. line_byte_of is_string_byte c refl refl refl is) (dict_member_text (member algorithm content))
      (ap (λ (t : List ℕ). list_all is_string_byte t) (sym alone) ∙ dict_is (digest_dict algorithm content) dict_in_range)

  line : FieldLine
  line = line_of (codes "Content-Digest") (dict_text (digest_dict algorithm content))

  line_value : value line.raw ≡ dict_text (digest_dict algorithm content)
  unfolding line
  line_value =
      let text = dict_member_text (member algorithm content) in
      let ends = strict_ends (member algorithm content) (in_range algorithm content) in
      ap (λ (t : List ℕ). value (byte " " ∷ t)) alone ∙ (value_after_space text clean (some_bytes algorithm content) ends.0 ends.1 ∙ sym alone)

-- ---- further lines

-- the message has the digest, and its digests are right
abbrev HasAsked : Algorithm → Message → Type 0
HasAsked algorithm message = HasDigestBy message algorithm × HasRightDigests message

module _ (algorithm : Algorithm) (message : Message) where
  -- lines of other names change nothing
  module _ (lines : List FieldLine) (other : is_there lines digest_name ≡ false) where
    text_same : digest_text (with_lines message lines) ≡ digest_text message
    text_same = ap (λ (ts : List (List ℕ)). join_by (λ t. t) (codes ", ") ts) (values_same message.head.lines lines digest_name other)

    has_still : HasAsked algorithm message → HasAsked algorithm (with_lines message lines)
    has_still has =
        let by = has.0.1 in (
          (
            has.0.0,
            record {
              dict = by.dict;
              has = record {
                there = there_same message.head.lines lines digest_name other ∙ by.has.there;
                reads = subst (λ (t : List ℕ). ReadsDict t by.dict) (sym text_same) by.has.reads;
              };
              member_is = by.member_is;
            },
          ),
          subst (λ (t : List ℕ). DigestHolds t (message_content message)) (sym text_same) has.1,
        )

  -- the line of the digest
  with_line : Message
  with_line = with_lines message (line algorithm (message_content message) ∷ [])

  has_by_line : is_there message.head.lines digest_name ≡ false → HasAsked algorithm with_line
  unfolding with_line line
  has_by_line none =
      let content = message_content message in
      let text : digest_text with_line ≡ dict_text (digest_dict algorithm content) =
      combined_first message.head.lines (line algorithm content) digest_name refl none ∙ line_value algorithm content in
      let reads : ReadsDict (digest_text with_line) (digest_dict algorithm content) =
      subst (λ (t : List ℕ). ReadsDict t (digest_dict algorithm content)) (sym text) (dict_text_reads (digest_dict algorithm content) (dict_in_range algorithm content)) in (
        (
          (member algorithm content).value,
          record {
            dict = digest_dict algorithm content;
            has = record { there = there_more message.head.lines (line algorithm content) digest_name refl; reads = reads };
            member_is = own_value algorithm content;
          },
        ),
        record { dict = digest_dict algorithm content; reads = reads; known = known algorithm content; each = agree algorithm content },
      )

  -- ---- a signature

  module _ (spec : SignSpec) (tag : List ℕ) where
    signature_other : is_there (signature_lines spec tag) digest_name ≡ false
    signature_other = refl

    none_added : (o : Option Algorithm) → is_there message.head.lines digest_name ≡ true → digest_lines message o ≡ []
    none_added None there = refl
    none_added (Some a) there = rw there refl

    has_kept : HasAsked algorithm message → HasAsked algorithm (signed_message message spec tag)
    has_kept has =
        let lines : digest_lines message spec.digest ≡ [] = none_added spec.digest has.0.1.has.there in
        subst (λ (ls : List FieldLine). HasAsked algorithm (with_lines message (ls ++ signature_lines spec tag))) (sym lines) (has_still (signature_lines spec tag) signature_other has)

    one_added : (o : Option Algorithm) → o ≡ Some algorithm → is_there message.head.lines digest_name ≡ false → digest_lines message o ≡ line algorithm (message_content message) ∷ []
    unfolding line
    one_added o is none = rw is (rw none refl)

-- the first signature adds the line
has_new : (algorithm : Algorithm) (message : Message) (spec : SignSpec) (tag : List ℕ) → spec.digest ≡ Some algorithm → is_there message.head.lines digest_name ≡ false → HasAsked algorithm (signed_message message spec tag)
unfolding with_line
has_new algorithm message spec tag is none =
    let own = line algorithm (message_content message) in
    let further = signature_lines spec tag in
    let joined : (message.head.lines ++ own ∷ []) ++ further ≡ message.head.lines ++ (digest_lines message spec.digest ++ further) =
    append_assoc message.head.lines (own ∷ []) further ∙ ap (λ (ls : List FieldLine). message.head.lines ++ (ls ++ further)) (sym (one_added algorithm message spec tag spec.digest is none)) in
    subst
    (λ (ls : List FieldLine). HasAsked algorithm (record {
      head = record { start = message.head.start; lines = ls };
      framing = message.framing;
      body = message.body;
    }))
    joined (has_still algorithm (with_line algorithm message) further (signature_other algorithm message spec tag) (has_by_line algorithm message none))

-- ---- each signature

-- those that come after keep the digest
has_each : (algorithm : Algorithm) (context : MessageContext) (specs : List SignSpec) (written : Message) → HasAsked algorithm context.message → IsSignedEach context specs written → HasAsked algorithm written
has_each algorithm context [] written has is = subst (λ (m : Message). HasAsked algorithm m) (sym is) has
has_each algorithm context (spec ∷ specs) written has is =
    let next : HasAsked algorithm is.0 = subst (λ (m : Message). HasAsked algorithm m) (sym is.1.signed.written_is) (has_kept algorithm context.message spec _ has) in
    has_each algorithm (context_with context is.0) specs written next is.2

-- the first adds it, where it isn't there
module _ (algorithm : Algorithm) (context : MessageContext) (met : ¬ HasOtherDigests context.message algorithm) where
  has_first : (spec : SignSpec) (tag : List ℕ) → spec.digest ≡ Some algorithm → HasAsked algorithm (signed_message context.message spec tag)
  has_first spec tag is = elim (digests_decided context.message algorithm) [
    | inl others ↦ absurd (met others)
    | inr rest ↦ elim rest [
      | inl none ↦ elim (cases_Bool (is_there context.message.head.lines digest_name)) [
        | inl there ↦ absurd (none there)
        | inr absent ↦ has_new algorithm context.message spec tag is absent
      ]
      | inr own ↦ has_kept algorithm context.message spec tag own
    ]
  ]

  has_all : (specs : List SignSpec) (written : Message) → All (HasDigest (Some algorithm)) specs → ¬ (specs ≡ []) → IsSignedEach context specs written → HasAsked algorithm written
  has_all [] written are some is = absurd (some refl)
  has_all (spec ∷ specs) written are some is =
      let next : HasAsked algorithm is.0 =
      subst (λ (m : Message). HasAsked algorithm m) (sym is.1.signed.written_is) (has_first spec _ (All-head (HasDigest (Some algorithm)) spec specs are)) in
      has_each algorithm (context_with context is.0) specs written next is.2

-- ---- there is a wish

module _ (conf : Configuration) (now : ℕ) (request : Message) where
  -- nothing comes before a field without a wish
  absent_first : IsWantCause conf request want.Absent → IsWantFault conf request want.Absent
  absent_first holds = record { holds = holds; none_before = λ other lt h. earlier other lt h } where
    earlier : (other : WantFault) → want_order other < 2 → ¬ IsWantCause conf request other
    earlier want.Memory lt h = h
    earlier want.Absent lt h = absurd (omega (arith, lt))
    earlier want.Malformed lt h = absurd (omega (arith, lt))
    earlier (want.NotInnerList i) lt h = absurd (omega (arith, lt))
    earlier (want.Ids i f) lt h = absurd (omega (arith, lt))
    earlier (want.Parameter i) lt h = absurd (omega (arith, lt))
    earlier (want.AlgRefused i) lt h = absurd (omega (arith, lt))
    earlier (want.AlgUnknown i) lt h = absurd (omega (arith, lt))
    earlier (want.KeyUnknown i) lt h = absurd (omega (arith, lt))

  some_wished : ((fault : WantFault) → ¬ IsWantFault conf request fault) → (wished : List SignSpec) → AreWished conf now request wished → ¬ (wished ≡ [])
  some_wished none wished are empty = by_wishes are.0 are.1 (subst (λ (ss : List SignSpec). MeetWishes conf now are.0 ss) empty are.2) where
    by_wishes : (wishes : List (Pair Member)) → HasDict request wish_name wishes → MeetWishes conf now wishes [] → ⊥
    by_wishes [] has met = none want.Absent (absent_first (inr has))
    by_wishes (wish ∷ wishes) has met = met

some_asked : (digest : Option Algorithm) (specs : List SignSpec) → ¬ (specs ≡ []) → ¬ (map (with_digest_by digest) specs ≡ [])
some_asked digest [] some = λ _. some refl
some_asked digest (spec ∷ specs) some = λ none. absurd (cc none)

module _ (conf : Configuration) (now : ℕ) (request : Message) (algorithm : Algorithm) (chosen : IsChosen request algorithm) where
  -- each has the digest that is asked for
  all_asked : (specs : List SignSpec) → AreNegotiated conf now request specs → All (HasDigest (Some algorithm)) specs
  all_asked specs are =
      let digest = one_wished_digest request are.digest (Some algorithm) are.digest_is chosen in
      subst (λ (ss : List SignSpec). All (HasDigest (Some algorithm)) ss) (sym are.specs_are)
      (subst (λ (o : Option Algorithm). All (HasDigest (Some algorithm)) (map (with_digest_by o) are.wished)) (sym digest) (asked_digest algorithm are.wished))

-- and there is one
some_specs : (conf : Configuration) (now : ℕ) (request : Message) (specs : List SignSpec) (are : AreNegotiated conf now request specs) → ((fault : WantFault) → ¬ IsWantFault conf request fault) → ¬ (specs ≡ [])
some_specs conf now request specs are none empty = some_asked are.digest are.wished (some_wished conf now request none are.wished are.are) (sym are.specs_are ∙ empty)

pub chosen_digest : HasDigestWhereChosen
chosen_digest conf now context written request algorithm is none related chosen =
    let is_related = is.request_is in
    let same : is.request ≡ request = cc (is_related, related) in
    let are : AreNegotiated conf now request is.specs = subst (λ (r : Message). AreNegotiated conf now r is.specs) same is.specs_are in
    has_all algorithm context (λ others. digest_met conf now context request related none (algorithm, chosen, others)) is.specs written (all_asked conf now request algorithm chosen is.specs are)
    (some_specs conf now request is.specs are (wishes_met conf now context request related none)) is.signed
