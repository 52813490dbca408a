-- Bytes begin with at most one message.
use Rattle.std.proofs.Common.{◌≡◌, ◌≢◌, ◌⊎◌, ℕ, ◌+◌, ◌-◌, ◌≤◌, Bool, IsTrue, List, length, take, drop, refl, sym, subst, ap, ◌∙◌, inl, inr, arith}
use Rattle.std.proofs.lemmas.Bool.{false≢true}
use Rattle.std.proofs.lemmas.List.{take-take, take_all, length-take-le, length-drop}
use Rattle.msg_head.specs.Heads.{Head, SpellsHead, IsUnfinished, head_text}
use Rattle.msg_head.specs.Causes.{IsHeadError}
use Rattle.msg_head.proofs.OneHeads.{one_head_law}
use Rattle.framing.specs.declared.kind.Framing.{Framing}
use Rattle.framing.specs.declared.kind.Framing.TheVariants.{None, Length, Chunked, ToEnd}
use Rattle.framing.specs.Framings.{IsFramable, framing_of, content_length_of}
use Rattle.framing.proofs.FramingLaws.{one_framing_error, no_error_where_framable}
use Rattle.msg_body.specs.declared.expect.Expect.{Expect}
use Rattle.msg_body.specs.declared.expect.Expect.TheVariants.{Any}
use Rattle.msg_body.specs.declared.error.MessageError.{MessageError}
use Rattle.msg_body.specs.Bodies.{Body, IsBodyOf, body_text}
use Rattle.msg_body.specs.Messages.{Message, Spells, SpellsMessage, is_expected}
use Rattle.msg_body.specs.Errors.{error_of, framing_error}
use Rattle.msg_body.specs.Causes.{IsErrorAfterHead, IsBodyError, IsBodyUnfinished, IsMessageError, IsMessageUnfinished}
use Rattle.msg_body.specs.Laws.{OneMessage, NoMessageInPrefix, OneMessageAt, OneMessageFault, NoFaultAtMessage, NoMessageAnswerYet}
use Rattle.msg_body.specs.tools.Decided.{IsDecided, IsFaultAs, AreParts}
use Rattle.msg_body.specs.tools.Judged.{SpellsBody}
use Rattle.msg_body.proofs.Decided.{renamed, then_decided, as_whole}
use Rattle.msg_body.proofs.Joins.{parted}
use Rattle.msg_body.proofs.Lower.{head_decided}
use Rattle.msg_body.proofs.OneBodies.{body_decided}

-- ---- after a head

-- the head is of the expected kind and framed, and such a body comes next
abbrev pub NextBody : Expect → Bool → Head → ℕ → List ℕ → Body → ℕ → Type 0
NextBody expect to_head head start rest body n =
    IsTrue (is_expected expect head.start) × IsFramable head
    × SpellsBody (framing_of to_head head) (content_length_of head) body n rest

-- bytes of it are missing
abbrev pub NextIsOpen : Expect → Bool → Head → ℕ → List ℕ → Type 0
NextIsOpen expect to_head head start rest =
    IsTrue (is_expected expect head.start) × IsFramable head
    × IsBodyUnfinished (framing_of to_head head) (content_length_of head) rest

after_head_decided : (expect : Expect) (to_head : Bool) (head : Head) (start : ℕ) (rest : List ℕ)
    → IsDecided (NextBody expect to_head head start rest) (λ fault. IsErrorAfterHead expect to_head fault head start rest) (NextIsOpen expect to_head head start rest)
after_head_decided expect to_head head start rest = record {
  one = λ body other n m a b. bodies.one body other n m a.2 b.2;
  one_fault = one_fault;
  no_fault = no_fault;
  open_fault = open_fault;
  open_part = λ body n more a. bodies.open_part body n more.2 a.2;
}
  where
    bodies : IsDecided (λ body n. SpellsBody (framing_of to_head head) (content_length_of head) body n rest) (λ fault. IsBodyError (framing_of to_head head) (content_length_of head) start fault rest) (IsBodyUnfinished (framing_of to_head head) (content_length_of head) rest)
    bodies = body_decided (framing_of to_head head) (content_length_of head) start rest

    one_fault : (f g : MessageError) → IsErrorAfterHead expect to_head f head start rest → IsErrorAfterHead expect to_head g head start rest → f ≡ g
    one_fault f g (inl a) (inl b) = a.1 ∙ sym b.1
    one_fault f g (inl a) (inr b) = absurd (false≢true (sym a.0 ∙ b.0))
    one_fault f g (inr a) (inl b) = absurd (false≢true (sym b.0 ∙ a.0))
    one_fault f g (inr (expected, inl a)) (inr (_, inl b)) =
        a.2 ∙ ap framing_error (one_framing_error head a.0 b.0 a.1 b.1) ∙ sym b.2
    one_fault f g (inr (expected, inl a)) (inr (_, inr b)) = absurd (no_error_where_framable head a.0 b.0 a.1)
    one_fault f g (inr (expected, inr a)) (inr (_, inl b)) = absurd (no_error_where_framable head b.0 a.0 b.1)
    one_fault f g (inr (expected, inr a)) (inr (_, inr b)) = bodies.one_fault f g a.1 b.1

    no_fault : (body : Body) (n : ℕ) (f : MessageError) → NextBody expect to_head head start rest body n → ¬ IsErrorAfterHead expect to_head f head start rest
    no_fault body n f a (inl b) = false≢true (sym b.0 ∙ a.0)
    no_fault body n f a (inr (expected, inl b)) = no_error_where_framable head b.0 a.1 b.1
    no_fault body n f a (inr (expected, inr b)) = bodies.no_fault body n f a.2 b.1

    open_fault : (f : MessageError) → NextIsOpen expect to_head head start rest → ¬ IsErrorAfterHead expect to_head f head start rest
    open_fault f a (inl b) = false≢true (sym b.0 ∙ a.0)
    open_fault f a (inr (expected, inl b)) = no_error_where_framable head b.0 a.1 b.1
    open_fault f a (inr (expected, inr b)) = bodies.open_fault f a.2 b.1

-- ---- the parts of a message

abbrev pub message_by : Bool → Head × Body → Message
message_by to_head parts = record {
  head = parts.0;
  framing = framing_of to_head parts.0;
  body = parts.1;
}

-- a message of the expected kind, of that length
abbrev pub IsOfKind : Expect → Bool → List ℕ → Message → ℕ → Type 0
IsOfKind expect to_head bytes message n =
    SpellsMessage to_head message n bytes × IsTrue (is_expected expect message.head.start)

rest_of_all : (n hu rest total left : ℕ) → n ≡ hu + rest → n ≡ total → left ≡ total - hu → rest ≡ left
rest_of_all n hu rest total left a b c = omega (arith, a, b, c)

pub message_parts : (expect : Expect) (to_head : Bool) (bytes : List ℕ) (message : Message) (n : ℕ) → IsOfKind expect to_head bytes message n
    → (parts : Head × Body) × AreParts SpellsHead (NextBody expect to_head) bytes parts n × (message ≡ message_by to_head parts)
message_parts expect to_head bytes message n of_kind =
    let s = of_kind.0 in
    let is = s.spells.is in
    let at = parted bytes (head_text message.head) (body_text message.body) n s.within s.spells.text in
    let framing = is.framing in (
      (message.head, message.body),
      record {
        count = length (head_text message.head);
        rest = at.rest;
        first = record { within = at.within; spells = record { is = is.head; text = at.first_is } };
        second = (
          of_kind.1,
          is.framable,
          record {
            within = at.rest_within;
            is = subst (λ f. IsBodyOf f (content_length_of message.head) message.body) framing is.body;
            content = is.content;
            text = at.second_is;
            all = λ e. rest_of_all n (length (head_text message.head)) at.rest (length bytes) (length (drop (length (head_text message.head)) bytes)) at.used_is (s.all (framing ∙ e)) (length-drop (length (head_text message.head)) bytes);
          },
        );
        used_is = at.used_is;
      },
      λ i. record { head = message.head; framing = framing i; body = message.body },
    )

pub message_decided : (expect : Expect) (to_head : Bool) (bytes : List ℕ) → IsDecided (IsOfKind expect to_head bytes) (IsMessageError expect to_head bytes) (IsMessageUnfinished expect to_head bytes)
message_decided expect to_head bytes =
    as_whole (message_by to_head) (AreParts SpellsHead (NextBody expect to_head) bytes) (IsOfKind expect to_head bytes) (IsMessageError expect to_head bytes) (IsMessageUnfinished expect to_head bytes)
    (then_decided SpellsHead (IsFaultAs error_of (IsHeadError bytes)) (IsUnfinished bytes)
    (NextBody expect to_head) (λ head start rest fault. IsErrorAfterHead expect to_head fault head start rest) (NextIsOpen expect to_head) bytes
    (renamed error_of (λ head n. SpellsHead head n bytes) (IsHeadError bytes) (IsUnfinished bytes) (head_decided bytes))
    (λ head start is. after_head_decided expect to_head head start (drop start bytes)))
    (message_parts expect to_head bytes)

-- ---- the laws

pub one_message_at_law : OneMessageAt
one_message_at_law to_head bytes one other n m a b = (message_decided Any to_head bytes).one one other n m (a, refl) (b, refl)

pub one_message_fault_law : OneMessageFault
one_message_fault_law expect to_head bytes fault other = (message_decided expect to_head bytes).one_fault fault other

pub no_fault_at_message_law : NoFaultAtMessage
no_fault_at_message_law expect to_head bytes message used fault s expected = (message_decided expect to_head bytes).no_fault message used fault (s, expected)

pub no_message_answer_yet_law : NoMessageAnswerYet
no_message_answer_yet_law expect to_head bytes more = (
  (λ fault. (message_decided expect to_head bytes).open_fault fault more),
  (λ message used expected s. (message_decided expect to_head bytes).open_part message used more (s, expected)),
)

-- a text is the first bytes of itself
pub spells_all : (to_head : Bool) (bytes : List ℕ) (message : Message) → Spells to_head message bytes → SpellsMessage to_head message (length bytes) bytes
spells_all to_head bytes message s = record {
  within = omega arith;
  spells = subst (Spells to_head message) (sym (take_all (length bytes) bytes (omega arith))) s;
  all = λ e. refl;
}

pub one_message_law : OneMessage
one_message_law to_head bytes one other a b = (one_message_at_law to_head bytes one other (length bytes) (length bytes) (spells_all to_head bytes one a) (spells_all to_head bytes other b)).0

to_end_or_not : (framing : Framing) → (framing ≡ ToEnd) ⊎ (framing ≢ ToEnd)
to_end_or_not None = inr (λ e. cc)
to_end_or_not Length = inr (λ e. cc)
to_end_or_not Chunked = inr (λ e. cc)
to_end_or_not ToEnd = inl refl

-- the head that a message's bytes begin with
head_at : (to_head : Bool) (bytes : List ℕ) (message : Message) (n : ℕ) → SpellsMessage to_head message n bytes → (used : ℕ) × (used ≤ n) × SpellsHead message.head used bytes
head_at to_head bytes message n s =
    let made = message_parts Any to_head bytes message n (s, refl) in
    let same : message.head ≡ made.0.0 = ap (λ m. m.head) made.2 in
    (made.1.count, omega (arith, made.1.used_is), subst (λ h. SpellsHead h made.1.count bytes) (sym same) made.1.first)

head_of_longer : (bytes : List ℕ) (head : Head) (n used : ℕ) → n ≤ length bytes → used ≤ n → SpellsHead head used (take n bytes) → SpellsHead head used bytes
head_of_longer bytes head n used within low s = record {
  within = omega (arith, within, low);
  spells = rw (sym (take-take used n bytes low)) s.spells;
}

pub no_message_in_prefix_law : NoMessageInPrefix
no_message_in_prefix_law to_head bytes one other n a less b = elim (to_end_or_not other.framing) [
  | inr ends ↦ absurd (apart ends)
  | inl to_end ↦ (same_framing ∙ to_end, to_end)
]
  where
    apart : other.framing ≢ ToEnd → ⊥
    apart ends =
        let short : SpellsMessage to_head other n bytes = record { within = omega (arith, less); spells = b; all = λ e. absurd (ends e) } in
        let same = (one_message_at_law to_head bytes one other (length bytes) n (spells_all to_head bytes one a) short).1 in
        omega (arith, same, less)

    same_framing : one.framing ≡ other.framing
    same_framing =
        let first = head_at to_head bytes one (length bytes) (spells_all to_head bytes one a) in
        let second = head_at to_head (take n bytes) other (length (take n bytes)) (spells_all to_head (take n bytes) other b) in
        let low : second.0 ≤ n = omega (arith, second.1, length-take-le n bytes (omega (arith, less))) in
        let longer = head_of_longer bytes other.head n second.0 (omega (arith, less)) low second.2 in
        let heads = (one_head_law bytes one.head other.head first.0 second.0 first.2 longer).0 in
        a.is.framing ∙ ap (framing_of to_head) heads ∙ sym b.is.framing
