-- Messages with another request target: one, or none; sound where the line has room; of the same content.
use Rattle.std.proofs.Common.{◌≡◌, ◌⊎◌, ◌+◌, ℕ, Bool, true, List, [], ◌∷◌, ◌++◌, length, refl, sym, subst, ap, ◌∙◌, inl, inr, append_assoc, arith}
use Rattle.std.specs.Prelude.{codes, nat_lt}
use Rattle.std.specs.List.{flat_map, list_all}
use Rattle.std.proofs.lemmas.Bool.{and_from, and_parts, cases_lt, false≢true, lt-ltb}
use Rattle.byte_grammar.specs.Classes.{is_visible}
use Rattle.byte_grammar.proofs.ListLaws.{all_joined}
use Rattle.msg_head.specs.declared.limits.TheConstants.{MAX_HEAD_BYTES}
use Rattle.msg_head.specs.Lines.{line_text}
use Rattle.msg_head.specs.Starts.{IsRequestLine, IsStartLine, RequestLine, StartLine, is_target, request, request_text, start_text}
use Rattle.msg_body.specs.Bodies.{body_text}
use Rattle.msg_body.specs.Messages.{IsMessage, Message, message_text}
use Rattle.msg_body.specs.Views.{message_content}
use Rattle.derived_values.specs.Targets.{SpellsTarget, TargetParts}
use Rattle.derived_values.proofs.StartTargets.{is_one_request, is_request_or_not}
use Rattle.component_values.specs.Context.{MessageContext, answers_head}
use Rattle.line_rewrites.specs.Sound.{Fits, IsSoundMessage}
use Rattle.line_rewrites.specs.Steps.{with_head}
use Rattle.line_rewrites.proofs.StartTexts.{start_fits}
use Rattle.line_rewrites.proofs.Texts.{sound_where_read}
use Rattle.whole_rewrites.specs.Targets.{HasTarget, ChangesTarget, with_target}

-- the message with this target in the line
abbrev pub retargeted : MessageContext → RequestLine → List ℕ → Message
retargeted context line target =
    with_head (answers_head context.related) context.message (record { start = request (with_target line target); lines = context.message.head.lines })

-- ---- any change of the target

-- a change gives at most one target
abbrev pub GivesOneTarget : (RequestLine → TargetParts → List ℕ → Type 0) → Type 0
GivesOneTarget Change = (line : RequestLine) (parts : TargetParts) (one other : List ℕ) → SpellsTarget line.method line.target parts → Change line parts one → Change line parts other → one ≡ other

pub changes_one : (context : MessageContext) (Change : RequestLine → TargetParts → List ℕ → Type 0) → GivesOneTarget Change
    → (one other : Message) → ChangesTarget context Change one → ChangesTarget context Change other → one ≡ other
changes_one context Change gives one other a b =
    let same = is_one_request context.message.head.start a.line b.line a.parts b.parts a.has b.has in
    let change = subst (λ (p : RequestLine × TargetParts). Change p.0 p.1 b.target) (λ i. (sym same.0 i, sym same.1 i)) b.change in
    let targets = gives a.line a.parts a.target b.target a.has.spells a.change change in
    a.made_is ∙ ((λ i. retargeted context (same.0 i) (targets i)) ∙ sym b.made_is)

pub changes_none : (context : MessageContext) (Change : RequestLine → TargetParts → List ℕ → Type 0) (line : RequestLine) (parts : TargetParts) → HasTarget context.message line parts
    → ((target : List ℕ) → ¬ Change line parts target) → (made : Message) → ¬ ChangesTarget context Change made
changes_none context Change line parts has fails made is =
    let same = is_one_request context.message.head.start is.line line is.parts parts is.has has in
    fails is.target (subst (λ (p : RequestLine × TargetParts). Change p.0 p.1 is.target) (λ i. (same.0 i, same.1 i)) is.change)

pub changes_or_none : (context : MessageContext) (Change : RequestLine → TargetParts → List ℕ → Type 0)
    → ((line : RequestLine) (parts : TargetParts) → HasTarget context.message line parts → ((target : List ℕ) × Change line parts target) ⊎ ((target : List ℕ) → ¬ Change line parts target))
    → ((made : Message) × ChangesTarget context Change made) ⊎ ((made : Message) → ¬ ChangesTarget context Change made)
changes_or_none context Change decided = elim (is_request_or_not context.message.head.start) [
  | inr none ↦ inr (λ made is. none is.line is.parts is.has)
  | inl (line, parts, has) ↦ elim (decided line parts has) [
    | inl (target, change) ↦ inl (retargeted context line target, record { line = line; parts = parts; has = has; target = target; change = change; made_is = refl })
    | inr fails ↦ inr (changes_none context Change line parts has fails)
  ]
]

pub changes_content : (context : MessageContext) (Change : RequestLine → TargetParts → List ℕ → Type 0) (made : Message) → ChangesTarget context Change made
    → message_content made ≡ message_content context.message
changes_content context Change made is = ap message_content is.made_is

-- ---- what is sound

pub line_is : (message : Message) (to_head : Bool) (line : RequestLine) → message.head.start ≡ request line → IsMessage to_head message → IsRequestLine line
line_is message to_head line start is = subst IsStartLine start is.head.start

pub sound_where_fits : (context : MessageContext) (line : RequestLine) (target : List ℕ) → context.message.head.start ≡ request line → IsMessage (answers_head context.related) context.message
    → is_target target ≡ true → Fits (request (with_target line target)) → IsSoundMessage (answers_head context.related) (retargeted context line target)
sound_where_fits context line target start is some fits =
    let old = line_is context.message (answers_head context.related) line start is in record {
      start = record { method = old.method; target = some; version = old.version };
      fits = fits;
      lines = is.head.lines;
      framing = refl;
      body = (sound_where_read (answers_head context.related) context.message is).body;
    }

-- a line that has no room is that of no message
pub no_message : (context : MessageContext) (line : RequestLine) (target : List ℕ) (made : Message) → (¬ Fits (request (with_target line target))) → made ≡ retargeted context line target
    → ¬ IsMessage (answers_head context.related) made
no_message context line target made long same is =
    long (subst (λ (m : Message). Fits m.head.start) same (start_fits made.head is.head))

pub changes_sound : (context : MessageContext) (Change : RequestLine → TargetParts → List ℕ → Type 0)
    → ((line : RequestLine) (parts : TargetParts) (target : List ℕ) → SpellsTarget line.method line.target parts → is_target line.target ≡ true → Change line parts target → is_target target ≡ true)
    → IsMessage (answers_head context.related) context.message → (made : Message) → ChangesTarget context Change made
    → IsSoundMessage (answers_head context.related) made ⊎ (¬ IsMessage (answers_head context.related) made)
changes_sound context Change visible is made change =
    let line = change.line in
    let target = change.target in
    let old = line_is context.message (answers_head context.related) line change.has.start_is is in
    let some = visible line change.parts target change.has.spells old.target change.change in elim (cases_lt MAX_HEAD_BYTES (length (start_text (request (with_target line target))) + 2)) [
      | inl long ↦ inr (no_message context line target made (λ fits. omega (arith, long, fits)) change.made_is)
      | inr fits ↦ inl (subst (IsSoundMessage (answers_head context.related)) (sym change.made_is) (sound_where_fits context line target change.has.start_is is some fits))
    ]

-- ---- the bytes of targets

pub some_target : (c : ℕ) (rest : List ℕ) → list_all is_visible (c ∷ rest) ≡ true → is_target (c ∷ rest) ≡ true
some_target c rest all = and_from (nat_lt 0 (length (c ∷ rest))) (list_all is_visible (c ∷ rest)) (lt-ltb 0 (length (c ∷ rest)) (omega arith)) all

pub goes_on : (first rest : List ℕ) → is_target first ≡ true → list_all is_visible rest ≡ true → is_target (first ++ rest) ≡ true
goes_on [] rest some all = absurd (false≢true some)
goes_on (c ∷ cs) rest some all =
    some_target c (cs ++ rest) (all_joined is_visible (c ∷ cs) rest (and_parts (nat_lt 0 (length (c ∷ cs))) (list_all is_visible (c ∷ cs)) some).1 all)

-- ---- the bytes after the line

-- what comes after the start line
abbrev pub after_line : Message → List ℕ
after_line message = (flat_map line_text message.head.lines ++ codes "\r\n") ++ body_text message.body

pub line_first : (message : Message) (line : RequestLine) → message.head.start ≡ request line → message_text message ≡ request_text line ++ after_line message
line_first message line start =
    append_assoc (start_text message.head.start) (flat_map line_text message.head.lines ++ codes "\r\n") (body_text message.body)
    ∙ ap (λ (s : StartLine). start_text s ++ after_line message) start

pub new_line_first : (context : MessageContext) (line : RequestLine) (target : List ℕ) → message_text (retargeted context line target) ≡ request_text (with_target line target) ++ after_line context.message
new_line_first context line target = line_first (retargeted context line target) (with_target line target) refl
