-- A message is turned into one list, or has one fault.
use Rattle.std.proofs.Common.{cond, eqb, ◌≡◌, ◌≢◌, ◌⊎◌, inl, inr, ℕ, ◌<◌, Bool, true, false, List, ◌++◌, length, Some, Result, Ok, Err, refl, sym, ap, subst, ◌∙◌, arith, codes}
use Rattle.std.specs.Prelude.{MatchResult}
use Rattle.byte_grammar.specs.Causes.{AnswersWhere}
use Rattle.byte_grammar.specs.tools.Determined.{AreDetermined}
use Rattle.byte_grammar.proofs.AnswerLaws.{IsMemoryDecided, NamesFault, memory_if, answers_where}
use Rattle.byte_grammar.proofs.CauseLaws.{first_is_one}
use Rattle.msg_head.specs.Starts as start
use Rattle.msg_head.specs.Starts.{RequestLine, StartLine}
use Rattle.derived_values.specs.Authorities.{IsAuthorityValue}
use Rattle.derived_values.specs.Targets.{TargetParts, SpellsTarget, has_path, path_of, query_text}
use Rattle.derived_values.proofs.Decided.{target_is_decided, authority_is_decided}
use Rattle.derived_values.proofs.TargetParts.{one_target}
use Rattle.derived_values.specs.declared.lack.Lack.{Lack}
use Rattle.derived_values.specs.declared.lack.Lack.TheVariants.{Underivable}
use Rattle.derived_values.specs.Derived.{AuthorityRow, TargetAuthorityRow, named_authority, scheme_of}
use Rattle.component_values.specs.Context.{MessageContext}
use Rattle.list_texts.specs.declared.list.FieldList.{FieldList}
use Rattle.field_lists.specs.declared.from_fault.FromFault.{FromFault}
use Rattle.field_lists.specs.declared.from_fault.FromFault.TheVariants.{Memory, NoForm, NoAuthority}
use Rattle.field_lists.specs.Controls.{Control, RequestControl, request, response}
use Rattle.field_lists.specs.FromCauses.{HasNoForm, LacksAuthority, IsFromCause, IsFromFault, from_order}
use Rattle.field_lists.specs.FromMessages.{IsControlOf, IsRequestOf, TurnsIntoList, list_with, request_parts}
use Rattle.field_lists.specs.Laws.{HasListOrFromFault, OneListOfMessage, OneFromFault, NoFromFaultOfList}
use Rattle.field_lists.specs.tools.FromViews.{GivesList, LacksInTarget}

-- ---- control data

pub some_is : (one other : List ℕ) → Some one ≡ Some other → one ≡ other
some_is one other e = cc

ok_is : (one other : List ℕ) → ◌≡◌ {A = Result (List ℕ) Lack} (Ok one) (Ok other) → one ≡ other
ok_is one other e = cc

-- a request line has one control data
one_request : (context : MessageContext) (line : RequestLine) (a b : RequestControl) → IsRequestOf context line a → IsRequestOf context line b → a ≡ b
one_request context line a b x y =
    let parts = request_parts context line in
    let target : x.target ≡ y.target = one_target line.method line.target x.target y.target x.spells y.spells in
    let method : a.method ≡ b.method = x.method ∙ sym y.method in
    let scheme : a.scheme ≡ b.scheme = x.scheme ∙ ap (λ (t : TargetParts). scheme_of parts t) target ∙ sym y.scheme in
    let authority : a.authority ≡ b.authority = ok_is a.authority b.authority (sym x.named ∙ ap (λ (t : TargetParts). named_authority parts t.authority) target ∙ y.named) in
    let path : x.path ≡ y.path = some_is x.path y.path (sym x.path_is ∙ ap path_of target ∙ y.path_is) in
    let joined : a.path ≡ b.path = x.joined ∙ (λ i. path i ++ query_text (target i).query) ∙ sym y.joined in
    λ i. record { method = method i; scheme = scheme i; authority = authority i; path = joined i }

pub one_control : (context : MessageContext) (line : StartLine) (a b : Control) → IsControlOf context line a → IsControlOf context line b → a ≡ b
one_control context (start.request line) (request a) (request b) x y = ap request (one_request context line a b x y)
one_control context (start.request line) (response a) b x y = absurd x
one_control context (start.request line) (request a) (response b) x y = absurd y
one_control context (start.status line) (response a) (response b) x y = ap response (x ∙ sym y)
one_control context (start.status line) (request a) b x y = absurd x
one_control context (start.status line) (response a) (request b) x y = absurd y

pub one_list_of_message : OneListOfMessage
one_list_of_message context list other a b =
    a.is
    ∙ ap (λ (control : Control). list_with control context.message) (one_control context context.message.head.start a.control b.control a.is_of b.is_of)
    ∙ sym b.is

-- ---- what a request line gives

-- a target with this form has a path
path_there : (target : TargetParts) → has_path target.form ≡ true → (path : List ℕ) × (path_of target ≡ Some path)
path_there target has = (cond (eqb (length target.path) 0) (codes "/") target.path, rw has refl)

pub no_path : (target : TargetParts) (path : List ℕ) → has_path target.form ≡ false → path_of target ≡ Some path → ⊥
no_path target path has is = let none = rw has at is in absurd cc

not_true : (b : Bool) → b ≡ true → b ≡ false → ⊥
not_true b holds fails = absurd (cc (holds, fails))

-- an authority has a value or lacks one, not both
one_way : (scheme : List ℕ) (named : Result (List ℕ) Lack) (value : List ℕ) (lack : Lack) → AuthorityRow scheme named (Ok value) → AuthorityRow scheme named (Err lack) → ⊥
one_way scheme (Err given) value lack has lacks = absurd (cc has)
one_way scheme (Ok text) value lack has lacks = lacks.1 value has

-- why a request line gives no control data
abbrev pub Fails : MessageContext → RequestLine → Type 0
Fails context line = HasNoForm line ⊎ LacksInTarget context line

-- the target has a path, and its authority is judged
by_authority : (context : MessageContext) (line : RequestLine) (target : TargetParts) → SpellsTarget line.method line.target target → has_path target.form ≡ true → ((control : RequestControl) × IsRequestOf context line control) ⊎ Fails context line
by_authority context line target spells form = go (named_authority (request_parts context line) target.authority) refl
  where
    lacks : (lack : Lack) (named : Result (List ℕ) Lack) → named_authority (request_parts context line) target.authority ≡ named → AuthorityRow (scheme_of (request_parts context line) target) named (Err lack) → LacksInTarget context line
    lacks lack named e row = record {
      target = target;
      spells = spells;
      form = form;
      lack = lack;
      row = subst (λ (named : Result (List ℕ) Lack). AuthorityRow (scheme_of (request_parts context line) target) named (Err lack)) (sym e) row;
    }

    has : (text value : List ℕ) → named_authority (request_parts context line) target.authority ≡ Ok text → IsAuthorityValue (scheme_of (request_parts context line) target) text value → (control : RequestControl) × IsRequestOf context line control
    has text value e is =
        let path = path_there target form in (
          record { method = line.method; scheme = scheme_of (request_parts context line) target; authority = text; path = path.0 ++ query_text target.query },
          record {
            target = target;
            spells = spells;
            path = path.0;
            path_is = path.1;
            named = e;
            authority_value = value;
            has_authority = subst (λ (named : Result (List ℕ) Lack). AuthorityRow (scheme_of (request_parts context line) target) named (Ok value)) (sym e) is;
            method = refl;
            scheme = refl;
            joined = refl;
          },
        )

    go : (named : Result (List ℕ) Lack) → named_authority (request_parts context line) target.authority ≡ named → ((control : RequestControl) × IsRequestOf context line control) ⊎ Fails context line
    go (Err lack) e = inr (inr (lacks lack (Err lack) e refl))
    go (Ok text) e = elim (authority_is_decided (scheme_of (request_parts context line) target) text) [
      | inl is ↦ inl (has text is.0 e is.1)
      | inr none ↦ inr (inr (lacks Underivable (Ok text) e (refl, none)))
    ]

-- the target is in no form that has a path
pub no_form : (line : RequestLine) (target : TargetParts) → SpellsTarget line.method line.target target → has_path target.form ≡ false → HasNoForm line
no_form line target spells form other is = subst (λ (t : TargetParts). has_path t.form ≡ false) (one_target line.method line.target target other spells is) form

pub no_target : (line : RequestLine) → ((target : TargetParts) → ¬ SpellsTarget line.method line.target target) → HasNoForm line
no_target line none other is = absurd (none other is)

request_or_not : (context : MessageContext) (line : RequestLine) → ((control : RequestControl) × IsRequestOf context line control) ⊎ Fails context line
request_or_not context line = elim (target_is_decided line.method line.target) [
  | inr none ↦ inr (inl (no_target line none))
  | inl is ↦ go is.0 is.1 (has_path is.0.form) refl
]
  where
    go : (target : TargetParts) → SpellsTarget line.method line.target target → (has : Bool) → has_path target.form ≡ has → ((control : RequestControl) × IsRequestOf context line control) ⊎ Fails context line
    go target spells true form = by_authority context line target spells form
    go target spells false form = inr (inl (no_form line target spells form))

-- ---- faults

line_is : (one other : RequestLine) → start.request one ≡ start.request other → one ≡ other
line_is one other e = cc

-- where the target is in no form there is no other cause before
pub fault_of_form : (context : MessageContext) (line : RequestLine) → context.message.head.start ≡ start.request line → HasNoForm line → IsFromFault context NoForm
fault_of_form context line is none = record { holds = (line, is, none); none_before = before }
  where
    before : (other : FromFault) → from_order other < 1 → IsFromCause context other → ⊥
    before Memory less h = h
    before NoForm less h = absurd (omega (arith, less))
    before NoAuthority less h = absurd (omega (arith, less))

pub fault_of_authority : (context : MessageContext) (line : RequestLine) → context.message.head.start ≡ start.request line → LacksInTarget context line → IsFromFault context NoAuthority
fault_of_authority context line is lacks = record { holds = (line, is, (lacks.lack, inl (lacks.target, lacks.spells, lacks.row))); none_before = before }
  where
    before : (other : FromFault) → from_order other < 2 → IsFromCause context other → ⊥
    before Memory less h = h
    before NoForm less h =
        let same : h.0 ≡ line = line_is h.0 line (sym h.1 ∙ is) in
        let none : HasNoForm line = subst HasNoForm same h.2 in
        not_true (has_path lacks.target.form) lacks.form (none lacks.target lacks.spells)
    before NoAuthority less h = absurd (omega (arith, less))

fault_of : (context : MessageContext) (line : RequestLine) → context.message.head.start ≡ start.request line → Fails context line → (fault : FromFault) × IsFromFault context fault
fault_of context line is (inl none) = (NoForm, fault_of_form context line is none)
fault_of context line is (inr lacks) = (NoAuthority, fault_of_authority context line is lacks)

-- ---- a message is turned into a list, or has a fault

list_for : (context : MessageContext) (control : Control) → IsControlOf context context.message.head.start control → (list : FieldList) × TurnsIntoList context list
list_for context control is = (list_with control context.message, record { control = control; is_of = is; is = refl })

pub has_list_or_from_fault : HasListOrFromFault
has_list_or_from_fault context = go context.message.head.start refl
  where
    given : (line : StartLine) (control : Control) → context.message.head.start ≡ line → IsControlOf context line control → (list : FieldList) × TurnsIntoList context list
    given line control e is = list_for context control (subst (λ (line : StartLine). IsControlOf context line control) (sym e) is)

    go : (line : StartLine) → context.message.head.start ≡ line → ((list : FieldList) × TurnsIntoList context list) ⊎ ((fault : FromFault) × IsFromFault context fault)
    go (start.status line) e = inl (given (start.status line) (response line.code) e refl)
    go (start.request line) e = elim (request_or_not context line) [
      | inl is ↦ inl (given (start.request line) (request is.0) e is.1)
      | inr fails ↦ inr (fault_of context line e fails)
    ]

-- ---- a list, or one fault

no_lack : (context : MessageContext) (line : RequestLine) (control : RequestControl) → IsRequestOf context line control → LacksAuthority context line → ⊥
no_lack context line control is (lack, inr none) = none.0 is.target is.spells
no_lack context line control is (lack, inl row) =
    let parts = request_parts context line in
    let target : row.0 ≡ is.target = one_target line.method line.target row.0 is.target row.1 is.spells in
    one_way (scheme_of parts is.target) (named_authority parts is.target.authority) is.authority_value lack is.has_authority (subst (λ (t : TargetParts). TargetAuthorityRow parts t (Err lack)) target row.2)

-- the control data of a request line
of_request : (context : MessageContext) (line : RequestLine) (control : Control) → IsControlOf context (start.request line) control → (given : RequestControl) × IsRequestOf context line given
of_request context line (request control) is = (control, is)
of_request context line (response code) is = absurd is

pub no_from_fault : NoFromFaultOfList
no_from_fault context list Memory turns f = f.holds
no_from_fault context list NoForm turns f =
    let given = of_request context f.holds.0 turns.control (subst (λ (line : StartLine). IsControlOf context line turns.control) f.holds.1 turns.is_of) in
    no_path given.1.target given.1.path (f.holds.2 given.1.target given.1.spells) given.1.path_is
no_from_fault context list NoAuthority turns f =
    let given = of_request context f.holds.0 turns.control (subst (λ (line : StartLine). IsControlOf context line turns.control) f.holds.1 turns.is_of) in
    no_lack context f.holds.0 given.0 given.1 f.holds.2

same_order : (context : MessageContext) → AreDetermined from_order (IsFromCause context)
same_order context Memory other same one two = absurd one
same_order context NoForm Memory same one two = absurd two
same_order context NoAuthority Memory same one two = absurd two
same_order context NoForm NoForm same one two = refl
same_order context NoForm NoAuthority same one two = absurd (omega (arith, same))
same_order context NoAuthority NoForm same one two = absurd (omega (arith, same))
same_order context NoAuthority NoAuthority same one two = refl

pub one_from_fault : OneFromFault
one_from_fault context fault other a b = first_is_one from_order (IsFromCause context) (same_order context) fault other a b

-- ---- what is answered

memory_or_not : IsMemoryDecided Memory
memory_or_not Memory = inl refl
memory_or_not NoForm = inr (λ e. cc)
memory_or_not NoAuthority = inr (λ e. cc)

pub only_list : (context : MessageContext) (result : Result FieldList FromFault) → GivesList context result → (list : FieldList) → TurnsIntoList context list → MatchResult result (λ given. given ≡ list) (λ fault. fault ≡ Memory)
only_list context (Ok given) is list turns = one_list_of_message context given list is turns
only_list context (Err fault) is list turns = memory_if Memory memory_or_not fault (λ own. no_from_fault context list fault turns (is own))

named : (context : MessageContext) (result : Result FieldList FromFault) → GivesList context result → NamesFault Memory (IsFromFault context) result
named context (Ok given) is = λ fault. no_from_fault context given fault is
named context (Err fault) is = is

pub fault_is : (context : MessageContext) (result : Result FieldList FromFault) → GivesList context result → (fault : FromFault) → fault ≢ Memory → AnswersWhere Memory result fault (IsFromFault context fault)
fault_is context result is = answers_where Memory memory_or_not (IsFromFault context) result (one_from_fault context) (named context result is)
