-- Steps on the lines of a side, one after the other: they lead from a message to the one with the lines that they make.
use Rattle.std.proofs.Common.{◌≡◌, ℕ, true, List, [], ◌∷◌, ◌++◌, refl, sym, ap, subst, ◌∙◌}
use Rattle.std.specs.Prelude.{map}
use Rattle.std.specs.List.{FoldsTo, flat_map, list_all}
use Rattle.std.proofs.lemmas.Bool.{and_from}
use Rattle.std.proofs.lemmas.List.{map-append}
use Rattle.msg_head.specs.declared.error.Side.{Side}
use Rattle.msg_head.specs.Lines.{FieldLine}
use Rattle.msg_body.specs.Messages.{IsMessage, Message}
use Rattle.msg_body.specs.Views.{lines_on}
use Rattle.component_ids.specs.declared.params.SigParams.{SigParams}
use Rattle.component_values.specs.Context.{MessageContext, answers_head, context_with}
use Rattle.signatures.specs.Signatures.{HasSignature}
use Rattle.rewrite_script.specs.Lines.{HasValues, is_line_writable, is_writable}
use Rattle.byte_grammar.proofs.ListLaws.{all_joined}
use Rattle.rewrite_script.specs.Scripts.{HaveValues}
use Rattle.rewrite_script.specs.declared.rewrite.LineRewrite.{LineRewrite}
use Rattle.rewrite_script.specs.declared.rewrite.Rewrite.{Rewrite}
use Rattle.rewrite_script.specs.declared.rewrite.Rewrite.TheVariants.{Lines}
use Rattle.line_rewrites.specs.Permitted.{PermitsLines}
use Rattle.line_rewrites.specs.Steps.{ChangesLines, LineStep, with_lines_on}
use Rattle.rewrites.specs.Laws.{IsPermittedStep}
use Rattle.rewrites.specs.Permitted.{Permits}
use Rattle.rewrites.specs.Steps.{Step}
use Rattle.rewrites.proofs.Kept.{keeps_where_permitted}
use Rattle.normal_forms.proofs.MessageSteps.{AreSmaller, lines_there, lines_twice, own_lines, smaller_message}

-- ---- lists of steps

-- steps after steps
pub folds_on : {P A : Type 0} (R : P → A → P → Type 0) (p q r : P) (xs ys : List A) → FoldsTo R p xs q → FoldsTo R q ys r → FoldsTo R p (xs ++ ys) r
folds_on {P} R p q r [] ys first second = subst (λ (o : P). FoldsTo R o ys r) (sym first) second
folds_on R p q r (x ∷ xs) ys first second = (first.0, first.1, folds_on R first.0 q r xs ys first.2 second)

-- lists of one
pub one_each : {A : Type 0} (xs : List A) → flat_map (λ x. x ∷ []) xs ≡ xs
one_each [] = refl
one_each (x ∷ xs) = ap (λ ys. x ∷ ys) (one_each xs)

-- the values that lines have
values_on : (xs ys : List Rewrite) → HaveValues xs → HaveValues ys → HaveValues (xs ++ ys)
values_on [] ys first second = second
values_on (x ∷ xs) ys first second = (first.0, values_on xs ys first.1 second)

-- ---- a signature's steps

-- where a signature is read, its label, its parameters and its tag
pub record Signed : Type 0 where
  pub context : MessageContext
  pub label : List ℕ
  pub params : SigParams
  pub tag : List ℕ

-- the message is one, and has the signature
pub record IsSigned (s : Signed) (message : Message) : Type 0 where
  pub whole : IsMessage (answers_head s.context.related) message
  pub signature : HasSignature message s.label s.params s.tag

-- the signature permits the step in the message, which becomes the next
abbrev pub Takes : Signed → Message → Rewrite → Message → Type 0
Takes s message step next = IsPermittedStep s.label (context_with s.context message) step next

-- such steps lead from the one message to the other
pub record Leads (s : Signed) (message : Message) (steps : List Rewrite) (after : Message) : Type 0 where
  pub lead : FoldsTo (Takes s) message steps after
  pub signed : IsSigned s after
  pub writable : list_all is_writable steps ≡ true
  pub values : HaveValues steps

pub leads_on : (s : Signed) (message next after : Message) (xs ys : List Rewrite) → Leads s message xs next → Leads s next ys after → Leads s message (xs ++ ys) after
leads_on s message next after xs ys first second = record {
  lead = folds_on (Takes s) message next after xs ys first.lead second.lead;
  signed = second.signed;
  writable = all_joined is_writable xs ys first.writable second.writable;
  values = values_on xs ys first.values second.values;
}

-- a step that the signature permits
pub leads_by : (s : Signed) (message : Message) (step : Rewrite) (after : Message) → IsSigned s message → IsMessage (answers_head s.context.related) after
    → Step (context_with s.context message) step after → Permits (context_with s.context message) step s.label s.params → is_writable step ≡ true → HasValues step → Leads s message (step ∷ []) after
leads_by s message step after is whole gives permits writable values =
    let kept = keeps_where_permitted (context_with s.context message) step s.label s.params s.tag after writable values is.signature gives permits in
    record {
      lead = (after, record { gives = gives; params = s.params; tag = s.tag; signature = is.signature; permits = permits }, refl);
      signed = record { whole = whole; signature = kept.signature };
      writable = and_from (is_writable step) true writable refl;
      values = (values, tt);
    }

-- ---- on a side

-- the message with these lines
abbrev pub lined : Signed → Side → Message → List FieldLine → Message
lined s side message others = with_lines_on (answers_head s.context.related) side message others

-- the steps lead to the message with these lines on the side
pub record LeadsOn (s : Signed) (side : Side) (message : Message) (steps : List LineRewrite) (others : List FieldLine) : Type 0 where
  pub leads : Leads s message (map Lines steps) (lined s side message others)
  pub there : lines_on side (lined s side message others) ≡ others

-- the lines that are there already
pub none_on : (s : Signed) (side : Side) (message : Message) (others : List FieldLine) → IsSigned s message → lines_on side message ≡ others → LeadsOn s side message [] others
none_on s side message others is same =
    let own : lined s side message others ≡ message = ap (lined s side message) (sym same) ∙ own_lines (answers_head s.context.related) side message is.whole.framing in
    record {
      leads = subst (λ (m : Message). Leads s message [] m) (sym own) (record { lead = refl; signed = is; writable = refl; values = tt });
      there = ap (lines_on side) own ∙ same;
    }

-- steps after steps
pub more_on : (s : Signed) (side : Side) (message : Message) (xs ys : List LineRewrite) (lines others : List FieldLine) → LeadsOn s side message xs lines
    → LeadsOn s side (lined s side message lines) ys others → LeadsOn s side message (xs ++ ys) others
more_on s side message xs ys lines others first second =
    let twice : lined s side (lined s side message lines) others ≡ lined s side message others = lines_twice (answers_head s.context.related) side message lines others in
    let both = leads_on s message (lined s side message lines) (lined s side (lined s side message lines) others) (map Lines xs) (map Lines ys) first.leads second.leads in
    record {
      leads = subst (λ (m : Message). Leads s message (map Lines (xs ++ ys)) m) twice
          (subst (λ (steps : List Rewrite). Leads s message steps (lined s side (lined s side message lines) others)) (sym (map-append Lines xs ys)) both);
      there = ap (lines_on side) (sym twice) ∙ second.there;
    }

-- the lines become smaller ones
pub changes_to : (s : Signed) (side : Side) (message : Message) (Change : List FieldLine → List FieldLine → Type 0) (others : List FieldLine) → IsSigned s message
    → AreSmaller (lines_on side message) others → Change (lines_on side message) others → ChangesLines (context_with s.context message) side Change (lined s side message others)
changes_to s side message Change others is small change = record {
  lines = others;
  change = change;
  after_is = refl;
  there = lines_there (answers_head s.context.related) side message others small.few;
  message = smaller_message (answers_head s.context.related) side message others is.whole small;
}

-- a step that makes lines smaller, where it is permitted
pub one_on : (s : Signed) (side : Side) (message : Message) (step : LineRewrite) (others : List FieldLine) → IsSigned s message → AreSmaller (lines_on side message) others
    → LineStep (context_with s.context message) step (lined s side message others) → PermitsLines (context_with s.context message) step s.label s.params → is_line_writable step ≡ true
    → LeadsOn s side message (step ∷ []) others
one_on s side message step others is small gives permits writable = record {
  leads = leads_by s message (Lines step) (lined s side message others) is (smaller_message (answers_head s.context.related) side message others is.whole small) gives permits writable tt;
  there = lines_there (answers_head s.context.related) side message others small.few;
}

-- where each of a list leads on, all of it does
pub all_on : {A : Type 0} (s : Signed) (side : Side) (R : List FieldLine → A → List FieldLine → Type 0) (steps_of : A → List LineRewrite)
    → ((message : Message) (x : A) (others : List FieldLine) → IsSigned s message → R (lines_on side message) x others → LeadsOn s side message (steps_of x) others)
    → (message : Message) (xs : List A) (others : List FieldLine) → IsSigned s message → FoldsTo R (lines_on side message) xs others → LeadsOn s side message (flat_map steps_of xs) others
all_on s side R steps_of each message [] others is folds = none_on s side message others is folds
all_on s side R steps_of each message (x ∷ xs) others is folds =
    let first = each message x folds.0 is folds.1 in
    let next = lined s side message folds.0 in
    let rest = subst (λ (lines : List FieldLine). FoldsTo R lines xs others) (sym first.there) folds.2 in
    more_on s side message (steps_of x) (flat_map steps_of xs) folds.0 others first (all_on s side R steps_of each next xs others first.leads.signed rest)
