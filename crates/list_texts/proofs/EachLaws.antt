-- What the loop over fields keeps.
use Rattle.std.proofs.Common.{◌≡◌, ℕ, ◌<◌, List, [], ◌∷◌, ◌++◌, length, Option, Some, None, Result, Ok, Err, refl, sym, ap, subst, ◌∙◌, append_assoc}
use Rattle.std.specs.Prelude.{IsErrAnd}
use Rattle.std.proofs.lemmas.List.{append-nil}
use Rattle.byte_grammar.proofs.Laws.{any_next}
use Rattle.list_texts.specs.declared.list.Field.{Field}
use Rattle.list_texts.specs.declared.stop.Halt.{Halt}
use Rattle.list_texts.specs.declared.stop.Halt.TheVariants as halt
use Rattle.list_texts.specs.declared.stop.Stop.{Stop}
use Rattle.list_texts.specs.tools.FieldWalk.{◌>>-◌, with_others, with_fields, next_step, fields_step}
use Rattle.list_texts.specs.tools.Judged.{AreRead, Halts}
use Rattle.list_texts.proofs.Checks.{each_next, more_less}
use Rattle.list_texts.proofs.StepLaws.{meets_next, next_grows, checks_next}

-- a stop is handed on
pub stops : {X Y : Type 0} (view : X → Y) (result : Result X Halt) (s : Stop) (read : Result Y Stop) → IsErrAnd result (λ given. given ≡ halt.At s) → read ≡ Err s → Halts view result read
stops view (Ok x) s read is e = absurd is
stops view (Err given) s read is e = subst (λ (h : Halt). Halts view (Err h) read) (sym is) e

module _ (first : ℕ) (others : List ℕ) where
  -- one field, and those after it
  fields_next : (bytes : List ℕ) → fields_step first (first ∷ others) bytes ≡ (next_step first (first ∷ others) bytes >>- λ a. with_others a.0 a.1 (fields_step first (first ∷ others) a.1))
  unfolding fields_step
  fields_next bytes = each_next (meets_next first others) (λ x f h. next_grows first others x f h) (λ f r. any_next r) (checks_next first others) bytes

  at : (bytes : List ℕ) (r : Result (Option Field × List ℕ) Stop) → next_step first (first ∷ others) bytes ≡ r → fields_step first (first ∷ others) bytes ≡ (r >>- λ a. with_others a.0 a.1 (fields_step first (first ∷ others) a.1))
  at bytes r e = fields_next bytes ∙ ap (λ (r : Result (Option Field × List ℕ) Stop). r >>- λ a. with_others a.0 a.1 (fields_step first (first ∷ others) a.1)) e

  pub shorter_rest : (bytes : List ℕ) (f : Field) (rest : List ℕ) → next_step first (first ∷ others) bytes ≡ Ok (Some f, rest) → length rest < length bytes
  shorter_rest bytes f rest e = more_less (meets_next first others) (λ x f h. next_grows first others x f h) (λ f r. any_next r) (checks_next first others) bytes f rest e

  pub last_field : (bytes : List ℕ) (fs : List Field) (left rest : List ℕ) → AreRead first (first ∷ others) bytes fs left → next_step first (first ∷ others) left ≡ Ok (None, rest) → fields_step first (first ∷ others) bytes ≡ Ok (fs, rest)
  last_field bytes fs left rest a e = sym a ∙ ap (with_fields fs) (at left (Ok (None, rest)) e) ∙ ap (λ (y : List Field). Ok (y, rest)) (append-nil fs)

  pub field_err : (bytes : List ℕ) (fs : List Field) (left : List ℕ) (s : Stop) → AreRead first (first ∷ others) bytes fs left → next_step first (first ∷ others) left ≡ Err s → fields_step first (first ∷ others) bytes ≡ Err s
  field_err bytes fs left s a e = sym a ∙ ap (with_fields fs) (at left (Err s) e)

  with_more : (fs : List Field) (f : Field) (r : Result (List Field × List ℕ) Stop) → with_fields (fs ++ f ∷ []) r ≡ with_fields fs (r >>- λ b. Ok (f ∷ b.0, b.1))
  with_more fs f (Ok b) = ap (λ (y : List Field). Ok (y, b.1)) (append_assoc fs (f ∷ []) b.0)
  with_more fs f (Err s) = refl

  pub next_field : (bytes : List ℕ) (fs : List Field) (left : List ℕ) (f : Field) (rest : List ℕ) → AreRead first (first ∷ others) bytes fs left → next_step first (first ∷ others) left ≡ Ok (Some f, rest) → AreRead first (first ∷ others) bytes (fs ++ f ∷ []) rest
  next_field bytes fs left f rest a e =
      with_more fs f (fields_step first (first ∷ others) rest) ∙ sym (ap (with_fields fs) (at left (Ok (Some f, rest)) e)) ∙ a

pub no_field : (r : Result (List Field × List ℕ) Stop) → with_fields [] r ≡ r
no_field (Ok b) = refl
no_field (Err s) = refl

-- ---- the same of any word that begins with the byte

abbrev BeginsWith : ℕ → List ℕ → Type 0
BeginsWith first word = (others : List ℕ) × (word ≡ first ∷ others)

pub rest_shorter : (first : ℕ) (word : List ℕ) → BeginsWith first word → (bytes : List ℕ) (f : Field) (rest : List ℕ) → next_step first word bytes ≡ Ok (Some f, rest) → length rest < length bytes
rest_shorter first word b bytes f rest e =
    shorter_rest first b.0 bytes f rest (subst (λ (w : List ℕ). next_step first w bytes ≡ Ok (Some f, rest)) b.1 e)

pub read_last : (first : ℕ) (word : List ℕ) → BeginsWith first word → (bytes : List ℕ) (fs : List Field) (left rest : List ℕ) → AreRead first word bytes fs left → next_step first word left ≡ Ok (None, rest) → fields_step first word bytes ≡ Ok (fs, rest)
read_last first word b bytes fs left rest =
    subst (λ (w : List ℕ). AreRead first w bytes fs left → next_step first w left ≡ Ok (None, rest) → fields_step first w bytes ≡ Ok (fs, rest)) (sym b.1) (last_field first b.0 bytes fs left rest)

pub read_err : (first : ℕ) (word : List ℕ) → BeginsWith first word → (bytes : List ℕ) (fs : List Field) (left : List ℕ) (s : Stop) → AreRead first word bytes fs left → next_step first word left ≡ Err s → fields_step first word bytes ≡ Err s
read_err first word b bytes fs left s =
    subst (λ (w : List ℕ). AreRead first w bytes fs left → next_step first w left ≡ Err s → fields_step first w bytes ≡ Err s) (sym b.1) (field_err first b.0 bytes fs left s)

pub read_more : (first : ℕ) (word : List ℕ) → BeginsWith first word → (bytes : List ℕ) (fs : List Field) (left : List ℕ) (f : Field) (rest : List ℕ) → AreRead first word bytes fs left → next_step first word left ≡ Ok (Some f, rest) → AreRead first word bytes (fs ++ f ∷ []) rest
read_more first word b bytes fs left f rest =
    subst (λ (w : List ℕ). AreRead first w bytes fs left → next_step first w left ≡ Ok (Some f, rest) → AreRead first w bytes (fs ++ f ∷ []) rest) (sym b.1) (next_field first b.0 bytes fs left f rest)
