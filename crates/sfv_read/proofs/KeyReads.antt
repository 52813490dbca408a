-- Whether a Dictionary has a key, read with none of its members kept.
use Rattle.std.proofs.Common.{◌≡◌, ℕ, Bool, true, false, ◌||◌, List, [], ◌∷◌, Some, Result, Ok, Err, refl, sym, ap, ◌∙◌, inl, inr}
use Rattle.std.specs.Prelude.{IfOk, IfErr, is_some, if◌then◌else◌}
use Rattle.std.specs.Str.{bytes_eq}
use Rattle.byte_grammar.specs.Language.{after_all}
use Rattle.byte_grammar.specs.Walk.{◌>>=◌}
use Rattle.byte_grammar.specs.tools.Walks.{whole_read, with_state, value_at_end}
use Rattle.byte_grammar.proofs.Laws.{bind_ok, bind_err, ok_is}
use Rattle.sfv_text.specs.Keys.{has_key, value_of}
use Rattle.sfv_text.specs.declared.pair.Pair.{Pair}
use Rattle.sfv_text.specs.declared.value.Member.{Member}
use Rattle.sfv_text.proofs.PutLaws.{put_value}
use Rattle.sfv_read.specs.declared.error.SfError.{SfError}
use Rattle.sfv_read.specs.declared.error.SfError.TheVariants.{Memory, Syntax}
use Rattle.sfv_read.specs.Fault.{IsRead, IsSfError}
use Rattle.sfv_read.specs.Item.{put_pair}
use Rattle.sfv_read.specs.Reads.{ReadsDict}
use Rattle.sfv_read.specs.tools.Answers.{Answers}
use Rattle.sfv_read.specs.tools.MemberWalk.{dict_member_read, separated_read, dict_read}
use Rattle.sfv_read.proofs.Readings.{dict_judges, promises}

abbrev has_too : List ℕ → Bool → Pair Member → Bool
has_too key has p = has_key key p || has

abbrev had_in : List ℕ → List (Pair Member) → Result Bool ℕ
had_in key dict = Ok (is_some (value_of dict key))

-- a pair that is put, and those that were there
one_more : (key : List ℕ) (dict : List (Pair Member)) (p : Pair Member) → has_too key (is_some (value_of dict key)) p ≡ is_some (value_of (put_pair dict p) key)
one_more key dict p = by (bytes_eq p.key key) ∙ sym (ap is_some (put_value p.key p.value key dict))
  where
    by : (b : Bool) → (b || is_some (value_of dict key)) ≡ is_some (if b then Some p.value else value_of dict key)
    by true = refl
    by false = refl

had_after : (key : List ℕ) (vs dict : List (Pair Member)) → after_all (has_too key) (is_some (value_of dict key)) vs ≡ is_some (value_of (after_all put_pair dict vs) key)
had_after key [] dict = refl
had_after key (p ∷ vs) dict = ap (λ (b : Bool). after_all (has_too key) b vs) (one_more key dict p) ∙ had_after key vs (put_pair dict p)

abbrev pub key_read : List ℕ → List ℕ → Result (Bool × List ℕ) ℕ
key_read key text = with_state (λ has p. has_key key p || has) false (separated_read dict_member_read text)

-- it reads as far as the Dictionary is read
whole_key : (key text : List ℕ) → whole_read (λ t. key_read key t) text ≡ (whole_read (λ t. dict_read t) text >>= had_in key)
unfolding whole_read
whole_key key text = go (separated_read dict_member_read text)
  where
    ends : (vs : List (Pair Member)) (rest : List ℕ) → value_at_end (after_all (has_too key) false vs) rest ≡ (value_at_end (after_all put_pair [] vs) rest >>= had_in key)
    ends vs [] = ap (λ (b : Bool). Ok b) (had_after key vs [])
    ends vs (c ∷ rest) = refl

    go : (r : Result (List (Pair Member) × List ℕ) ℕ) → (with_state (has_too key) false r >>= λ a. value_at_end a.0 a.1) ≡ ((with_state put_pair [] r >>= λ a. value_at_end a.0 a.1) >>= had_in key)
    go (Ok b) = ends b.0 b.1
    go (Err n) = refl

-- what the reading promises of its answer
pub record KeyPromises (key text : List ℕ) (result : Result Bool SfError) : Type 0 where
  pub ok : IfOk result (λ has. (dict : List (Pair Member)) × ReadsDict text dict × (has ≡ is_some (value_of dict key)))
  pub only : (dict : List (Pair Member)) → ReadsDict text dict → IsRead result (is_some (value_of dict key))
  pub fault : IfErr result (λ e. IsSfError ReadsDict text e)

pub key_promises : (key text : List ℕ) (result : Result Bool SfError) → Answers (whole_read (λ t. key_read key t)) text result → KeyPromises key text result
key_promises key text (Ok has) a =
    let p = bind_ok (whole_read (λ t. dict_read t) text) (had_in key) has (sym (whole_key key text) ∙ a) in
    record {
      ok = (p.0, dict_judges.ok text p.0 p.1, sym (ok_is (is_some (value_of p.0 key)) has p.2));
      only = λ dict reads. ok_is has (is_some (value_of dict key)) (sym a ∙ whole_key key text ∙ ap (λ (r : Result (List (Pair Member)) ℕ). r >>= had_in key) (dict_judges.only text dict reads));
      fault = tt;
    }
key_promises key text (Err Memory) a = record { ok = tt; only = λ dict reads. tt; fault = a }
key_promises key text (Err (Syntax offset)) a =
    let stops : whole_read (λ t. dict_read t) text ≡ Err a.left = elim (bind_err (whole_read (λ t. dict_read t) text) (had_in key) a.left (sym (whole_key key text) ∙ a.stops)) [
      | inl e ↦ e
      | inr r ↦ absurd (cc (r.2))
    ] in
    let p = promises dict_judges text (Err (Syntax offset)) (record { left = a.left; stops = stops; count = a.count }) in
    record { ok = tt; only = λ dict reads. p.only dict reads; fault = p.fault }
