-- What a reading of whole texts says of the texts that are read.
use Rattle.std.proofs.Common.{ℕ, Bool, List, Result, Ok, Err, sym, subst, ◌∙◌}
use Rattle.std.specs.Prelude.{IfOk, IfErr, IsTrue}
use Rattle.byte_grammar.specs.tools.Walks.{whole_read, padded_read}
use Rattle.byte_grammar.specs.Classes.{is_space}
use Rattle.byte_grammar.specs.FaultOffset.{IsFaultOffset}
use Rattle.byte_grammar.proofs.Laws.{ok_is}
use Rattle.byte_grammar.proofs.Whole.{Judges, judges, one_value}
use Rattle.sfv_read.specs.declared.error.SfError.{SfError}
use Rattle.sfv_read.specs.declared.error.SfError.TheVariants.{Memory, Syntax}
use Rattle.sfv_read.specs.Laws.{HasOneValue, HasValueOrNone}
use Rattle.sfv_read.specs.Fault.{IsRead, IsSfError}
use Rattle.sfv_read.specs.tools.Answers.{StopsAt, Answers}
use Rattle.sfv_read.specs.Reads.{ReadsItem, ReadsInner, ReadsList, ReadsDict}
use Rattle.sfv_read.specs.tools.ItemWalk.{item_read}
use Rattle.sfv_read.specs.tools.InnerWalk.{inner_list_read}
use Rattle.sfv_read.specs.tools.MemberWalk.{list_read, dict_read}
use Rattle.sfv_read.proofs.Items.{meets_whole_item}
use Rattle.sfv_read.proofs.InnerLists.{meets_whole_inner}
use Rattle.sfv_read.proofs.Members.{meets_list, meets_dict}
use Rattle.sfv_read.proofs.TextLaws.{decided}

-- what the readings of a text promise of its answer
pub record Promises {V : Type 0} (L : List ℕ → V → Type 0) (text : List ℕ) (result : Result V SfError) : Type 0 where
  pub ok : IfOk result (λ v. L text v)
  pub only : (v : V) → L text v → IsRead result v
  pub fault : IfErr result (λ e. IsSfError L text e)

module _ {V : Type 0} {L : List ℕ → V → Type 0} {r : List ℕ → Result V ℕ} (j : Judges L r) where
  offset_at : (text : List ℕ) (offset : ℕ) → StopsAt r text offset → IsFaultOffset L text offset
  offset_at text offset s = subst (λ (p : ℕ). IsFaultOffset L text p) (sym s.count) (j.offset text s.left s.stops)

  pub promises : (text : List ℕ) (result : Result V SfError) → Answers r text result → Promises L text result
  promises text (Ok v) a = record { ok = j.ok text v a; only = λ w h. ok_is v w (sym a ∙ j.only text w h); fault = tt }
  promises text (Err Memory) a = record { ok = tt; only = λ w h. tt; fault = a }
  promises text (Err (Syntax offset)) a =
      let p = offset_at text offset a in
      record { ok = tt; only = p.none; fault = p }

-- what is read passes a test that all values pass
pub passing : {V : Type 0} {L : List ℕ → V → Type 0} (test : V → Bool) → ((text : List ℕ) (v : V) → L text v → IsTrue (test v)) → (text : List ℕ) (result : Result V SfError) → IfOk result (λ v. L text v) → IfOk result (λ v. IsTrue (test v))
passing test all text (Ok v) h = all text v h
passing test all text (Err e) h = tt

-- the readings of the four kinds
pub item_judges : Judges ReadsItem (whole_read (λ text. padded_read is_space item_read text))
item_judges = judges meets_whole_item

pub inner_judges : Judges ReadsInner (whole_read (λ text. padded_read is_space inner_list_read text))
inner_judges = judges meets_whole_inner

pub list_judges : Judges ReadsList (whole_read (λ text. list_read text))
list_judges = judges meets_list

pub dict_judges : Judges ReadsDict (whole_read (λ text. dict_read text))
dict_judges = judges meets_dict

-- a text has at most one value of a kind
pub item_has_one_value : HasOneValue ReadsItem
item_has_one_value = one_value item_judges

pub inner_has_one_value : HasOneValue ReadsInner
inner_has_one_value = one_value inner_judges

pub list_has_one_value : HasOneValue ReadsList
list_has_one_value = one_value list_judges

pub dict_has_one_value : HasOneValue ReadsDict
dict_has_one_value = one_value dict_judges

-- a text is read as a value of a kind, or as none
pub item_is_decided : HasValueOrNone ReadsItem
item_is_decided = decided item_judges

pub inner_is_decided : HasValueOrNone ReadsInner
inner_is_decided = decided inner_judges

pub list_is_decided : HasValueOrNone ReadsList
list_is_decided = decided list_judges

pub dict_is_decided : HasValueOrNone ReadsDict
dict_is_decided = decided dict_judges
