-- Causes that are judged one after another.
use Rattle.std.proofs.Common.{◌≡◌, ◌+◌, ℕ, IsTrue, List, refl, arith, inl, inr}
use Rattle.std.proofs.lemmas.Bool.{cases_order}
use Rattle.toml.specs.Data.{Members}
use Rattle.conf.specs.declared.fault.ConfFault.{ConfFault}
use Rattle.conf.specs.declared.fault.ConfFault.TheVariants as fault
use Rattle.conf.specs.declared.judge.RowFault.{RowFault}
use Rattle.conf.specs.declared.judge.RowFault.TheVariants.{WrongType, OutOfRange, Missing}
use Rattle.conf.specs.Table.{HoldsOfValue, Row, rows, places, place_path, row_value, has_unknown, is_missing}
use Rattle.conf.specs.Paths.{HoldsOfNone}
use Rattle.conf.specs.Rows.{is_ill_typed, is_out_of_range}
use Rattle.conf.specs.Refusals.{IsCauseIn, IsLeastRow, HasBadKeyText, HasBadStep, IsBadList, fault_number}
use Rattle.conf.specs.tools.Judged.{fault_of, is_refused, row_fault_number, IsCauseNumbered, IsClearBelow, IsFirstIn, IsJudged}
use Rattle.conf.proofs.LeastLaws.{none_at}

-- the fault of a row is a cause of its number
pub refused_is : (row_fault : RowFault) (document : Members) (path : List ℕ) → IsLeastRow (λ row. IsTrue (is_refused row_fault document row)) path
    → IsCauseNumbered (row_fault_number row_fault) document (fault_of row_fault path)
refused_is WrongType document path least = (refl, least)
refused_is OutOfRange document path least = (refl, least)
refused_is Missing document path least = (refl, least)

-- no cause of the number holds
abbrev pub IsClearAt : ℕ → Members → Type 0
IsClearAt n document = (other : ConfFault) → fault_number other ≡ n → ¬ IsCauseIn document other

pub clear_first : (document : Members) → IsClearBelow 3 document
clear_first document fault.Memory lt h = h
clear_first document fault.NotToml lt h = h
clear_first document other lt h = absurd (omega arith)

pub clear_more : (n : ℕ) (document : Members) → IsClearBelow n document → IsClearAt n document → IsClearBelow (n + 1) document
clear_more n document below here other lt h = elim (cases_order (fault_number other) n) [
  | inl same ↦ here other same h
  | inr apart ↦ elim apart [
    | inl less ↦ below other less h
    | inr more ↦ absurd (omega arith)
  ]
]

-- ---- what is clear once each is judged

pub known_clear : (document : Members) → HoldsOfNone (λ place. IsTrue (has_unknown document place)) places → IsClearAt 3 document
known_clear document none (fault.UnknownKey path) e h = none_at place_path (λ place. IsTrue (has_unknown document place)) places path none h.holds
known_clear document none other e h = absurd (omega arith)

none_of_rows : (P : Row → Type 0) (path : List ℕ) → HoldsOfNone P rows → ¬ IsLeastRow P path
none_of_rows P path none h = none_at (λ (row : Row). row.path) P rows path none h.holds

pub typed_clear : (document : Members) → HoldsOfNone (λ row. IsTrue (is_ill_typed document row)) rows → IsClearAt 4 document
typed_clear document none (fault.WrongType path) e h = none_of_rows (λ row. IsTrue (is_ill_typed document row)) path none h
typed_clear document none other e h = absurd (omega arith)

pub allowed_clear : (document : Members) → HoldsOfNone (λ row. IsTrue (is_out_of_range document row)) rows → IsClearAt 5 document
allowed_clear document none (fault.OutOfRange path) e h = none_of_rows (λ row. IsTrue (is_out_of_range document row)) path none h
allowed_clear document none other e h = absurd (omega arith)

pub keys_clear : (document : Members) → HoldsOfNone (λ row. HasBadKeyText row.rule (row_value document row)) rows → IsClearAt 6 document
keys_clear document none (fault.BadKeyText path) e h = none_of_rows (λ row. HasBadKeyText row.rule (row_value document row)) path none h
keys_clear document none other e h = absurd (omega arith)

pub lists_clear : (document : Members) → HoldsOfNone (λ row. HoldsOfValue (IsBadList row.rule) document row) rows → IsClearAt 7 document
lists_clear document none (fault.BadComponents path) e h = none_of_rows (λ row. HoldsOfValue (IsBadList row.rule) document row) path none h
lists_clear document none other e h = absurd (omega arith)

pub steps_clear : (document : Members) → HoldsOfNone (λ row. HasBadStep row.rule (row_value document row)) rows → IsClearAt 8 document
steps_clear document none (fault.BadScript path) e h = none_of_rows (λ row. HasBadStep row.rule (row_value document row)) path none h
steps_clear document none other e h = absurd (omega arith)

pub complete_clear : (document : Members) → HoldsOfNone (λ row. IsTrue (is_missing document row)) rows → IsClearAt 9 document
complete_clear document none (fault.Missing path) e h = none_of_rows (λ row. IsTrue (is_missing document row)) path none h
complete_clear document none other e h = absurd (omega arith)

-- a cause below whose number all is clear is the first
pub first_is : (n : ℕ) (document : Members) (f : ConfFault) → IsClearBelow n document → IsCauseNumbered n document f → IsFirstIn document f
first_is n document fault.Memory below h = tt
first_is n document fault.NotToml below h = absurd h.1
first_is n document (fault.UnknownKey path) below h = record { holds = h.1; none_before = λ other lt. below other (omega (arith, lt, h.0)) }
first_is n document (fault.WrongType path) below h = record { holds = h.1; none_before = λ other lt. below other (omega (arith, lt, h.0)) }
first_is n document (fault.OutOfRange path) below h = record { holds = h.1; none_before = λ other lt. below other (omega (arith, lt, h.0)) }
first_is n document (fault.BadKeyText path) below h = record { holds = h.1; none_before = λ other lt. below other (omega (arith, lt, h.0)) }
first_is n document (fault.BadComponents path) below h = record { holds = h.1; none_before = λ other lt. below other (omega (arith, lt, h.0)) }
first_is n document (fault.BadScript path) below h = record { holds = h.1; none_before = λ other lt. below other (omega (arith, lt, h.0)) }
first_is n document (fault.Missing path) below h = record { holds = h.1; none_before = λ other lt. below other (omega (arith, lt, h.0)) }

-- after what was judged so far, 4 and 5 are next, and then 6
pub below_typed : (document : Members) → HoldsOfNone (λ place. IsTrue (has_unknown document place)) places → IsClearBelow 4 document
below_typed document known = clear_more 3 document (clear_first document) (known_clear document known)

pub below_allowed : (document : Members) → HoldsOfNone (λ place. IsTrue (has_unknown document place)) places
    → HoldsOfNone (λ row. IsTrue (is_ill_typed document row)) rows → IsClearBelow 5 document
below_allowed document known typed = clear_more 4 document (below_typed document known) (typed_clear document typed)

pub below_keys : (document : Members) → IsJudged document → IsClearBelow 6 document
below_keys document judged = clear_more 5 document (below_allowed document judged.known judged.typed) (allowed_clear document judged.allowed)

-- after the texts of keys the lists are next, then the steps, and then what is missing
pub below_steps : (document : Members) → IsClearBelow 7 document → HoldsOfNone (λ row. HoldsOfValue (IsBadList row.rule) document row) rows → IsClearBelow 8 document
below_steps document below lists = clear_more 7 document below (lists_clear document lists)

pub below_missing : (document : Members) → IsClearBelow 8 document → HoldsOfNone (λ row. HasBadStep row.rule (row_value document row)) rows → IsClearBelow 9 document
below_missing document below steps = clear_more 8 document below (steps_clear document steps)
