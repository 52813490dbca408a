-- Facts of one of several tables, and of all of them.
use Rattle.std.proofs.Common.{◌||◌, zero, suc, Bool, true, false, List, [], ◌∷◌, Option, Some, None, IsTrue, refl, sym, subst, arith}
use Rattle.std.specs.List.{AllByRecursion, Any, list_any}
use Rattle.std.proofs.lemmas.Bool.{false≢true}
use Rattle.toml.specs.Data.{Data, Members, no_members}
use Rattle.conf.specs.Sections.{policy_tables}
use Rattle.conf_values.specs.Parts.{tables_in}

-- ---- one of them

pub any_first : {X : Type 0} (P : X → Type 0) (x : X) (xs : List X) → P x → Any P (x ∷ xs)
any_first P x xs here = (0, x, omega arith, refl, here)

pub any_later : {X : Type 0} (P : X → Type 0) (x : X) (xs : List X) → Any P xs → Any P (x ∷ xs)
any_later P x xs some = (suc some.0, some.1, omega (arith, some.2), some.3, some.4)

-- of one alone
pub any_one : {X : Type 0} (P : X → Type 0) (x : X) → Any P (x ∷ []) → P x
any_one P x (zero, y, lt, at, here) = subst P (sym at) here
any_one P x (suc k, y, lt, at, here) = absurd (omega (arith, lt))

-- none of them, where none is
pub none_of_all : {X : Type 0} (P : X → Type 0) (xs : List X) → AllByRecursion (λ x. ¬ P x) xs → Any P xs → ⊥
none_of_all P [] all (k, y, lt, at, here) = absurd (omega (arith, lt))
none_of_all P (x ∷ xs) all (zero, y, lt, at, here) = all.0 (subst P (sym at) here)
none_of_all P (x ∷ xs) all (suc k, y, lt, at, here) = none_of_all P xs all.1 (k, y, omega (arith, lt), at, here)

-- ---- tests

or_first : (a b : Bool) → IsTrue a → IsTrue (a || b)
or_first true b here = refl
or_first false b here = absurd (false≢true here)

or_later : (a b : Bool) → IsTrue b → IsTrue (a || b)
or_later true b here = refl
or_later false b here = here

pub neither : (a b : Bool) → (IsTrue (a || b) → ⊥) → (IsTrue a → ⊥) × (IsTrue b → ⊥)
neither a b never = (λ here. never (or_first a b here), λ here. never (or_later a b here))

-- of one alone
pub one_fails : (a : Bool) → (IsTrue (a || false) → ⊥) → IsTrue a → ⊥
one_fails a never = (neither a false never).0

-- each fails, where none passes
pub each_fails : {X : Type 0} (test : X → Bool) (xs : List X) → (IsTrue (list_any test xs) → ⊥) → AllByRecursion (λ x. IsTrue (test x) → ⊥) xs
each_fails test [] never = tt
each_fails test (x ∷ xs) never =
    let both = neither (test x) (list_any test xs) never in
    (both.0, each_fails test xs both.1)

-- ---- the tables of `policies`

-- what holds of each table and of one without pairs holds of the tables that are read
pub of_tables : (P : Members → Type 0) (value : Option Data) → P no_members → AllByRecursion P (tables_in value) → AllByRecursion P (policy_tables value)
of_tables P None none all = (none, tt)
of_tables P (Some value) none all = all

pub in_tables : (P : Members → Type 0) (value : Option Data) → AllByRecursion P (policy_tables value) → AllByRecursion P (tables_in value)
in_tables P None all = tt
in_tables P (Some value) all = all
