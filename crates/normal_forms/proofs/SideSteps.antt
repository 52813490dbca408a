-- Steps that lead from one to another, added one by one.
use Rattle.std.proofs.Common.{◌≡◌, ℕ, ◌+◌, List, [], ◌∷◌, ◌++◌, take, drop, refl, sym, subst, ap, ◌∙◌, append_assoc, append-nil, add-one, suc}
use Rattle.std.specs.Prelude.{Some, map, reverse, slice_get}
use Rattle.std.specs.List.{All, FoldsTo}
use Rattle.std.proofs.lemmas.Fn.{FoldsTo-push}
use Rattle.std.proofs.lemmas.List.{map-append, reverse-append}
use Rattle.std.proofs.lemmas.List.Elements.{All-cons, All-head, All-nil, All-tail}
use Rattle.std.proofs.lemmas.Option.{get_or_from_slice_get, slice_get_within}
use Rattle.std.proofs.Math.Seq.{drop-cons, take-suc}
use Rattle.rewrite_script.specs.declared.rewrite.LineRewrite.{LineRewrite}
use Rattle.rewrite_script.specs.declared.rewrite.Rewrite.{Rewrite}
use Rattle.rewrite_script.specs.declared.rewrite.Rewrite.TheVariants.{Lines}
use Rattle.normal_forms.specs.tools.Sides.{Leads}

-- ---- lists

pub take_next : {A : Type 0} (xs : List A) (i : ℕ) (x : A) → slice_get xs i ≡ Some x → take (i + 1) xs ≡ take i xs ++ x ∷ []
take_next xs i x is =
    rw add-one (take-suc xs i x (slice_get_within xs i x is) ∙ ap (λ y. take i xs ++ y ∷ []) (get_or_from_slice_get xs i x x is))

pub drop_next : {A : Type 0} (xs : List A) (i : ℕ) (x : A) → slice_get xs i ≡ Some x → drop i xs ≡ x ∷ drop (i + 1) xs
drop_next xs i x is =
    rw add-one (drop-cons xs i x (slice_get_within xs i x is) ∙ ap (λ y. y ∷ drop (suc i) xs) (get_or_from_slice_get xs i x x is))

pub map_reversed : {A B : Type 0} (f : A → B) (xs : List A) → map f (reverse xs) ≡ reverse (map f xs)
map_reversed f [] = refl
map_reversed f (x ∷ xs) =
    ap (map f) (reverse-append (x ∷ []) xs)
    ∙ (map-append f (reverse xs) (x ∷ []) ∙ (ap (λ t. t ++ f x ∷ []) (map_reversed f xs) ∙ sym (reverse-append (f x ∷ []) (map f xs))))

pub all_first : {A : Type 0} (P : A → Type 0) (xs ys : List A) → All P (xs ++ ys) → All P xs
all_first P [] ys all = All-nil P
all_first P (x ∷ xs) ys all = All-cons P x xs (All-head P x (xs ++ ys) all) (all_first P xs ys (All-tail P x (xs ++ ys) all))

pub all_last : {A : Type 0} (P : A → Type 0) (xs ys : List A) → All P (xs ++ ys) → All P ys
all_last P [] ys all = all
all_last P (x ∷ xs) ys all = all_last P xs ys (All-tail P x (xs ++ ys) all)

-- ---- steps one after the other

pub folds_joined : {P A : Type 0} (R : P → A → P → Type 0) (p : P) (xs : List A) (q : P) (ys : List A) (u : P) → FoldsTo R p xs q → FoldsTo R q ys u → FoldsTo R p (xs ++ ys) u
folds_joined {P} R p [] q ys u first second = subst (λ (s : P). FoldsTo R s ys u) (sym first) second
folds_joined R p (x ∷ xs) q ys u first second = (first.0, first.1, folds_joined R first.0 xs q ys u first.2 second)

-- what each step keeps, all of them keep
pub folds_keep : {P A : Type 0} (R : P → A → P → Type 0) (Q : P → Type 0) → ((p : P) (x : A) (q : P) → R p x q → Q p → Q q) → (p : P) (xs : List A) (q : P) → FoldsTo R p xs q → Q p → Q q
folds_keep R Q keeps p [] q folds here = subst Q folds here
folds_keep R Q keeps p (x ∷ xs) q folds here = folds_keep R Q keeps folds.0 xs q folds.2 (keeps p x folds.0 folds.1 here)

-- steps in a part are steps in the whole
pub folds_within : {P W A : Type 0} (R : P → A → P → Type 0) (S : W → A → W → Type 0) (f : P → W) → ((p : P) (x : A) (q : P) → R p x q → S (f p) x (f q)) → (p : P) (xs : List A) (q : P) → FoldsTo R p xs q → FoldsTo S (f p) xs (f q)
folds_within R S f within p [] q folds = ap f folds
folds_within R S f within p (x ∷ xs) q folds = (f folds.0, within p x folds.0 folds.1, folds_within R S f within folds.0 xs q folds.2)

-- ---- steps that are added

pub leads_none : {A : Type 0} (Step : A → LineRewrite → A → Type 0) (from : A) (steps : List Rewrite) → Leads Step from from steps steps
leads_none Step from steps = record { made = []; lead = refl; added = sym (append-nil steps) }

pub leads_more : {A : Type 0} (Step : A → LineRewrite → A → Type 0) (from middle to : A) (before now : List Rewrite) (step : LineRewrite) → Leads Step from middle before now → Step middle step to
    → Leads Step from to before (now ++ Lines step ∷ [])
leads_more Step from middle to before now step first next = record {
  made = first.made ++ step ∷ [];
  lead = FoldsTo-push Step from first.made middle step to first.lead next;
  added = ap (λ t. t ++ Lines step ∷ []) first.added
      ∙ (append_assoc before (map Lines first.made) (Lines step ∷ []) ∙ ap (λ t. before ++ t) (sym (map-append Lines first.made (step ∷ []))));
}

pub leads_joined : {A : Type 0} (Step : A → LineRewrite → A → Type 0) (from middle to : A) (before now after : List Rewrite) → Leads Step from middle before now → Leads Step middle to now after
    → Leads Step from to before after
leads_joined Step from middle to before now after first second = record {
  made = first.made ++ second.made;
  lead = folds_joined Step from first.made middle second.made to first.lead second.lead;
  added = second.added
      ∙ (ap (λ t. t ++ map Lines second.made) first.added
      ∙ (append_assoc before (map Lines first.made) (map Lines second.made) ∙ ap (λ t. before ++ t) (sym (map-append Lines first.made second.made))));
}

pub leads_within : {P W : Type 0} (R : P → LineRewrite → P → Type 0) (S : W → LineRewrite → W → Type 0) (f : P → W) → ((p : P) (x : LineRewrite) (q : P) → R p x q → S (f p) x (f q)) → (from to : P) (before after : List Rewrite)
    → Leads R from to before after → Leads S (f from) (f to) before after
leads_within R S f within from to before after leads =
    record { made = leads.made; lead = folds_within R S f within from leads.made to leads.lead; added = leads.added }
