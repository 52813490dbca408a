-- The tests of sameness decide it.
use Rattle.std.proofs.Common.{◌≡◌, true, ◌&&◌, List, get_or, Contains, refl, sym, Decides}
use Rattle.std.specs.Str.{bytes_eq}
use Rattle.std.proofs.lemmas.Bool.{and_parts}
use Rattle.std.proofs.lemmas.Slice.Eq.{bytes_eq-Decides}
use Rattle.std.proofs.lemmas.List.{get_or_default}
use Rattle.std.proofs.lemmas.List.Folds.{list_any_at}
use Rattle.std.proofs.lemmas.List.Sums.{AllPass-from_list_all, list_all-from_AllPass}
use Rattle.std.proofs.lemmas.Map.Views.{Contains-from_any}
use Rattle.sfv_text.specs.declared.pair.Pair.{Pair}
use Rattle.sfv_text.specs.declared.value.BareItem.{BareItem}
use Rattle.sfv_text.specs.Equality.{is_equal_param}
use Rattle.sfv_text.proofs.EqualityLaws.{param_equal}
use Rattle.component_ids.specs.declared.id.ComponentId.{ComponentId}
use Rattle.component_ids.specs.Identifiers.{IsSameId}
use Rattle.component_ids.specs.Sameness.{is_among, are_among, is_same}

-- a parameter that is there is found
among : (params : List (Pair BareItem)) (param : Pair BareItem) → Contains params param → is_among params param ≡ true
among params param at =
    list_any_at (is_equal_param param) params at.0 param at.1 ((param_equal param (get_or params at.0 param)).1 (sym at.2))

-- a parameter that is found is there
found : (params : List (Pair BareItem)) (param : Pair BareItem) → is_among params param ≡ true → Contains params param
found params param h = Contains-from_any (λ a b. (param_equal a b).0) param params h

-- each of the parameters is among the others
all_among : (others params : List (Pair BareItem)) → ((param : Pair BareItem) → Contains params param → Contains others param) → are_among others params ≡ true
all_among others params h = list_all-from_AllPass (is_among others) params
    (λ k d lt. among others (get_or params k d) (h (get_or params k d) (k, lt, get_or_default params k (get_or params k d) d lt)))

all_found : (others params : List (Pair BareItem)) → are_among others params ≡ true → (param : Pair BareItem) → Contains params param → Contains others param
all_found others params h param at =
    found others param (rw at.2 at (AllPass-from_list_all (is_among others) params h at.0 param at.1))

pub same_decides : (a b : ComponentId) → Decides (is_same a b) (IsSameId a b)
same_decides a b =
    let names = bytes_eq-Decides a.name b.name in
    let there = λ (h : is_same a b ≡ true).
    let parts = and_parts (bytes_eq a.name b.name) (are_among b.params a.params && are_among a.params b.params) h in
    let both = and_parts (are_among b.params a.params) (are_among a.params b.params) parts.1 in
    let same : IsSameId a b = record {
      names = names.0 parts.0;
      params = λ param. (all_found b.params a.params both.0 param, all_found a.params b.params both.1 param);
    } in
    same in
    let back = λ (s : IsSameId a b).
    let first : are_among b.params a.params ≡ true = all_among b.params a.params (λ param. (s.params param).0) in
    let second : are_among a.params b.params ≡ true = all_among a.params b.params (λ param. (s.params param).1) in
    let n : bytes_eq a.name b.name ≡ true = names.1 s.names in
    let all : is_same a b ≡ true = rw (n, first, second) refl in
    all in
    (there, back)
