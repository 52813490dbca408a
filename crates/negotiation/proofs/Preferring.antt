-- The most preferred of the members of a Dictionary: the loop over them, and that there is one at most.
use Rattle.std.proofs.Common.{◌≡◌, ◌<◌, ◌≤◌, ◌+◌, ℕ, zero, suc, Option, Some, None, List, [], ◌∷◌, ◌++◌, length, take, get_or, All, refl, sym, ap, subst, ◌∙◌, arith, inl, inr}
use Rattle.std.specs.List.{slice_get}
use Rattle.std.proofs.lemmas.Bool.{cases_order}
use Rattle.std.proofs.lemmas.List.{get_or_default, take_all, take_more}
use Rattle.std.proofs.lemmas.List.Elements.{All-nil, All-push, All-same, All-weaker}
use Rattle.std.proofs.lemmas.Option.{get_or_from_slice_get, slice_get-get_or, slice_get_within}
use Rattle.byte_grammar.proofs.Indices.{slice_get_take}
use Rattle.sfv_text.specs.declared.pair.Pair.{Pair}
use Rattle.sfv_text.specs.declared.value.Member.{Member}
use Rattle.content_digest.specs.Algorithms.{algorithm_of}
use Rattle.content_digest.specs.declared.algorithm.Algorithm.{Algorithm}
use Rattle.negotiation.specs.Preferences.{IsPreferred, preference_of}
use Rattle.negotiation.specs.tools.Preferring.{IsMostPreferred, IsOfPreference, IsPreferredSoFar}

-- what holds of all holds at an index
at : {X : Type 0} (P : X → Type 0) (xs : List X) (i : ℕ) (x : X) → All P xs → slice_get xs i ≡ Some x → P x
at P xs i x all there = subst P (get_or_from_slice_get xs i x x there) (all i x (slice_get_within xs i x there))

within : (a b c : ℕ) → a ≤ b → b < c → a ≤ c
within a b c = omega arith

below : (a b c : ℕ) → a ≤ b → b < c → a < c
below a b c = omega arith

-- an algorithm that is acceptable is known
known : (member : Pair Member) → 1 ≤ preference_of member → (algorithm : Algorithm) × (algorithm_of member.key ≡ Some algorithm)
known member acceptable = by_algorithm (algorithm_of member.key) refl where
  nothing : (n : ℕ) → n ≡ 0 → 1 ≤ n → ⊥
  nothing n none some = omega (arith, none, some)

  by_algorithm : (o : Option Algorithm) → algorithm_of member.key ≡ o → (algorithm : Algorithm) × (algorithm_of member.key ≡ Some algorithm)
  by_algorithm (Some algorithm) is = (algorithm, is)
  by_algorithm None is =
      let none : preference_of member ≡ 0 = rw is refl in
      absurd (nothing (preference_of member) none acceptable)

module _ (dict : List (Pair Member)) where
  pub none_yet : IsPreferredSoFar dict 0 0 None
  none_yet = record { none_greater = All-nil (λ (other : Pair Member). preference_of other ≤ 0); is = refl }

  -- one member more
  module _ (count greatest : ℕ) (algorithm : Option Algorithm) (member : Pair Member) (lt : count < length dict) (is : member ≡ get_or dict count member) (so_far : IsPreferredSoFar dict count greatest algorithm) where
    there : slice_get dict count ≡ Some member
    there = slice_get-get_or dict count member lt ∙ ap (λ (m : Pair Member). Some m) (sym is)

    more : take (count + 1) dict ≡ take count dict ++ member ∷ []
    more = take_more dict count member lt ∙ ap (λ (m : Pair Member). take count dict ++ m ∷ []) (sym is)

    none_greater : (n : ℕ) → ((other : Pair Member) → preference_of other ≤ greatest → preference_of other ≤ n) → preference_of member ≤ n → All (λ (other : Pair Member). preference_of other ≤ n) (take (count + 1) dict)
    none_greater n weaker own =
        let P = λ (other : Pair Member). preference_of other ≤ n in
        All-same P (take (count + 1) dict) (take count dict ++ member ∷ []) more
        (All-push P (take count dict) member (All-weaker (λ (other : Pair Member). preference_of other ≤ greatest) P weaker (take count dict) so_far.none_greater) own)

    pub greater : greatest < preference_of member → IsPreferredSoFar dict (count + 1) (preference_of member) (algorithm_of member.key)
    greater less =
        let one : 1 ≤ preference_of member = positive greatest (preference_of member) less in
        let own = known member one in
        record {
          none_greater = none_greater (preference_of member) (λ other le. within (preference_of other) greatest (preference_of member) le less) (self (preference_of member));
          is = subst (λ (o : Option Algorithm). IsOfPreference dict (preference_of member) o) (sym own.1)
              (record {
                index = count;
                member = member;
                there = there;
                algorithm_is = own.1;
                preference_is = refl;
                acceptable = one;
                first = All-weaker (λ (other : Pair Member). preference_of other ≤ greatest) (λ (other : Pair Member). preference_of other < preference_of member)
                    (λ other le. below (preference_of other) greatest (preference_of member) le less) (take count dict) so_far.none_greater;
              });
        }
      where
        positive : (m n : ℕ) → m < n → 1 ≤ n
        positive m n = omega arith

        self : (n : ℕ) → n ≤ n
        self n = omega arith

    pub as_before : preference_of member ≤ greatest → IsPreferredSoFar dict (count + 1) greatest algorithm
    as_before le = record { none_greater = none_greater greatest (λ other before. before) le; is = so_far.is }

  -- one member more, as the loop keeps it
  module _ (count greatest : ℕ) (algorithm : Option Algorithm) (member : Pair Member) (lt : count < length dict) (is : member ≡ get_or dict count member) (so_far : IsPreferredSoFar dict count greatest algorithm)
      (preference : ℕ) (own : preference ≡ preference_of member) (g : ℕ) (a : Option Algorithm) where
    pub taken : greatest < preference → g ≡ preference → a ≡ algorithm_of member.key → IsPreferredSoFar dict (count + 1) g a
    taken less same named = rw (same, named, own) (greater count greatest algorithm member lt is so_far (subst (λ (n : ℕ). greatest < n) own less))

    pub passed : preference ≤ greatest → g ≡ greatest → a ≡ algorithm → IsPreferredSoFar dict (count + 1) g a
    passed le same named = rw (same, named) (as_before count greatest algorithm member lt is so_far (subst (λ (n : ℕ). n ≤ greatest) own le))

  -- all members
  pub preferred : (count greatest : ℕ) (algorithm : Option Algorithm) → length dict ≤ count → IsPreferredSoFar dict count greatest algorithm → IsMostPreferred dict algorithm
  preferred count greatest algorithm past so_far = by_algorithm algorithm so_far.is where
    all : All (λ (other : Pair Member). preference_of other ≤ greatest) dict
    all = subst (λ (ms : List (Pair Member)). All (λ (other : Pair Member). preference_of other ≤ greatest) ms) (take_all count dict past) so_far.none_greater

    none : (m : ℕ) → m ≤ greatest → greatest ≡ 0 → 1 ≤ m → ⊥
    none m le empty some = omega (arith, le, empty, some)

    by_algorithm : (o : Option Algorithm) → IsOfPreference dict greatest o → IsMostPreferred dict o
    by_algorithm None empty = λ algorithm p. none (preference_of p.member) (at (λ (other : Pair Member). preference_of other ≤ greatest) dict p.index p.member all p.there) empty p.acceptable
    by_algorithm (Some algorithm) is = record {
      index = is.index;
      member = is.member;
      there = is.there;
      algorithm_is = is.algorithm_is;
      acceptable = subst (λ (n : ℕ). 1 ≤ n) (sym is.preference_is) is.acceptable;
      greatest = subst (λ (n : ℕ). All (λ (other : Pair Member). preference_of other ≤ n) dict) (sym is.preference_is) all;
      first = subst (λ (n : ℕ). All (λ (other : Pair Member). preference_of other < n) (take is.index dict)) (sym is.preference_is) is.first;
    }

-- ---- one and only one

-- a member that another of the preferred comes before
not_before : (dict : List (Pair Member)) (one other : Algorithm) (p : IsPreferred dict one) (q : IsPreferred dict other) → p.index < q.index → ⊥
not_before dict one other p q lt =
    let less : preference_of p.member < preference_of q.member =
    at (λ (m : Pair Member). preference_of m < preference_of q.member) (take q.index dict) p.index p.member q.first (slice_get_take dict q.index p.index lt ∙ p.there) in
    let most : preference_of q.member ≤ preference_of p.member = at (λ (m : Pair Member). preference_of m ≤ preference_of p.member) dict q.index q.member p.greatest q.there in
    apart (preference_of p.member) (preference_of q.member) less most
  where
    apart : (m n : ℕ) → m < n → n ≤ m → ⊥
    apart m n = omega arith

pub one_preferred : (dict : List (Pair Member)) (one other : Algorithm) → IsPreferred dict one → IsPreferred dict other → one ≡ other
one_preferred dict one other p q = elim (cases_order p.index q.index) [
  | inl same ↦
      let a = subst (λ (n : ℕ). slice_get dict n ≡ Some p.member) same p.there in
      let b = q.there in
      let member : p.member ≡ q.member = cc (a, b) in
      let is = ap (λ (m : Pair Member). algorithm_of m.key) member in
      let c = p.algorithm_is in
      let d = q.algorithm_is in
      cc (is, c, d)
  | inr apart ↦ elim apart [
    | inl before ↦ absurd (not_before dict one other p q before)
    | inr after ↦ absurd (not_before dict other one q p after)
  ]
]

-- the most preferred of so many
so_far_of : (first : Pair Member) (rest : List (Pair Member)) (count : ℕ) → count ≤ length (first ∷ rest)
    → (greatest : ℕ) × (algorithm : Option Algorithm) × IsPreferredSoFar (first ∷ rest) count greatest algorithm
so_far_of first rest zero le = (0, None, none_yet (first ∷ rest))
so_far_of first rest (suc n) le =
    let dict = first ∷ rest in
    let lt : n < length dict = omega (arith, le) in
    let before = so_far_of first rest n (omega (arith, le)) in
    let member = get_or dict n first in
    let is : member ≡ get_or dict n member = get_or_default dict n first member lt in
    let next : n + 1 ≡ suc n = omega arith in
    elim (cases_order before.0 (preference_of member)) [
      | inl same ↦ (
        before.0,
        before.1,
        subst (λ (k : ℕ). IsPreferredSoFar dict k before.0 before.1) next (as_before dict n before.0 before.1 member lt is before.2 (no_more before.0 (preference_of member) same)),
      )
      | inr apart ↦ elim apart [
        | inl less ↦ (
          preference_of member,
          algorithm_of member.key,
          subst (λ (k : ℕ). IsPreferredSoFar dict k (preference_of member) (algorithm_of member.key)) next (greater dict n before.0 before.1 member lt is before.2 less),
        )
        | inr more ↦ (
          before.0,
          before.1,
          subst (λ (k : ℕ). IsPreferredSoFar dict k before.0 before.1) next (as_before dict n before.0 before.1 member lt is before.2 (not_less (preference_of member) before.0 more)),
        )
      ]
    ]
  where
    no_more : (m n : ℕ) → m ≡ n → n ≤ m
    no_more m n = omega arith

    not_less : (m n : ℕ) → m < n → m ≤ n
    not_less m n = omega arith

pub some_preferred : (dict : List (Pair Member)) → (algorithm : Option Algorithm) × IsMostPreferred dict algorithm
some_preferred [] = (None, λ algorithm p. let there = p.there in absurd (cc there))
some_preferred (first ∷ rest) =
    let all = so_far_of first rest (length (first ∷ rest)) (omega arith) in
    (all.1, preferred (first ∷ rest) (length (first ∷ rest)) all.0 all.1 (omega arith) all.2)
