-- Lists and chains that are linked by index: what stays where links change.
use Rattle.std.proofs.Common.{◌≡◌, ℕ, cond, nat_eq, ◌⊎◌, inl, inr, ◌↔◌, Option, Some, None, List, [], ◌∷◌, ◌++◌, refl, sym, ◌∙◌, ap, subst}
use Rattle.std.proofs.lemmas.Bool.{eq-eqb, ne_eqb}
use Rattle.nonces.specs.tools.Links.{AreDistinct, IsChainOf, IsIn, IsLinked, IsListOf, LinksBack}

-- the links, with one that goes to another node, where there is a node that has it
abbrev pub redirect : (ℕ → Option ℕ) → Option ℕ → Option ℕ → ℕ → Option ℕ
redirect f None to j = f j
redirect f (Some i) to j = cond (nat_eq i j) to (f j)

pub redirect_here : (f : ℕ → Option ℕ) (from to : Option ℕ) (j : ℕ) → from ≡ Some j → redirect f from to j ≡ to
redirect_here f from to j is = rw (is, eq-eqb j j refl) refl

redirect_other_at : (f : ℕ → Option ℕ) (i : ℕ) (to : Option ℕ) (j : ℕ) → (i ≡ j → ⊥) → redirect f (Some i) to j ≡ f j
redirect_other_at f i to j other = rw (ne_eqb i j other) refl

pub redirect_other : (f : ℕ → Option ℕ) (from to : Option ℕ) (j : ℕ) → (from ≡ Some j → ⊥) → redirect f from to j ≡ f j
redirect_other f None to j other = refl
redirect_other f (Some i) to j other = redirect_other_at f i to j (λ same. other (ap (λ k. Some k) same))

-- ---- what stays where no link of the list changes

pub stays_linked : (f g : ℕ → Option ℕ) (is : List ℕ) (head : Option ℕ) → ((j : ℕ) → IsIn j is → g j ≡ f j) → IsLinked f head is → IsLinked g head is
stays_linked f g [] head same linked = linked
stays_linked f g (i ∷ is) head same linked =
    (linked.0, subst (λ h. IsLinked g h is) (sym (same i (inl refl))) (stays_linked f g is (f i) (λ j there. same j (inr there)) linked.1))

pub stays_back : (f g : ℕ → Option ℕ) (is : List ℕ) (before : Option ℕ) → ((j : ℕ) → IsIn j is → g j ≡ f j) → LinksBack f before is → LinksBack g before is
stays_back f g [] before same back = tt
stays_back f g (i ∷ is) before same back =
    (same i (inl refl) ∙ back.0, stays_back f g is (Some i) (λ j there. same j (inr there)) back.1)

pub stays_list : (f g : ℕ → Option ℕ) (head : Option ℕ) (member other : ℕ → Type 0) → ((j : ℕ) → member j → g j ≡ f j) → ((j : ℕ) → member j ↔ other j) → IsListOf f head member → IsListOf g head other
stays_list f g head member other same alike list = record {
  places = list.places;
  linked = stays_linked f g list.places head (λ j there. same j ((list.exact j).0 there)) list.linked;
  distinct = list.distinct;
  exact = λ j. (λ there. (alike j).0 ((list.exact j).0 there), λ is. (list.exact j).1 ((alike j).1 is));
}

pub stays_chain : (f g p q : ℕ → Option ℕ) (head : Option ℕ) (member other : ℕ → Type 0) → ((j : ℕ) → member j → g j ≡ f j) → ((j : ℕ) → member j → q j ≡ p j) → ((j : ℕ) → member j ↔ other j) → IsChainOf f p head member → IsChainOf g q head other
unfolding stays_list
stays_chain f g p q head member other same same_back alike chain = record {
  list = stays_list f g head member other same alike chain.list;
  back = stays_back p q chain.list.places None (λ j there. same_back j ((chain.list.exact j).0 there)) chain.back;
}

-- ---- without members

pub empty_list : (f : ℕ → Option ℕ) (member : ℕ → Type 0) → ((j : ℕ) → member j → ⊥) → IsListOf f None member
empty_list f member none = record {
  places = [];
  linked = refl;
  distinct = tt;
  exact = λ j. (λ there. absurd there, none j);
}

pub none_of : (f : ℕ → Option ℕ) (is : List ℕ) (j : ℕ) → IsLinked f None is → IsIn j is → ⊥
none_of f [] j linked there = there
none_of f (i ∷ is) j linked there = let e = linked.0 in cc

pub no_member : (f : ℕ → Option ℕ) (member : ℕ → Type 0) (j : ℕ) → IsListOf f None member → member j → ⊥
no_member f member j list is = none_of f list.places j list.linked ((list.exact j).1 is)

-- ---- one more, at the head

pub pushed_list : (f g : ℕ → Option ℕ) (head : Option ℕ) (member other : ℕ → Type 0) (i : ℕ) → (member i → ⊥) → g i ≡ head → ((j : ℕ) → member j → g j ≡ f j) → ((j : ℕ) → ((i ≡ j) ⊎ member j) ↔ other j) → IsListOf f head member → IsListOf g (Some i) other
pushed_list f g head member other i new first same alike list = record {
  places = i ∷ list.places;
  linked = (refl, subst (λ h. IsLinked g h list.places) (sym first) (stays_linked f g list.places head (λ j there. same j ((list.exact j).0 there)) list.linked));
  distinct = (λ there. new ((list.exact i).0 there), list.distinct);
  exact = λ j. (
    λ there. elim there [ inl is ↦ (alike j).0 (inl is) | inr later ↦ (alike j).0 (inr ((list.exact j).0 later)) ],
    λ is. elim ((alike j).1 is) [ inl here ↦ inl here | inr old ↦ inr ((list.exact j).1 old) ],
  );
}

pushed_back : (f p q : ℕ → Option ℕ) (is : List ℕ) (head : Option ℕ) (i : ℕ) → IsLinked f head is → AreDistinct is → ((j : ℕ) → IsIn j is → q j ≡ redirect p head (Some i) j) → LinksBack p None is → LinksBack q (Some i) is
pushed_back f p q [] head i linked distinct same back = tt
pushed_back f p q (x ∷ xs) head i linked distinct same back = (
  same x (inl refl) ∙ redirect_here p head (Some i) x linked.0,
  stays_back p q xs (Some x) (
      λ j there. same j (inr there) ∙ redirect_other p head (Some i) j (λ is. distinct.0 (subst (λ k. IsIn k xs) (first_is x j head linked.0 is) there))
      ) back.1,
)
  where
    first_is : (x j : ℕ) (head : Option ℕ) → head ≡ Some x → head ≡ Some j → j ≡ x
    first_is x j head one two = cc

pub pushed_chain : (f g p q : ℕ → Option ℕ) (head : Option ℕ) (member other : ℕ → Type 0) (i : ℕ) → (member i → ⊥) → g i ≡ head → ((j : ℕ) → member j → g j ≡ f j) → q i ≡ None → ((j : ℕ) → member j → q j ≡ redirect p head (Some i) j) → ((j : ℕ) → ((i ≡ j) ⊎ member j) ↔ other j) → IsChainOf f p head member → IsChainOf g q (Some i) other
unfolding pushed_list
pushed_chain f g p q head member other i new first same back_first back_same alike chain = record {
  list = pushed_list f g head member other i new first same alike chain.list;
  back = (
    back_first,
    pushed_back f p q chain.list.places head i chain.list.linked chain.list.distinct
        (λ j there. back_same j ((chain.list.exact j).0 there)) chain.back,
  );
}

-- ---- without the first

pub popped : (f g : ℕ → Option ℕ) (is : List ℕ) (head : Option ℕ) (i : ℕ) → head ≡ Some i → IsLinked f head is → AreDistinct is → ((j : ℕ) → IsIn j is → (j ≡ i → ⊥) → g j ≡ f j)
    → (rest : List ℕ) × (is ≡ i ∷ rest) × IsLinked g (f i) rest × AreDistinct rest × (IsIn i rest → ⊥)
popped f g [] head i first linked distinct same = absurd (let two = linked in cc)
popped f g (x ∷ xs) head i first linked distinct same =
    let here : x ≡ i = (let one = linked.0 in cc) in
    let apart : IsIn i xs → ⊥ = λ there. distinct.0 (subst (λ k. IsIn k xs) (sym here) there) in (
      xs,
      ap (λ k. k ∷ xs) here,
      subst (λ k. IsLinked g (f k) xs) here (
          stays_linked f g xs (f x) (λ j there. same j (inr there) (λ is. apart (subst (λ k. IsIn k xs) is there))) linked.1
          ),
      distinct.1,
      apart,
    )

pub first_member : (f : ℕ → Option ℕ) (head : Option ℕ) (member : ℕ → Type 0) (i : ℕ) → head ≡ Some i → IsListOf f head member → member i
first_member f head member i first list =
    let rest = popped f f list.places head i first list.linked list.distinct (λ _ _ _. refl) in
    (list.exact i).0 (subst (IsIn i) (sym rest.1) (inl refl))

pub popped_list : (f g : ℕ → Option ℕ) (head : Option ℕ) (member other : ℕ → Type 0) (i : ℕ) → head ≡ Some i → ((j : ℕ) → member j → (j ≡ i → ⊥) → g j ≡ f j) → ((j : ℕ) → (member j × (j ≡ i → ⊥)) ↔ other j) → IsListOf f head member → IsListOf g (f i) other
popped_list f g head member other i first same alike list =
    let rest = popped f g list.places head i first list.linked list.distinct (λ j there. same j ((list.exact j).0 there)) in
    record {
      places = rest.0;
      linked = rest.2;
      distinct = rest.3;
      exact = λ j. (
        λ there. (alike j).0 (
          (list.exact j).0 (subst (IsIn j) (sym rest.1) (inr there)),
          λ is. rest.4 (subst (λ k. IsIn k rest.0) is there),
        ),
        λ is.
            let old = (alike j).1 is in
            elim (subst (IsIn j) rest.1 ((list.exact j).1 old.0)) [
              | inl here ↦ absurd (old.1 (sym here))
              | inr later ↦ later
            ],
      );
    }

-- ---- without a member

split_at : (i : ℕ) (xs : List ℕ) → IsIn i xs → (front : List ℕ) × (back : List ℕ) × (xs ≡ front ++ i ∷ back)
split_at i [] there = absurd there
split_at i (x ∷ xs) there = elim there [
  | inl is ↦ ([], xs, ap (λ k. k ∷ xs) is)
  | inr later ↦ let parts = split_at i xs later in (x ∷ parts.0, parts.1, ap (λ ys. x ∷ ys) parts.2)
]

in_middle : (i : ℕ) (front back : List ℕ) → IsIn i (front ++ i ∷ back)
in_middle i [] back = inl refl
in_middle i (x ∷ front) back = inr (in_middle i front back)

in_whole : (i j : ℕ) (front back : List ℕ) → IsIn j (front ++ back) → IsIn j (front ++ i ∷ back)
in_whole i j [] back there = inr there
in_whole i j (x ∷ front) back there = elim there [ inl is ↦ inl is | inr later ↦ inr (in_whole i j front back later) ]

in_front : (j : ℕ) (front more : List ℕ) → IsIn j front → IsIn j (front ++ more)
in_front j [] more there = absurd there
in_front j (x ∷ front) more there = elim there [ inl is ↦ inl is | inr later ↦ inr (in_front j front more later) ]

in_back : (j : ℕ) (front more : List ℕ) → IsIn j more → IsIn j (front ++ more)
in_back j [] more there = there
in_back j (x ∷ front) more there = inr (in_back j front more there)

in_rest : (i j : ℕ) (front back : List ℕ) → (j ≡ i → ⊥) → IsIn j (front ++ i ∷ back) → IsIn j (front ++ back)
in_rest i j [] back other there = elim there [ inl is ↦ absurd (other (sym is)) | inr later ↦ later ]
in_rest i j (x ∷ front) back other there =
    elim there [ inl is ↦ inl is | inr later ↦ inr (in_rest i j front back other later) ]

not_in_rest : (i : ℕ) (front back : List ℕ) → AreDistinct (front ++ i ∷ back) → IsIn i (front ++ back) → ⊥
not_in_rest i [] back distinct there = distinct.0 there
not_in_rest i (x ∷ front) back distinct there = elim there [
  | inl is ↦ distinct.0 (subst (λ k. IsIn k (front ++ i ∷ back)) (sym is) (in_middle i front back))
  | inr later ↦ not_in_rest i front back distinct.1 later
]

distinct_rest : (i : ℕ) (front back : List ℕ) → AreDistinct (front ++ i ∷ back) → AreDistinct (front ++ back)
distinct_rest i [] back distinct = distinct.1
distinct_rest i (x ∷ front) back distinct =
    (λ there. distinct.0 (in_whole i x front back there), distinct_rest i front back distinct.1)

-- the one before a later node is one of the list
before_in : (p : ℕ → Option ℕ) (x i : ℕ) (front back : List ℕ) (before : Option ℕ) → LinksBack p before (x ∷ (front ++ i ∷ back)) → (z : ℕ) × (p i ≡ Some z) × IsIn z (x ∷ front)
before_in p x i [] back before links = (x, links.1.0, inl refl)
before_in p x i (y ∷ front) back before links =
    let one = before_in p y i front back (Some x) links.1 in (one.0, one.1, inr one.2)

-- where the backward link of a node leads
back_of : (p : ℕ → Option ℕ) (i z : ℕ) (front back : List ℕ) → LinksBack p None (front ++ i ∷ back) → p i ≡ Some z → IsIn z front
back_of p i z [] back links is = absurd (let one = links.0 in cc)
back_of p i z (x ∷ front) back links is =
    let one = before_in p x i front back None links in
    let same : one.0 ≡ z = (let two = one.1 in cc) in
    subst (λ k. IsIn k (x ∷ front)) same one.2

-- where the link of a node leads
next_of : (f : ℕ → Option ℕ) (i z : ℕ) (front back : List ℕ) (head : Option ℕ) → IsLinked f head (front ++ i ∷ back) → f i ≡ Some z → IsIn z back
next_of f i z [] [] head linked is = absurd (let one = linked.1 in cc)
next_of f i z [] (y ∷ back) head linked is = inl (let one = linked.1.0 in cc)
next_of f i z (x ∷ front) back head linked is = next_of f i z front back (f x) linked.1 is

unlinked_first : (f p g : ℕ → Option ℕ) (i : ℕ) (back : List ℕ) (head before : Option ℕ) → IsLinked f head (i ∷ back) → p i ≡ before
    → ((b : ℕ) → before ≡ Some b → IsIn b back → ⊥)
    → ((j : ℕ) → IsIn j back → g j ≡ redirect f (p i) (f i) j)
    → IsLinked g (f i) back
unlinked_first f p g i back head before linked is apart same =
    stays_linked f g back (f i) (
    λ j there. same j there ∙ redirect_other f (p i) (f i) j (λ to. apart j (sym is ∙ to) there)
    ) linked.1

unlinked_next : (f p g : ℕ → Option ℕ) (x i : ℕ) (front back : List ℕ) (head before : Option ℕ)
    → IsLinked f head (x ∷ (front ++ i ∷ back)) → LinksBack p before (x ∷ (front ++ i ∷ back)) → AreDistinct (x ∷ (front ++ i ∷ back))
    → ((j : ℕ) → IsIn j (x ∷ (front ++ back)) → g j ≡ redirect f (p i) (f i) j)
    → IsLinked g head (x ∷ (front ++ back))
unlinked_next f p g x i [] back head before linked links distinct same =
    let here : g x ≡ f i = same x (inl refl) ∙ redirect_here f (p i) (f i) x links.1.0 in (
      linked.0,
      subst (λ h. IsLinked g h back) (sym here) (
          unlinked_first f p g i back (f x) (Some x) linked.1 links.1.0
          (λ b is there. distinct.0 (inr (subst (λ k. IsIn k back) (some_is b x is) there)))
          (λ j there. same j (inr there))
          ),
    )
  where
    some_is : (b x : ℕ) → Some x ≡ Some b → b ≡ x
    some_is b x is = cc
unlinked_next f p g x i (y ∷ front) back head before linked links distinct same =
    let one = before_in p y i front back (Some x) links.1 in
    let away : p i ≡ Some x → ⊥ = λ is.
    let same : one.0 ≡ x = (let two = one.1 in cc) in
    distinct.0 (subst (λ k. IsIn k (y ∷ (front ++ i ∷ back))) same (in_front one.0 (y ∷ front) (i ∷ back) one.2)) in
    let here : g x ≡ f x = same x (inl refl) ∙ redirect_other f (p i) (f i) x away in (
      linked.0,
      subst (λ h. IsLinked g h (y ∷ (front ++ back))) (sym here) (
          unlinked_next f p g y i front back (f x) (Some x) linked.1 links.1 distinct.1 (λ j there. same j (inr there))
          ),
    )

unlinked_back_first : (f p q : ℕ → Option ℕ) (i : ℕ) (back : List ℕ) (before : Option ℕ) → p i ≡ before → IsLinked f (f i) back → LinksBack p (Some i) back → AreDistinct back
    → ((j : ℕ) → IsIn j back → q j ≡ redirect p (f i) (p i) j)
    → LinksBack q before back
unlinked_back_first f p q i [] before is linked links distinct same = tt
unlinked_back_first f p q i (y ∷ back) before is linked links distinct same = (
  same y (inl refl) ∙ redirect_here p (f i) (p i) y linked.0 ∙ is,
  stays_back p q back (Some y) (
      λ j there. same j (inr there) ∙ redirect_other p (f i) (p i) j (λ to. distinct.0 (subst (λ k. IsIn k back) (next_is y j (f i) linked.0 to) there))
      ) links.1,
)
  where
    next_is : (y j : ℕ) (to : Option ℕ) → to ≡ Some y → to ≡ Some j → j ≡ y
    next_is y j to one two = cc

unlinked_back : (f p q : ℕ → Option ℕ) (i : ℕ) (front back : List ℕ) (head before : Option ℕ)
    → IsLinked f head (front ++ i ∷ back) → LinksBack p before (front ++ i ∷ back) → AreDistinct (front ++ i ∷ back)
    → ((j : ℕ) → IsIn j (front ++ back) → q j ≡ redirect p (f i) (p i) j)
    → LinksBack q before (front ++ back)
unlinked_back f p q i [] back head before linked links distinct same =
    unlinked_back_first f p q i back before links.0 linked.1 links.1 distinct.1 same
unlinked_back f p q i (x ∷ front) back head before linked links distinct same = (
  same x (inl refl) ∙ redirect_other p (f i) (p i) x (
      λ to. distinct.0 (in_back x front (i ∷ back) (inr (next_of f i x front back (f x) linked.1 to)))
      ) ∙ links.0,
  unlinked_back f p q i front back (f x) (Some x) linked.1 links.1 distinct.1 (λ j there. same j (inr there)),
)

-- the head of a chain without a member
abbrev pub head_without : Option ℕ → Option ℕ → Option ℕ → Option ℕ
head_without None next head = next
head_without (Some previous) next head = head

unlinked_forward : (f p g : ℕ → Option ℕ) (i : ℕ) (front back : List ℕ) (head : Option ℕ)
    → IsLinked f head (front ++ i ∷ back) → LinksBack p None (front ++ i ∷ back) → AreDistinct (front ++ i ∷ back)
    → ((j : ℕ) → IsIn j (front ++ back) → g j ≡ redirect f (p i) (f i) j)
    → IsLinked g (head_without (p i) (f i) head) (front ++ back)
unlinked_forward f p g i [] back head linked links distinct same =
    rw links.0 (unlinked_first f p g i back head None linked links.0 (λ b is _. (let one = is in cc)) same)
unlinked_forward f p g i (x ∷ front) back head linked links distinct same =
    let one = before_in p x i front back None links in
    subst (λ o. IsLinked g (head_without o (f i) head) (x ∷ (front ++ back))) (sym one.1)
    (unlinked_next f p g x i front back head None linked links distinct same)

pub unlinked_chain : (f g p q : ℕ → Option ℕ) (head : Option ℕ) (member other : ℕ → Type 0) (i : ℕ) → member i
    → ((j : ℕ) → other j → g j ≡ redirect f (p i) (f i) j) → ((j : ℕ) → other j → q j ≡ redirect p (f i) (p i) j)
    → ((j : ℕ) → (member j × (j ≡ i → ⊥)) ↔ other j)
    → IsChainOf f p head member → IsChainOf g q (head_without (p i) (f i) head) other
unlinked_chain f g p q head member other i is same same_back alike chain =
    let parts = split_at i chain.list.places ((chain.list.exact i).1 is) in
    let front = parts.0 in
    let back = parts.1 in
    let linked = subst (IsLinked f head) parts.2 chain.list.linked in
    let links = subst (LinksBack p None) parts.2 chain.back in
    let distinct = subst AreDistinct parts.2 chain.list.distinct in
    let into : (j : ℕ) → IsIn j (front ++ back) → other j = λ j there. (alike j).0 (
      (chain.list.exact j).0 (subst (IsIn j) (sym parts.2) (in_whole i j front back there)),
      λ here. not_in_rest i front back distinct (subst (λ k. IsIn k (front ++ back)) here there),
    ) in
    record {
      list = record {
        places = front ++ back;
        linked = unlinked_forward f p g i front back head linked links distinct (λ j there. same j (into j there));
        distinct = distinct_rest i front back distinct;
        exact = λ j. (
          into j,
          λ there.
              let old = (alike j).1 there in
              in_rest i j front back old.1 (subst (IsIn j) parts.2 ((chain.list.exact j).1 old.0)),
        );
      };
      back = unlinked_back f p q i front back head None linked links distinct (λ j there. same_back j (into j there));
    }

-- the neighbours of a member are members
pub previous_member : (f p : ℕ → Option ℕ) (head : Option ℕ) (member : ℕ → Type 0) (i z : ℕ) → member i → p i ≡ Some z → IsChainOf f p head member → member z
previous_member f p head member i z is to chain =
    let parts = split_at i chain.list.places ((chain.list.exact i).1 is) in
    let there = back_of p i z parts.0 parts.1 (subst (LinksBack p None) parts.2 chain.back) to in
    (chain.list.exact z).0 (subst (IsIn z) (sym parts.2) (in_front z parts.0 (i ∷ parts.1) there))

pub next_member : (f : ℕ → Option ℕ) (head : Option ℕ) (member : ℕ → Type 0) (i z : ℕ) → member i → f i ≡ Some z → IsListOf f head member → member z
next_member f head member i z is to list =
    let parts = split_at i list.places ((list.exact i).1 is) in
    let there = next_of f i z parts.0 parts.1 head (subst (IsLinked f head) parts.2 list.linked) to in
    (list.exact z).0 (subst (IsIn z) (sym parts.2) (in_back z parts.0 (i ∷ parts.1) (inr there)))
