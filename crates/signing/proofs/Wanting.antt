-- The wishes of a field one after the other, and the first cause for which they aren't met.
use Rattle.std.proofs.Common.{◌≡◌, ◌≢◌, ◌≤◌, ◌<◌, ◌+◌, ◌*◌, lit<, ℕ, Option, Some, None, Result, Ok, Err, List, [], ◌∷◌, ◌++◌, length, take, get_or, All, refl, sym, ap, subst, ◌∙◌, arith, inl, inr, ◌⊎◌}
use Rattle.std.specs.Option.{IsSomeAnd}
use Rattle.std.specs.List.{slice_get}
use Rattle.std.specs.Prelude.{IfOk, IsSome}
use Rattle.std.proofs.lemmas.Bool.{cases_order}
use Rattle.std.proofs.lemmas.List.{take_all, take_more}
use Rattle.std.proofs.lemmas.List.Elements.{All-append, All-cons, All-nil}
use Rattle.std.proofs.lemmas.Option.{slice_get-get_or, slice_get_past}
use Rattle.byte_grammar.specs.Causes.{AnswersWhere}
use Rattle.byte_grammar.specs.tools.Determined.{AreDetermined}
use Rattle.byte_grammar.proofs.AnswerLaws.{IsMemoryDecided, NamesFault, answers_where}
use Rattle.byte_grammar.proofs.CauseLaws.{first_is_one}
use Rattle.byte_grammar.proofs.Indices.{some_and, some_and_parts}
use Rattle.sfv_text.specs.declared.pair.Pair.{Pair}
use Rattle.sfv_text.specs.declared.value.InnerList.{InnerList}
use Rattle.sfv_text.specs.declared.value.Item.{Item}
use Rattle.sfv_text.specs.declared.value.Member.{Member}
use Rattle.sfv_text.specs.declared.value.Member.TheVariants.{Item as ItemMember, InnerList as InnerMember}
use Rattle.msg_body.specs.Messages.{Message}
use Rattle.component_ids.specs.Causes.{IsIdFault}
use Rattle.component_ids.specs.declared.fault.IdFault.{IdFault}
use Rattle.component_ids.proofs.FaultLaws.{one_fault}
use Rattle.settings.specs.Configuration.{Configuration}
use Rattle.settings.specs.declared.sign_conf.SignConf.{SignConf}
use Rattle.signatures.specs.Signatures.{HasField, HasDict}
use Rattle.signing.specs.Specs.{IsValidSpec}
use Rattle.signing.specs.WishCauses.{OfWish, OfList, IsWantCause, IsWantFault, want_order}
use Rattle.signing.specs.Wishes.{wish_name, components_in, AreWished, MeetsWish, MeetWishes}
use Rattle.signing.specs.declared.fault.WantFault.{WantFault}
use Rattle.signing.specs.declared.fault.WantFault.TheVariants as want
use Rattle.signing.specs.declared.spec.SignSpec.{SignSpec}
use Rattle.signing.specs.declared.wish.WishFault.{WishFault}
use Rattle.signing.specs.declared.wish.WishFault.TheVariants.{Memory, NotInnerList, Ids, Parameter, AlgRefused, AlgUnknown, KeyUnknown}
use Rattle.signing.specs.tools.Wished.{fault_at, wish_order, AreMet, ExplainsFault, ExplainsWanted, ExplainsWishes, HasNoCause, HaveNoCause, IsFirstUnmet, IsWishCause, IsWishFault}
use Rattle.signatures.proofs.Reading.{one_dict}

-- ---- wish by wish

meet_more : (conf : Configuration) (now : ℕ) (wishes : List (Pair Member)) (specs : List SignSpec) (wish : Pair Member) (spec : SignSpec) → MeetWishes conf now wishes specs → MeetsWish conf now wish spec
    → MeetWishes conf now (wishes ++ wish ∷ []) (specs ++ spec ∷ [])
meet_more conf now [] [] wish spec met one = (one, tt)
meet_more conf now (w ∷ ws) (s ∷ ss) wish spec met one = (met.0, meet_more conf now ws ss wish spec met.1 one)
meet_more conf now [] (s ∷ ss) wish spec met one = absurd met
meet_more conf now (w ∷ ws) [] wish spec met one = absurd met

module _ (conf : Configuration) (sign : SignConf) (now : ℕ) (wishes : List (Pair Member)) where
  pub met_more : (n : ℕ) (wish : Pair Member) (specs : List SignSpec) (spec : SignSpec) → n < length wishes → wish ≡ get_or wishes n wish → AreMet conf sign now wishes n specs → MeetsWish conf now wish spec
      → IsValidSpec spec → HasNoCause conf sign wish → AreMet conf sign now wishes (n + 1) (specs ++ spec ∷ [])
  met_more n wish specs spec lt is met one valid none =
      let there : slice_get wishes n ≡ Some wish = slice_get-get_or wishes n wish lt ∙ ap (λ (w : Pair Member). Some w) (sym is) in
      let more : take (n + 1) wishes ≡ take n wishes ++ wish ∷ [] = take_more wishes n wish lt ∙ ap (λ (w : Pair Member). take n wishes ++ w ∷ []) (sym is) in
      record {
        meet = subst (λ (ws : List (Pair Member)). MeetWishes conf now ws (specs ++ spec ∷ [])) (sym more) (meet_more conf now (take n wishes) specs wish spec met.meet one);
        valid = All-append IsValidSpec specs (spec ∷ []) met.valid (All-cons IsValidSpec spec [] valid (All-nil IsValidSpec));
        none = λ i w less at. elim (cases_order i n) [
          | inl same ↦
              let here : slice_get wishes n ≡ Some w = rw (← same) at in
              let one_wish : wish ≡ w = cc (there, here) in
              subst (λ (v : Pair Member). HasNoCause conf sign v) one_wish none
          | inr apart ↦ elim apart [
            | inl before ↦ met.none i w before at
            | inr after ↦ absurd (omega (arith, less, after))
          ]
        ];
      }

  pub met_all : (n : ℕ) (specs : List SignSpec) → length wishes ≤ n → AreMet conf sign now wishes n specs → AreMet conf sign now wishes (length wishes) specs
  met_all n specs le met = record {
    meet = subst (λ (ws : List (Pair Member)). MeetWishes conf now ws specs) (take_all n wishes le ∙ sym (take_all (length wishes) wishes (omega arith))) met.meet;
    valid = met.valid;
    none = λ i w lt at. met.none i w (omega (arith, lt, le)) at;
  }

  pub unmet : (n : ℕ) (wish : Pair Member) (specs : List SignSpec) (fault : WishFault) → n < length wishes → wish ≡ get_or wishes n wish → AreMet conf sign now wishes n specs
      → ExplainsFault conf sign wish.value fault → ExplainsWishes conf sign now wishes (Err (fault_at n fault))
  unmet n wish specs fault lt is met explains = by_fault fault explains where
    first : (cause : WishFault) → IsWishFault conf sign wish.value cause → IsFirstUnmet conf sign wishes (fault_at n cause)
    first cause holds =
        (n, cause, refl, met.none, some_and (λ w. IsWishFault conf sign w.value cause) (slice_get wishes n) wish (slice_get-get_or wishes n wish lt ∙ ap (λ (w : Pair Member). Some w) (sym is)) holds)

    by_fault : (f : WishFault) → ExplainsFault conf sign wish.value f → ExplainsWishes conf sign now wishes (Err (fault_at n f))
    by_fault Memory x = tt
    by_fault NotInnerList x = first NotInnerList x
    by_fault (Ids f) x = first (Ids f) x
    by_fault Parameter x = first Parameter x
    by_fault AlgRefused x = first AlgRefused x
    by_fault AlgUnknown x = first AlgUnknown x
    by_fault KeyUnknown x = first KeyUnknown x

-- ---- the field

module _ (conf : Configuration) (sign : SignConf) (message : Message) (configured : conf.sign ≡ Some sign) where
  -- a fault before all wishes, or one of a wish
  abbrev Of : WantFault → Type 0
  Of fault = (fault ≡ want.Memory) ⊎ (fault ≡ want.Absent) ⊎ (fault ≡ want.Malformed) ⊎ ((index : ℕ) × (cause : WishFault) × (fault ≡ fault_at index cause) × (wish_order cause < 6))

  parts_of : (fault : WantFault) → Of fault
  parts_of want.Memory = inl refl
  parts_of want.Absent = inr (inl refl)
  parts_of want.Malformed = inr (inr (inl refl))
  parts_of (want.NotInnerList i) = inr (inr (inr (i, NotInnerList, refl, lit< tt)))
  parts_of (want.Ids i f) = inr (inr (inr (i, Ids f, refl, lit< tt)))
  parts_of (want.Parameter i) = inr (inr (inr (i, Parameter, refl, lit< tt)))
  parts_of (want.AlgRefused i) = inr (inr (inr (i, AlgRefused, refl, lit< tt)))
  parts_of (want.AlgUnknown i) = inr (inr (inr (i, AlgUnknown, refl, lit< tt)))
  parts_of (want.KeyUnknown i) = inr (inr (inr (i, KeyUnknown, refl, lit< tt)))

  order_at : (i : ℕ) (cause : WishFault) → wish_order cause < 6 → want_order (fault_at i cause) ≡ 4 + 6 * i + wish_order cause
  order_at i NotInnerList lt = omega arith
  order_at i (Ids f) lt = omega arith
  order_at i Parameter lt = omega arith
  order_at i AlgRefused lt = omega arith
  order_at i AlgUnknown lt = omega arith
  order_at i KeyUnknown lt = omega arith
  order_at i Memory lt = absurd (omega (arith, lt))

  one_sign : (other : SignConf) → conf.sign ≡ Some other → other ≡ sign
  one_sign other is = cc (configured, is)

  module _ (dict : List (Pair Member)) (has : HasDict message wish_name dict) where
    of_wish : (Fact : Member → Type 0) (i : ℕ) → OfWish message i Fact → IsSomeAnd (slice_get dict i) (λ wish. Fact wish.value)
    of_wish Fact i x = subst (λ (d : List (Pair Member)). IsSomeAnd (slice_get d i) (λ wish. Fact wish.value)) (one_dict message wish_name x.0 dict x.1 has) x.2

    of_list : (Fact : SignConf → InnerList → Type 0) (i : ℕ) → OfList conf message i Fact → IsSomeAnd (slice_get dict i) (λ wish. (list : InnerList) × (wish.value ≡ InnerMember list) × Fact sign list)
    of_list Fact i x =
        subst (λ (s : SignConf). IsSomeAnd (slice_get dict i) (λ wish. (list : InnerList) × (wish.value ≡ InnerMember list) × Fact s list)) (one_sign x.0 x.1)
        (of_wish (λ member. (list : InnerList) × (member ≡ InnerMember list) × Fact x.0 list) i x.2)

    to_wish : (i : ℕ) (cause : WishFault) → IsWantCause conf message (fault_at i cause) → IsSomeAnd (slice_get dict i) (λ wish. IsWishCause conf sign wish.value cause)
    to_wish i NotInnerList x = of_wish (λ member. (item : Item) × (member ≡ ItemMember item)) i x
    to_wish i (Ids f) x = of_list (λ s list. IsIdFault (components_in list) f) i x
    to_wish i Parameter x = of_list _ i x
    to_wish i AlgRefused x = of_list _ i x
    to_wish i AlgUnknown x = of_list _ i x
    to_wish i KeyUnknown x = of_list _ i x
    to_wish i Memory x = absurd x

    from_wish : (i : ℕ) (cause : WishFault) → IsSomeAnd (slice_get dict i) (λ wish. IsWishCause conf sign wish.value cause) → IsWantCause conf message (fault_at i cause)
    from_wish i NotInnerList x = (dict, has, x)
    from_wish i (Ids f) x = (sign, configured, (dict, has, x))
    from_wish i Parameter x = (sign, configured, (dict, has, x))
    from_wish i AlgRefused x = (sign, configured, (dict, has, x))
    from_wish i AlgUnknown x = (sign, configured, (dict, has, x))
    from_wish i KeyUnknown x = (sign, configured, (dict, has, x))
    from_wish i Memory x = let here = some_and_parts (λ (wish : Pair Member). IsWishCause conf sign wish.value Memory) (slice_get dict i) x in absurd here.2

    not_absent : ¬ (dict ≡ []) → ¬ IsWantCause conf message want.Absent
    not_absent some (inl none) = none has.there
    not_absent some (inr empty) = some (one_dict message wish_name dict [] has empty)

    not_malformed : ¬ IsWantCause conf message want.Malformed
    not_malformed bad = bad.1 dict has

    -- no cause stands against a field all of whose wishes are met
    pub no_want_cause : ¬ (dict ≡ []) → HaveNoCause conf sign dict (length dict) → (fault : WantFault) → ¬ IsWantCause conf message fault
    no_want_cause some none fault holds = elim (parts_of fault) [
      | inl m ↦ rw m at holds
      | inr rest ↦ elim rest [
        | inl a ↦ not_absent some (rw a at holds)
        | inr others ↦ elim others [
          | inl b ↦ not_malformed (rw b at holds)
          | inr at_wish ↦
              let i = at_wish.0 in
              let cause = at_wish.1 in
              let here = some_and_parts (λ (wish : Pair Member). IsWishCause conf sign wish.value cause) (slice_get dict i) (to_wish i cause (rw at_wish.2 at holds)) in
              elim (cases_order i (length dict)) [
                | inl same ↦ let past = slice_get_past dict i (omega (arith, same)) in let there = here.1 in absurd (cc (past, there))
                | inr apart ↦ elim apart [
                  | inl before ↦ none i here.0 before here.1 cause here.2
                  | inr after ↦ let past = slice_get_past dict i (omega (arith, after)) in let there = here.1 in absurd (cc (past, there))
                ]
              ]
        ]
      ]
    ]

    -- the first wish that isn't met has the first cause
    pub first_want : ¬ (dict ≡ []) → (fault : WantFault) → IsFirstUnmet conf sign dict fault → IsWantFault conf message fault
    first_want some fault x =
        let i = x.0 in
        let cause = x.1 in
        let here = some_and_parts (λ (wish : Pair Member). IsWishFault conf sign wish.value cause) (slice_get dict i) x.4 in
        let low = below_6 cause here.0.value here.2 in
        record {
          holds = rw x.2 (from_wish i cause (some_and (λ (wish : Pair Member). IsWishCause conf sign wish.value cause) (slice_get dict i) here.0 here.1 here.2.holds));
          none_before = λ other lt h. earlier i cause here.0 here.1 here.2 x.3 low other (rw (x.2, order_at i cause low) at lt) h;
        }
      where
        below_6 : (cause : WishFault) (member : Member) → IsWishFault conf sign member cause → wish_order cause < 6
        below_6 NotInnerList member y = lit< tt
        below_6 (Ids f) member y = lit< tt
        below_6 Parameter member y = lit< tt
        below_6 AlgRefused member y = lit< tt
        below_6 AlgUnknown member y = lit< tt
        below_6 KeyUnknown member y = lit< tt
        below_6 Memory member y = absurd y.holds

        earlier : (i : ℕ) (cause : WishFault) (wish : Pair Member) → slice_get dict i ≡ Some wish → IsWishFault conf sign wish.value cause → HaveNoCause conf sign dict i → wish_order cause < 6
            → (other : WantFault) → want_order other < 4 + 6 * i + wish_order cause → ¬ IsWantCause conf message other
        earlier i cause wish there is none low other lt h = elim (parts_of other) [
          | inl m ↦ rw m at h
          | inr rest ↦ elim rest [
            | inl a ↦ not_absent some (rw a at h)
            | inr others ↦ elim others [
              | inl b ↦ not_malformed (rw b at h)
              | inr at_wish ↦
                  let j = at_wish.0 in
                  let c = at_wish.1 in
                  let less : 4 + 6 * j + wish_order c < 4 + 6 * i + wish_order cause = rw (at_wish.2, order_at j c at_wish.3) at lt in
                  let here = some_and_parts (λ (w : Pair Member). IsWishCause conf sign w.value c) (slice_get dict j) (to_wish j c (rw at_wish.2 at h)) in
                  let small = at_wish.3 in
                  elim (cases_order j i) [
                    | inl same ↦
                        let at_i : slice_get dict i ≡ Some here.0 = rw (← same) here.1 in
                        let one : here.0 ≡ wish = cc (at_i, there) in
                        is.none_before c (omega (arith, less, same)) (subst (λ (w : Pair Member). IsWishCause conf sign w.value c) one here.2)
                    | inr apart ↦ elim apart [
                      | inl before ↦ none j here.0 before here.1 c here.2
                      | inr after ↦ absurd (omega (arith, less, after, low, small))
                    ]
                  ]
            ]
          ]
        ]

  -- ---- at most one cause is the first

  has_wishes : (i : ℕ) (cause : WishFault) → IsWantCause conf message (fault_at i cause) → (dict : List (Pair Member)) × HasDict message wish_name dict
  has_wishes i NotInnerList x = (x.0, x.1)
  has_wishes i (Ids f) x = (x.2.0, x.2.1)
  has_wishes i Parameter x = (x.2.0, x.2.1)
  has_wishes i AlgRefused x = (x.2.0, x.2.1)
  has_wishes i AlgUnknown x = (x.2.0, x.2.1)
  has_wishes i KeyUnknown x = (x.2.0, x.2.1)
  has_wishes i Memory x = absurd x

  one_cause : (member : Member) (c d : WishFault) → wish_order c ≡ wish_order d → IsWishCause conf sign member c → IsWishCause conf sign member d → c ≡ d
  one_cause member NotInnerList NotInnerList same a b = refl
  one_cause member (Ids f) (Ids g) same a b =
      let e = a.1 in
      let d = b.1 in
      let lists : a.0 ≡ b.0 = cc (e, d) in
      ap (λ (x : IdFault). Ids x) (one_fault (components_in b.0) f g (subst (λ (l : InnerList). IsIdFault (components_in l) f) lists a.2) b.2)
  one_cause member Parameter Parameter same a b = refl
  one_cause member AlgRefused AlgRefused same a b = refl
  one_cause member AlgUnknown AlgUnknown same a b = refl
  one_cause member KeyUnknown KeyUnknown same a b = refl
  one_cause member Memory d same a b = absurd a
  one_cause member c Memory same a b = absurd b
  one_cause member c d same a b = absurd (cc same)

  one_at : (i j : ℕ) (c d : WishFault) → wish_order c < 6 → wish_order d < 6 → want_order (fault_at i c) ≡ want_order (fault_at j d) → IsWantCause conf message (fault_at i c)
      → IsWantCause conf message (fault_at j d) → fault_at i c ≡ fault_at j d
  one_at i j c d low small same a b =
      let sum : 4 + 6 * i + wish_order c ≡ 4 + 6 * j + wish_order d = sym (order_at i c low) ∙ (same ∙ order_at j d small) in
      let index : i ≡ j = omega (arith, sum, low, small) in
      let number : wish_order c ≡ wish_order d = omega (arith, sum, low, small) in
      let dict = has_wishes i c a in
      let one = some_and_parts (λ (w : Pair Member). IsWishCause conf sign w.value c) (slice_get dict.0 i) (to_wish dict.0 dict.1 i c a) in
      let two = some_and_parts (λ (w : Pair Member). IsWishCause conf sign w.value d) (slice_get dict.0 j) (to_wish dict.0 dict.1 j d b) in
      let at_j : slice_get dict.0 j ≡ Some one.0 = rw (← index) one.1 in
      let there = two.1 in
      let wish : one.0 ≡ two.0 = cc (at_j, there) in
      let cause : c ≡ d = one_cause two.0.value c d number (subst (λ (w : Pair Member). IsWishCause conf sign w.value c) wish one.2) two.2 in
      λ k. fault_at (index k) (cause k)

  pub determined : AreDetermined want_order (IsWantCause conf message)
  determined f g same a b = elim (parts_of f) [
    | inl m ↦ absurd (rw m at a)
    | inr rest ↦ elim rest [
      | inl absent ↦ elim (parts_of g) [
        | inl m ↦ absurd (rw m at b)
        | inr others ↦ elim others [
          | inl also ↦ absent ∙ sym also
          | inr more ↦ elim more [
            | inl malformed ↦ absurd (cc (rw (absent, malformed) at same))
            | inr x ↦ absurd (omega (arith, rw (absent, x.2, order_at x.0 x.1 x.3) at same))
          ]
        ]
      ]
      | inr later ↦ elim later [
        | inl malformed ↦ elim (parts_of g) [
          | inl m ↦ absurd (rw m at b)
          | inr others ↦ elim others [
            | inl absent ↦ absurd (cc (rw (malformed, absent) at same))
            | inr more ↦ elim more [
              | inl also ↦ malformed ∙ sym also
              | inr x ↦ absurd (omega (arith, rw (malformed, x.2, order_at x.0 x.1 x.3) at same))
            ]
          ]
        ]
        | inr y ↦ elim (parts_of g) [
          | inl m ↦ absurd (rw m at b)
          | inr others ↦ elim others [
            | inl absent ↦ absurd (omega (arith, rw (absent, y.2, order_at y.0 y.1 y.3) at same))
            | inr more ↦ elim more [
              | inl malformed ↦ absurd (omega (arith, rw (malformed, y.2, order_at y.0 y.1 y.3) at same))
              | inr x ↦ y.2 ∙ (one_at y.0 x.0 y.1 x.1 y.3 x.3 (rw (y.2, x.2) at same) (rw y.2 at a) (rw x.2 at b) ∙ sym x.2)
            ]
          ]
        ]
      ]
    ]
  ]

memory_or_not : IsMemoryDecided want.Memory
memory_or_not want.Memory = inl refl
memory_or_not want.Absent = inr (λ e. absurd cc)
memory_or_not want.Malformed = inr (λ e. absurd cc)
memory_or_not (want.NotInnerList i) = inr (λ e. absurd cc)
memory_or_not (want.Ids i f) = inr (λ e. absurd cc)
memory_or_not (want.Parameter i) = inr (λ e. absurd cc)
memory_or_not (want.AlgRefused i) = inr (λ e. absurd cc)
memory_or_not (want.AlgUnknown i) = inr (λ e. absurd cc)
memory_or_not (want.KeyUnknown i) = inr (λ e. absurd cc)

-- ---- the clauses of the call

module _ (conf : Configuration) (now : ℕ) (message : Message) where
  pub wished_is : (result : Result (List SignSpec) WantFault) → ExplainsWanted conf now message result → IfOk result (AreWished conf now message)
  wished_is (Ok specs) x = x.0
  wished_is (Err fault) x = tt

  pub valid_is : (result : Result (List SignSpec) WantFault) → ExplainsWanted conf now message result → IfOk result (λ (specs : List SignSpec). All IsValidSpec specs)
  valid_is (Ok specs) x = x.1
  valid_is (Err fault) x = tt

  named : (result : Result (List SignSpec) WantFault) → ExplainsWanted conf now message result → NamesFault want.Memory (IsWantFault conf message) result
  named (Ok specs) x = λ fault is. x.2 fault is.holds
  named (Err want.Memory) x = λ own. absurd (own refl)
  named (Err want.Absent) x = λ _. x
  named (Err want.Malformed) x = λ _. x
  named (Err (want.NotInnerList i)) x = λ _. x
  named (Err (want.Ids i f)) x = λ _. x
  named (Err (want.Parameter i)) x = λ _. x
  named (Err (want.AlgRefused i)) x = λ _. x
  named (Err (want.AlgUnknown i)) x = λ _. x
  named (Err (want.KeyUnknown i)) x = λ _. x

  pub some_sign : (o : Option SignConf) → IsSome o → (sign : SignConf) × (o ≡ Some sign)
  some_sign (Some sign) is = (sign, refl)
  some_sign None is = absurd cc

  pub fault_is : IsSome conf.sign → (result : Result (List SignSpec) WantFault) → ExplainsWanted conf now message result → (fault : WantFault) → fault ≢ want.Memory
      → AnswersWhere want.Memory result fault (IsWantFault conf message fault)
  fault_is configured result x =
      let sign = some_sign conf.sign configured in
      answers_where want.Memory memory_or_not (IsWantFault conf message) result
      (λ f g. first_is_one want_order (IsWantCause conf message) (determined conf sign.0 message sign.1) f g) (named result x)

  first_of_all : (fault : WantFault) → want_order fault ≡ 2 → IsWantCause conf message fault → IsWantFault conf message fault
  first_of_all fault two holds = record { holds = holds; none_before = λ other lt h. earlier other (rw two at lt) h } where
    earlier : (other : WantFault) → want_order other < 2 → ¬ IsWantCause conf message other
    earlier want.Memory lt h = h
    earlier want.Absent lt h = absurd (omega (arith, lt))
    earlier want.Malformed lt h = absurd (omega (arith, lt))
    earlier (want.NotInnerList i) lt h = absurd (omega (arith, lt))
    earlier (want.Ids i f) lt h = absurd (omega (arith, lt))
    earlier (want.Parameter i) lt h = absurd (omega (arith, lt))
    earlier (want.AlgRefused i) lt h = absurd (omega (arith, lt))
    earlier (want.AlgUnknown i) lt h = absurd (omega (arith, lt))
    earlier (want.KeyUnknown i) lt h = absurd (omega (arith, lt))

  pub no_field : ¬ HasField message wish_name → IsWantFault conf message want.Absent
  no_field none = first_of_all want.Absent refl (inl none)

  pub no_wishes : (dict : List (Pair Member)) → HasDict message wish_name dict → dict ≡ [] → IsWantFault conf message want.Absent
  no_wishes dict has empty = first_of_all want.Absent refl (inr (subst (λ (d : List (Pair Member)). HasDict message wish_name d) empty has))

  pub bad_field : HasField message wish_name × ((dict : List (Pair Member)) → ¬ HasDict message wish_name dict) → IsWantFault conf message want.Malformed
  bad_field bad = record { holds = bad; none_before = λ other lt h. earlier other lt h } where
    earlier : (other : WantFault) → want_order other < 3 → ¬ IsWantCause conf message other
    earlier want.Memory lt h = h
    earlier want.Absent lt (inl none) = none bad.0
    earlier want.Absent lt (inr empty) = bad.1 [] empty
    earlier want.Malformed lt h = absurd (omega (arith, lt))
    earlier (want.NotInnerList i) lt h = absurd (omega (arith, lt))
    earlier (want.Ids i f) lt h = absurd (omega (arith, lt))
    earlier (want.Parameter i) lt h = absurd (omega (arith, lt))
    earlier (want.AlgRefused i) lt h = absurd (omega (arith, lt))
    earlier (want.AlgUnknown i) lt h = absurd (omega (arith, lt))
    earlier (want.KeyUnknown i) lt h = absurd (omega (arith, lt))

  -- what the wishes are, as an answer of the field
  pub wishes_answered : (sign : SignConf) → conf.sign ≡ Some sign → (dict : List (Pair Member)) → HasDict message wish_name dict → ¬ (dict ≡ []) → (result : Result (List SignSpec) WantFault)
      → ExplainsWishes conf sign now dict result → ExplainsWanted conf now message result
  wishes_answered sign configured dict has some (Ok specs) x = (
    (dict, has, subst (λ (ws : List (Pair Member)). MeetWishes conf now ws specs) (take_all (length dict) dict (omega arith)) x.meet),
    x.valid,
    no_want_cause conf sign message configured dict has some x.none,
  )
  wishes_answered sign configured dict has some (Err fault) x = by_fault fault x where
    by_fault : (f : WantFault) → ExplainsWishes conf sign now dict (Err f) → ExplainsWanted conf now message (Err f)
    by_fault want.Memory y = tt
    by_fault want.Absent y = first_want conf sign message configured dict has some want.Absent y
    by_fault want.Malformed y = first_want conf sign message configured dict has some want.Malformed y
    by_fault (want.NotInnerList i) y = first_want conf sign message configured dict has some (want.NotInnerList i) y
    by_fault (want.Ids i f) y = first_want conf sign message configured dict has some (want.Ids i f) y
    by_fault (want.Parameter i) y = first_want conf sign message configured dict has some (want.Parameter i) y
    by_fault (want.AlgRefused i) y = first_want conf sign message configured dict has some (want.AlgRefused i) y
    by_fault (want.AlgUnknown i) y = first_want conf sign message configured dict has some (want.AlgUnknown i) y
    by_fault (want.KeyUnknown i) y = first_want conf sign message configured dict has some (want.KeyUnknown i) y
