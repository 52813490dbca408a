-- On what messages agree.
use Rattle.std.proofs.Common.{◌≡◌, ◌↔◌, ◌==◌, ◌<◌, ◌≤◌, ◌+◌, ℕ, zero, suc, Bool, true, false, nat_lt, List, [], ◌∷◌, ◌++◌, length, take, get_or, All, inl, inr, refl, sym, ap, subst, ◌∙◌, arith}
use Rattle.std.specs.Prelude.{filter, codes}
use Rattle.std.specs.List.{flat_map}
use Rattle.std.specs.Str.{bytes_eq}
use Rattle.std.proofs.lemmas.Bool.{cases_Bool, eqb-true, eq-eqb, false≢true, lt-ltb}
use Rattle.std.proofs.lemmas.List.{length-append, nil_from_length, take_all, take_more}
use Rattle.std.proofs.lemmas.List.Elements.{All-append, All-cons, All-nil}
use Rattle.std.proofs.lemmas.Option.{slice_get-get_or}
use Rattle.std.proofs.lemmas.Slice.Eq.{bytes_eq-Decides}
use Rattle.byte_grammar.proofs.Indices.{slice_get_take}
use Rattle.msg_head.specs.Heads.{Head, IsHead}
use Rattle.msg_head.specs.Lines.{FieldLine, IsLine, line_text}
use Rattle.msg_head.specs.Names.{has_name}
use Rattle.msg_head.specs.Starts.{start_text}
use Rattle.msg_head.specs.Values.{is_there, joined_value, values}
use Rattle.msg_head.proofs.OneHeads.{one_head_of_text_law}
use Rattle.msg_body.specs.Messages.{Message}
use Rattle.msg_body.specs.Views.{lines_on}
use Rattle.msg_body.specs.SameFields.{HasSameField}
use Rattle.component_ids.specs.Table.{has_param}
use Rattle.component_ids.specs.declared.id.ComponentId.{ComponentId}
use Rattle.component_values.specs.Alike.{is_own_field}
use Rattle.component_values.specs.Values.{side_of}
use Rattle.normal_forms.specs.Agreement.{AgreeOn, AreOfOneBasis, HasSameBasis}
use Rattle.normal_forms.specs.Causes.{basis_order}
use Rattle.normal_forms.specs.declared.basis.Basis.{Basis}
use Rattle.normal_forms.specs.declared.basis.Basis.TheVariants.{StartLine as BasisStart}
use Rattle.normal_forms.specs.tools.Judged.{IsFirstOther}
use Rattle.normal_forms.proofs.AlikeForms.{values_of_form, same_in_form}
use Rattle.normal_forms.proofs.AlikeLists.{as_field, of_lines, of_values}
use Rattle.normal_forms.proofs.OneExplanation.{all_bases, all_there, basis_by_order, order_found}

-- ---- lists of lines

-- one more element
pub all_more : {X : Type 0} (Holds : X → Type 0) (xs : List X) (i : ℕ) (d : X) → i < length xs → All Holds (take i xs) → Holds (get_or xs i d) → All Holds (take (i + 1) xs)
all_more Holds xs i d less before here =
    subst (λ (ys : List _). All Holds ys) (sym (take_more xs i d less))
    (All-append Holds (take i xs) (get_or xs i d ∷ []) before (All-cons Holds (get_or xs i d) [] here (All-nil Holds)))

there_is : (lines : List FieldLine) (name : List ℕ) → is_there lines name ≡ nat_lt 0 (length (filter (has_name name) lines))
there_is [] name = refl
there_is (line ∷ lines) name = elim (cases_Bool (has_name name line)) [
  | inl named ↦ rw named (sym (lt-ltb 0 (suc (length (filter (has_name name) lines))) (omega arith)))
  | inr apart ↦ rw apart (there_is lines name)
]

above : (n : ℕ) → (n == 0) ≡ false → nat_lt 0 n ≡ true
above zero none = absurd (false≢true (sym none))
above (suc n) none = lt-ltb 0 (suc n) (omega arith)

not_above : (n : ℕ) → nat_lt 0 n ≡ false → n ≡ 0
not_above zero none = refl
not_above (suc n) none = absurd (false≢true (sym none ∙ lt-ltb 0 (suc n) (omega arith)))

module _ (lines others ours theirs : List FieldLine) (name : List ℕ) (ours_are : ours ≡ filter (has_name name) lines) (theirs_are : theirs ≡ filter (has_name name) others) where
  our_count : is_there lines name ≡ nat_lt 0 (length ours)
  our_count = there_is lines name ∙ ap (λ (ls : List FieldLine). nat_lt 0 (length ls)) (sym ours_are)

  their_count : is_there others name ≡ nat_lt 0 (length theirs)
  their_count = there_is others name ∙ ap (λ (ls : List FieldLine). nat_lt 0 (length ls)) (sym theirs_are)

  counts : HasSameField lines others name → nat_lt 0 (length theirs) ≡ nat_lt 0 (length ours)
  counts same = sym their_count ∙ (same.there ∙ our_count)

  -- where one has none, the other is to have none
  pub none_same : (result : Bool) → (length ours == 0) ≡ true → result ≡ (length theirs == 0) → (result ≡ true) ↔ HasSameField lines others name
  none_same result none is = (
    λ yes.
        let none_there : length theirs ≡ 0 = eqb-true (length theirs) 0 (sym is ∙ yes) in
        let same : theirs ≡ ours = nil_from_length theirs none_there ∙ sym (nil_from_length ours (eqb-true (length ours) 0 none)) in
        as_field lines others name (of_lines lines others name (sym theirs_are ∙ (same ∙ ours_are))),
    λ same.
        let none_here : nat_lt 0 (length ours) ≡ false = ap (λ n. nat_lt 0 n) (eqb-true (length ours) 0 none) in
        is ∙ eq-eqb (length theirs) 0 (not_above (length theirs) (counts same ∙ none_here)),
  )

  -- where one has some, the other is to have some
  pub some_apart : (length ours == 0) ≡ false → (length theirs == 0) ≡ true → (false ≡ true) ↔ HasSameField lines others name
  some_apart some none = (
    λ no. absurd (false≢true no),
    λ same.
        let none_there : nat_lt 0 (length theirs) ≡ false = ap (λ n. nat_lt 0 n) (eqb-true (length theirs) 0 none) in
        absurd (false≢true (sym none_there ∙ (counts same ∙ above (length ours) some))),
  )

  -- where both have some, the values are to be the same
  pub both_there : (length ours == 0) ≡ false → (length theirs == 0) ≡ false → (Same : Type 0) → Same ↔ (joined_value ours ≡ joined_value theirs) → Same ↔ HasSameField lines others name
  both_there some some_too Same test = (
    λ yes. record {
      there = their_count ∙ (above (length theirs) some_too ∙ (sym (above (length ours) some) ∙ sym our_count));
      combined = ap joined_value (sym theirs_are) ∙ (sym (test.0 yes) ∙ ap joined_value ours_are);
    },
    λ same. test.1 (ap joined_value ours_are ∙ (sym same.combined ∙ ap joined_value (sym theirs_are))),
  )

-- ---- components

-- of a component line by line the values are compared
pub wrapped_agree : (message other : Message) (id : ComponentId) (result : Bool) → is_own_field id ≡ true → has_param id.params (codes "bs") ≡ true
    → (result ≡ true) ↔ (values (lines_on (side_of id.params) other) id.name ≡ values (lines_on (side_of id.params) message) id.name) → (result ≡ true) ↔ AgreeOn message other id
wrapped_agree message other id result own wrapped test =
    let lines = lines_on (side_of id.params) message in
    let others = lines_on (side_of id.params) other in (
      λ yes. λ field.
          let same = of_values lines others id.name (test.0 yes) in
          same_in_form lines others id.name (as_field lines others id.name same) id.params (λ w. same),
      λ agree. test.1 (values_of_form lines others id.name id.params wrapped (agree own)).same,
    )

-- ---- the basis

-- a head's start line and an empty line are a head
alone : (head : Head) → IsHead head → IsHead (record { start = head.start; lines = [] })
alone head is = record {
  start = is.start;
  lines = All-nil IsLine;
  few = omega arith;
  short =
      let whole = length-append (start_text head.start) (flat_map line_text head.lines ++ codes "\r\n") in
      let rest = length-append (flat_map line_text head.lines) (codes "\r\n") in
      let here = length-append (start_text head.start) (codes "\r\n") in
      let short = is.short in
      omega (arith, whole, rest, here, short);
}

-- start lines of one text are the same
one_start : (head other : Head) → IsHead head → IsHead other → start_text head.start ≡ start_text other.start → other.start ≡ head.start
one_start head other a b same =
    let text : start_text other.start ++ codes "\r\n" ≡ start_text head.start ++ codes "\r\n" = ap (λ t. t ++ codes "\r\n") (sym same) in
    ap (λ (h : Head). h.start) (one_head_of_text_law (start_text other.start ++ codes "\r\n") (record { start = other.start; lines = [] }) (record { start = head.start; lines = [] })
    (record { is = alone other b; text = refl }) (record { is = alone head a; text = text }))

pub start_decides : (message other : Message) (basis : Basis) (result : Bool) → IsHead message.head → IsHead other.head → basis ≡ BasisStart
    → result ≡ bytes_eq (start_text message.head.start) (start_text other.head.start) → (result ≡ true) ↔ HasSameBasis message other basis
start_decides message other basis result a b start test =
    let decides = bytes_eq-Decides (start_text message.head.start) (start_text other.head.start) in
    subst (λ (some : Basis). (result ≡ true) ↔ HasSameBasis message other some) (sym start) (
      λ yes. one_start message.head other.head a b (decides.0 (sym test ∙ yes)),
      λ same. test ∙ decides.1 (ap start_text (sym same)),
    )

-- ---- all that is judged

module _ (message other : Message) (i : ℕ) where
  -- the first that differs
  pub first_other_is : (d : Basis) → i < length all_bases → All (HasSameBasis message other) (take i all_bases) → (HasSameBasis message other (get_or all_bases i d) → ⊥)
      → IsFirstOther message other (get_or all_bases i d)
  first_other_is d less before apart = record {
    holds = apart;
    none_before = λ b earlier differs.
        let there = slice_get-get_or all_bases i d less in
        let within : basis_order b < i = subst (λ (n : ℕ). basis_order b < n) (order_found i (get_or all_bases i d) there) earlier in
        differs (all_there (HasSameBasis message other) (take i all_bases) (basis_order b) b before (slice_get_take all_bases i (basis_order b) within ∙ basis_by_order b));
  }

  -- none differs
  pub one_basis_is : length all_bases ≤ i → All (HasSameBasis message other) (take i all_bases) → AreOfOneBasis message other
  one_basis_is all same basis =
      all_there (HasSameBasis message other) all_bases (basis_order basis) basis
      (subst (λ (bs : List Basis). All (HasSameBasis message other) bs) (take_all i all_bases all) same) (basis_by_order basis)
