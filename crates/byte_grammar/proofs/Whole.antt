-- A whole text: its reading, and the offset where it stops.
use Rattle.std.proofs.Common.{◌≡◌, ℕ, ◌+◌, ◌-◌, ◌≤◌, Bool, true, false, not, List, [], ◌∷◌, ◌++◌, length, take, drop, Result, Ok, Err, refl, sym, ap, subst, ◌∙◌, append_assoc, inl, inr, arith}
use Rattle.std.specs.List.{list_all}
use Rattle.std.proofs.lemmas.List.{append-nil, length-append, take_at, take-append-drop, length-drop}
use Rattle.byte_grammar.specs.Language.{Begins, Padded}
use Rattle.byte_grammar.specs.tools.Languages.{IsAll}
use Rattle.byte_grammar.specs.Walk.{◌>>=◌}
use Rattle.byte_grammar.specs.tools.Walks.{left, Next, padded_read, value_at_end, whole_read, unread}
use Rattle.byte_grammar.proofs.Laws.{Meets, meets_then, meets_same, meets_map, and_is, ok_is, not_err, left_less, bind_ok, bind_err}
use Rattle.byte_grammar.proofs.LeafLaws.{meets_all}
use Rattle.byte_grammar.specs.FaultOffset.{IsFaultOffset}

-- what only the end may follow
abbrev pub Nothing : {V : Type 0} → V → ℕ → Bool
Nothing _ c = false

module _ {V : Type 0} {L : List ℕ → V → Type 0} {F : V → ℕ → Bool} {p : List ℕ → Result (V × List ℕ) ℕ} (blank : ℕ → Bool) (m : Meets L F p) where
  -- blanks at both ends, around a text that begins with none
  pub meets_padded : ((v : V) (c : ℕ) → blank c ≡ true → F v c ≡ true) → ((x : List ℕ) (v : V) (r : List ℕ) → L x v → Next (λ c. not (blank c)) (x ++ r))
      → (x : List ℕ) (v : V) → L x v → Meets (Padded blank L) Nothing (padded_read blank p)
  unfolding padded_read
  meets_padded follows begin some some_value is_some =
      meets_same
      (meets_then (meets_all blank)
      (λ _. meets_then m (λ v. meets_map {G = Nothing} (meets_all blank) (λ (_ : List ℕ). v) (λ v c h. absurd (cc (h))))
      (λ x u h. ([], u, ([], record { same = refl; passes = refl }, refl)))
      (λ u y v r h after. ends_next u y h.0 r h.1 after))
      (λ x u h. (some, some_value, record { first = some; second = []; value = some_value; joined = sym (append-nil some); spells = is_some; more = ([], record { same = refl; passes = refl }, refl) }))
      (λ u y v r h after. subst (λ (y : List ℕ). Next (λ c. not (blank c)) y) (sym (ap (λ (y : List ℕ). y ++ r) h.joined ∙ append_assoc h.first h.second r)) (begin h.first h.value (h.second ++ r) h.spells)))
      (λ x v t. record {
        before = t.first;
        middle = t.more.first;
        after = t.more.second;
        joined = t.joined ∙ ap (λ (y : List ℕ). t.first ++ y) t.more.joined;
        class_before = ap (list_all blank) t.spells.same ∙ t.spells.passes;
        class_after = ap (list_all blank) t.more.more.1.same ∙ t.more.more.1.passes;
        spells = subst (λ (v : V). L t.more.first v) t.more.more.2 t.more.spells;
      })
      (λ x v h. record {
        first = h.before;
        second = h.middle ++ h.after;
        value = h.before;
        joined = h.joined;
        spells = record { same = refl; passes = h.class_before };
        more = record { first = h.middle; second = h.after; value = v; joined = refl; spells = h.spells; more = (h.after, record { same = refl; passes = h.class_after }, refl) };
      })
      (λ v c h. absurd (cc (h)))
    where
      ends_next : (u : V) (y w : List ℕ) (r : List ℕ) → IsAll blank y w → Next (Nothing u) r → Next (F u) (y ++ r)
      ends_next u [] w [] h after = tt
      ends_next u [] w (c ∷ r) h after = absurd (cc (after))
      ends_next u (c ∷ y) w r h after = follows u c (and_is (blank c) (list_all blank y) (ap (list_all blank) h.same ∙ h.passes)).0

-- ---- a whole text

module _ {V : Type 0} {L : List ℕ → V → Type 0} {p : List ℕ → Result (V × List ℕ) ℕ} (m : Meets L Nothing p) where
  take_prefix : (x rest : List ℕ) (text : List ℕ) → text ≡ x ++ rest → take (length text - length rest) text ≡ x
  take_prefix x rest text e =
      let count : length text - length rest ≡ length x = omega (arith, length-append x rest, ap (λ (y : List ℕ). length y) e) in
      ap (λ (n : ℕ). take n text) count ∙ ap (λ (y : List ℕ). take (length x) y) e ∙ take_at x rest (length x) refl

  -- where it stops the text so far begins the language
  pub stops_prefix : (text : List ℕ) (n : ℕ) → p text ≡ Err n → Begins L (take (length text - n) text)
  stops_prefix text n e =
      let s = m.err text n e in
      subst (λ (y : List ℕ). Begins L y) (sym (ap (λ (n : ℕ). take (length text - n) text) (sym s.3) ∙ take_prefix s.0 s.1 text s.2)) s.4

  -- and no longer prefix does
  pub stops_far : (text : List ℕ) (k : ℕ) → Begins L (take k text) → left (p text) ≤ length (drop k text)
  stops_far text k b = subst (λ (y : List ℕ). left (p y) ≤ length (drop k text)) (take-append-drop k text) (m.far (take k text) b.0 (drop k text) b.1 b.2)

  pub whole_ok : (text : List ℕ) (v : V) → p text ≡ Ok (v, []) → L text v
  whole_ok text v e = let s = m.ok text v [] e in subst (λ (y : List ℕ). L y v) (sym (s.1 ∙ append-nil s.0)) s.2

  pub whole_only : (text : List ℕ) (v : V) → L text v → p text ≡ Ok (v, [])
  whole_only text v h = ap p (sym (append-nil text)) ∙ m.only text [] v h tt

  stopped_within : (text : List ℕ) (n : ℕ) → left (p text) ≡ n → n ≤ length text
  stopped_within text n e = omega (arith, left_less m text)

  is_offset : (text : List ℕ) (n : ℕ) → left (p text) ≡ n → ((v : V) → L text v → ⊥) → Begins L (take (length text - n) text) → IsFaultOffset L text (length text - n)
  is_offset text n e none prefix = record {
    none = none;
    within = omega arith;
    begins = prefix;
    last = λ lt b. omega (arith, stops_far text (length text - n + 1) b, length-drop (length text - n + 1) text, stopped_within text n e);
  }

  err_none : (text : List ℕ) (n : ℕ) → p text ≡ Err n → (w : V) → L text w → ⊥
  err_none text n e w h = not_err _ _ (sym (whole_only text w h) ∙ e)

  rest_none : (text : List ℕ) (v : V) (c : ℕ) (rest : List ℕ) → p text ≡ Ok (v, c ∷ rest) → (w : V) → L text w → ⊥
  rest_none text v c rest e w h =
      let same : c ∷ rest ≡ [] = ap (λ (a : V × List ℕ). a.1) (ok_is _ _ (sym e ∙ whole_only text w h)) in
      absurd (cc same)

  err_offset : (text : List ℕ) (n : ℕ) → p text ≡ Err n → IsFaultOffset L text (length text - n)
  err_offset text n e = is_offset text n (ap (λ (r : Result (V × List ℕ) ℕ). left r) e) (err_none text n e) (stops_prefix text n e)

  rest_offset : (text : List ℕ) (v : V) (c : ℕ) (rest : List ℕ) → p text ≡ Ok (v, c ∷ rest) → IsFaultOffset L text (length text - length (c ∷ rest))
  rest_offset text v c rest e =
      let s = m.ok text v (c ∷ rest) e in
      is_offset text (length (c ∷ rest)) (ap (λ (r : Result (V × List ℕ) ℕ). left r) e) (rest_none text v c rest e)
      (subst (λ (y : List ℕ). Begins L y) (sym (take_prefix s.0 (c ∷ rest) text s.1)) ([], v, subst (λ (y : List ℕ). L y v) (sym (append-nil s.0)) s.2))

-- a reading of whole texts judges the language and the offset of each fault
pub record Judges {V : Type 0} (L : List ℕ → V → Type 0) (r : List ℕ → Result V ℕ) : Type 0 where
  pub ok : (text : List ℕ) (v : V) → r text ≡ Ok v → L text v
  pub only : (text : List ℕ) (v : V) → L text v → r text ≡ Ok v
  pub within : (text : List ℕ) (n : ℕ) → r text ≡ Err n → n ≤ length text
  pub offset : (text : List ℕ) (n : ℕ) → r text ≡ Err n → IsFaultOffset L text (length text - n)
  pub begins : (text : List ℕ) → unread (r text) ≡ 0 → Begins L text
  pub all : (text : List ℕ) → Begins L text → unread (r text) ≡ 0

empty : (x : List ℕ) → length x ≡ 0 → x ≡ []
empty [] e = refl
empty (c ∷ x) e = absurd (omega arith)

module _ {V : Type 0} {L : List ℕ → V → Type 0} {p : List ℕ → Result (V × List ℕ) ℕ} (m : Meets L Nothing p) where
  ended_ok : (v : V) (rest : List ℕ) (w : V) → value_at_end v rest ≡ Ok w → (v ≡ w) × (rest ≡ [])
  ended_ok v [] w e = (ok_is _ _ e, refl)
  ended_ok v (c ∷ rest) w e = absurd (cc e)

  ended_err : (v : V) (rest : List ℕ) (n : ℕ) → value_at_end v rest ≡ Err n → (c : ℕ) × (more : List ℕ) × (rest ≡ c ∷ more) × (length (c ∷ more) ≡ n)
  ended_err v [] n e = absurd (not_err _ _ e)
  ended_err v (c ∷ rest) n e = (c, rest, refl, cc e)

  unread_left : (r : Result (V × List ℕ) ℕ) → unread (r >>= λ a. value_at_end a.0 a.1) ≡ left r
  unread_left (Ok (v, [])) = refl
  unread_left (Ok (v, c ∷ rest)) = refl
  unread_left (Err n) = refl

  pub judges : Judges L (whole_read p)
  unfolding whole_read
  judges = record {
    ok = λ text v e.
        let b = bind_ok (p text) (λ a. value_at_end a.0 a.1) v e in
        let d = ended_ok b.0.0 b.0.1 v b.2 in
        whole_ok m text v (b.1 ∙ ap (λ (v : V). Ok (v, b.0.1)) d.0 ∙ ap (λ (rest : List ℕ). Ok (v, rest)) d.1);
    only = λ text v h. ap (λ (a : Result (V × List ℕ) ℕ). a >>= λ a. value_at_end a.0 a.1) (whole_only m text v h);
    within = λ text n e. stopped_within m text n (sym (unread_left (p text)) ∙ ap (λ (r : Result V ℕ). unread r) e);
    offset = λ text n e.
        elim (bind_err (p text) (λ a. value_at_end a.0 a.1) n e) [
          | inl w ↦ err_offset m text n w
          | inr b ↦
              let d = ended_err b.0.0 b.0.1 n b.2 in
              subst (λ (n : ℕ). IsFaultOffset L text (length text - n)) d.3 (rest_offset m text b.0.0 d.0 d.1 (b.1 ∙ ap (λ (rest : List ℕ). Ok (b.0.0, rest)) d.2))
        ];
    begins = λ text e. through text (p text) refl (sym (unread_left (p text)) ∙ e);
    all = λ text b. unread_left (p text) ∙ omega (arith, subst (λ (y : List ℕ). left (p y) ≤ 0) (append-nil text) (m.far text b.0 [] b.1 b.2));
  }
    where
      through : (text : List ℕ) (r : Result (V × List ℕ) ℕ) → p text ≡ r → left r ≡ 0 → Begins L text
      through text (Ok a) is e =
          let s = m.ok text a.0 a.1 is in
          ([], a.0, subst (λ (y : List ℕ). L y a.0) (sym (append-nil text ∙ s.1 ∙ ap (λ (y : List ℕ). s.0 ++ y) (empty a.1 e) ∙ append-nil s.0)) s.2)
      through text (Err n) is e =
          let s = m.err text n is in
          subst (λ (y : List ℕ). Begins L y) (sym (s.2 ∙ ap (λ (y : List ℕ). s.0 ++ y) (empty s.1 (s.3 ∙ e)) ∙ append-nil s.0)) s.4

-- a text has one value
pub one_value : {V : Type 0} {L : List ℕ → V → Type 0} {r : List ℕ → Result V ℕ} → Judges L r → (text : List ℕ) (v w : V) → L text v → L text w → v ≡ w
one_value j text v w a b = ok_is _ _ (sym (j.only text v a) ∙ j.only text w b)
