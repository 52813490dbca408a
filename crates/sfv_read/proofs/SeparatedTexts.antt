-- Members separated by commas, as a whole text: once for every kind of member.
use Rattle.std.proofs.Common.{◌≡◌, ℕ, ◌<◌, ◌||◌, Bool, true, false, not, eqb, List, [], ◌∷◌, ◌++◌, length, Option, Some, None, Result, Ok, Err, refl, sym, ap, subst, ◌∙◌, append_assoc, arith}
use Rattle.std.specs.List.{list_all}
use Rattle.std.proofs.lemmas.Bool.{eqb-true}
use Rattle.std.proofs.lemmas.List.{append-nil, length-append}
use Rattle.byte_grammar.specs.Language.{Each, IsFurther}
use Rattle.byte_grammar.specs.tools.Languages.{Then, Turns, Mapped, Optional, IsByte, IsAll}
use Rattle.byte_grammar.specs.Walk.{◌>>=◌}
use Rattle.byte_grammar.specs.tools.Walks.{Next, with_turns, turns_read, with_state}
use Rattle.byte_grammar.specs.Classes.{is_space, is_blank}
use Rattle.sfv_read.specs.Class.{is_comma}
use Rattle.sfv_read.specs.Member.{IsComma, AreMembers}
use Rattle.sfv_read.specs.tools.MemberWalk.{further_read, next_member_read, members_read, members_or_none, some_members_read, separated_read}
use Rattle.byte_grammar.proofs.Laws.{Meets, meets_then, meets_same, meets_map, and_is, any_next}
use Rattle.byte_grammar.proofs.ChoiceLaws.{Starts, meets_optional, optional_follow, starts_next}
use Rattle.byte_grammar.proofs.LeafLaws.{meets_byte, meets_all}
use Rattle.byte_grammar.proofs.TurnLaws.{meets_turns, starts_length, turns_step, shorter}
use Rattle.byte_grammar.proofs.Loops.{state_cons}
use Rattle.byte_grammar.proofs.Whole.{Nothing}

-- members, from the first on
module _ {S V : Type 0} (f : S → V → S) (s : S) (p : List ℕ → Result (V × List ℕ) ℕ) (bytes : List ℕ) where
  pub members_err : (n : ℕ) → p bytes ≡ Err n → with_state f s (members_read p bytes) ≡ Err n
  unfolding members_read
  members_err n e = rw e refl

  pub members_first : (v : V) (rest : List ℕ) → p bytes ≡ Ok (v, rest) → with_state f (f s v) (turns_read (next_member_read p) rest) ≡ with_state f s (members_read p bytes)
  unfolding members_read
  members_first v rest e = rw e (state_cons f s v (turns_read (next_member_read p) rest))

module _ {V : Type 0} {M : List ℕ → V → Type 0} {F : V → ℕ → Bool} {p : List ℕ → Result (V × List ℕ) ℕ} (m : Meets M F p)
    (begins : (x : List ℕ) (v : V) → M x v → Starts (λ c. not (is_blank c)) x) (commas : (v : V) → F v 44 ≡ true) (blanks : (v : V) (c : ℕ) → is_blank c ≡ true → F v c ≡ true)
    (some : List ℕ) (some_value : V) (is_some : M some some_value) where
  abbrev Further : List ℕ → V → Type 0
  Further x v = Then (IsByte is_comma) (λ _. Then (IsAll is_blank) (λ _. M)) x v

  meets_further : Meets Further F (further_read p)
  unfolding further_read
  meets_further =
      meets_then (meets_byte is_comma 44 refl (λ _ _. true))
      (λ _. meets_then (meets_all is_blank) (λ _. m) (λ x u h. (some, some_value, is_some))
      (λ u y v r h after. starts_next (λ c. not (is_blank c)) (λ c. not (is_blank c)) (λ c h. h) y r (begins y v h)))
      (λ x u h. (some, some_value, record { first = []; second = some; value = []; joined = refl; spells = record { same = refl; passes = refl }; more = is_some }))
      (λ u y v r h after. any_next (y ++ r))

  further_starts : (x : List ℕ) (v : V) → Further x v → Starts is_comma x
  further_starts x v t = subst (λ (y : List ℕ). Starts is_comma y) (sym (t.joined ∙ ap (λ (y : List ℕ). y ++ t.second) t.spells.same)) t.spells.passes

  slot : Option V → ℕ → Bool
  slot None c = false
  slot (Some v) c = F v c

  abbrev Turn : List ℕ → Option V → Type 0
  Turn x o = Then (IsAll is_blank) (λ _. Optional Further) x o

  meets_turn : Meets Turn slot (next_member_read p)
  unfolding next_member_read slot
  meets_turn =
      meets_then (meets_all is_blank)
      (λ _. meets_same {G = slot} (meets_optional is_comma meets_further further_starts) (λ x o h. h) (λ x o h. h) sub)
      (λ x u h. ([], None, refl)) (λ u y o r h after. next y o r h after)
    where
      sub : (o : Option V) (c : ℕ) → slot o c ≡ true → optional_follow is_comma F o c ≡ true
      sub None c h = absurd (cc (h))
      sub (Some v) c h = h

      next : (y : List ℕ) (o : Option V) (r : List ℕ) → Optional Further y o → Next (slot o) r → Next (λ c. not (is_blank c)) (y ++ r)
      next y None [] h after = subst (λ (y : List ℕ). Next (λ c. not (is_blank c)) (y ++ [])) (sym h) tt
      next y None (c ∷ r) h after = absurd (cc (after))
      next y (Some v) r h after = starts_next is_comma (λ c. not (is_blank c)) (λ c e. subst (λ (c : ℕ). not (is_blank c) ≡ true) (sym (eqb-true c 44 e)) refl) y r (further_starts y v h)

  turn_next : (v : V) (x : List ℕ) (o : Option V) (r : List ℕ) → Turn x o → Next (slot o) r → Next (F v) (x ++ r)
  unfolding slot
  turn_next v x o r t after =
      subst (λ (y : List ℕ). Next (F v) (y ++ r)) (sym (t.joined ∙ ap (λ (y : List ℕ). y ++ t.second) t.spells.same)) (go t.value t.spells.passes o t.more after)
    where
      ends : (o : Option V) (y : List ℕ) → Optional Further y o → Next (slot o) r → Next (F v) (y ++ r)
      ends None y h after = subst (λ (y : List ℕ). Next (F v) (y ++ r)) (sym h) (nothing r after)
        where
          nothing : (r : List ℕ) → Next (λ _. false) r → Next (F v) r
          nothing [] after = tt
          nothing (c ∷ r) after = absurd (cc (after))
      ends (Some w) y h after = starts_next is_comma (F v) (λ c e. subst (λ (c : ℕ). F v c ≡ true) (sym (eqb-true c 44 e)) (commas v)) y r (further_starts y w h)

      go : (s : List ℕ) → list_all is_blank s ≡ true → (o : Option V) → Optional Further t.second o → Next (slot o) r → Next (F v) ((s ++ t.second) ++ r)
      go [] all o h after = ends o t.second h after
      go (c ∷ s) all o h after = blanks v c (and_is (is_blank c) (list_all is_blank s) all).0

  pub turn_grows : (x : List ℕ) (v : V) → Turn x (Some v) → 0 < length x
  turn_grows x v t =
      let comma : 0 < length t.second = starts_length is_comma t.second (further_starts t.second v t.more) in
      omega (arith, comma, length-append t.first t.second, ap (λ (y : List ℕ). length y) t.joined)

  no_turn : Turn [] None
  no_turn = record { first = []; second = []; value = []; joined = refl; spells = record { same = refl; passes = refl }; more = refl }

  meets_turns_of : Meets (Turns Turn) Nothing (turns_read (next_member_read p))
  unfolding slot
  meets_turns_of = meets_turns meets_turn turn_grows ([], no_turn) turn_next

  turns_next : (v : V) (vs : List V) (x : List ℕ) (r : List ℕ) → Turns Turn x vs → Next (λ _. false) r → Next (F v) (x ++ r)
  unfolding slot
  turns_next v [] x r h after = turn_next v x None r h after
  turns_next v (w ∷ vs) x r h after =
      subst (λ (y : List ℕ). Next (F v) y) (sym (ap (λ (y : List ℕ). y ++ r) h.2 ∙ append_assoc h.0 h.1 r)) (turn_next v h.0 (Some w) (h.1 ++ r) h.3 (turns_next w vs h.1 r h.4 after))

  abbrev Body : List ℕ → List V → Type 0
  Body x vs = Then M (λ v. Mapped (λ (vs : List V). v ∷ vs) (Turns Turn)) x vs

  meets_body : Meets Body Nothing (members_read p)
  unfolding members_read
  meets_body =
      meets_then m (λ v. meets_map {G = Nothing} meets_turns_of (λ (vs : List V). v ∷ vs) (λ vs c h. h))
      (λ x v h. ([], v ∷ [], ([], no_turn, refl))) (λ v y vs r h after. turns_next v h.0 y r h.1 after)

  body_starts : (x : List ℕ) (vs : List V) → Body x vs → Starts (λ c. not (is_blank c)) x
  body_starts x vs t = subst (λ (y : List ℕ). Starts (λ c. not (is_blank c)) y) (sym t.joined) (go t.first t.second (begins t.first t.value t.spells))
    where
      go : (x y : List ℕ) → Starts (λ c. not (is_blank c)) x → Starts (λ c. not (is_blank c)) (x ++ y)
      go [] y h = absurd h
      go (c ∷ x) y h = h

  starts_any : (P : ℕ → Bool) (x : List ℕ) → Starts P x → Starts (λ _. true) x
  starts_any P [] h = absurd h
  starts_any P (c ∷ x) h = refl

  ows_space : (c : ℕ) → not (is_blank c) ≡ true → not (is_space c) ≡ true
  ows_space c h = go (eqb c 32) (eqb c 9) h
    where
      go : (a b : Bool) → not (a || b) ≡ true → not a ≡ true
      go true b h = absurd (cc (h))
      go false b h = refl

  meets_some : Meets (Mapped members_or_none (Optional Body)) Nothing (some_members_read p)
  unfolding some_members_read
  meets_some = meets_map (meets_optional (λ _. true) meets_body (λ x vs h. starts_any (λ c. not (is_blank c)) x (body_starts x vs h))) members_or_none sub
    where
      sub : (o : Option (List V)) (c : ℕ) → false ≡ true → optional_follow (λ _. true) Nothing o c ≡ true
      sub o c h = absurd (cc (h))

  abbrev pub SeparatedText : List ℕ → List V → Type 0
  SeparatedText x vs = Then (IsAll is_space) (λ _. Mapped members_or_none (Optional Body)) x vs

  pub meets_separated_text : Meets SeparatedText Nothing (separated_read p)
  unfolding separated_read
  meets_separated_text =
      meets_then (meets_all is_space) (λ _. meets_some) (λ x u h. ([], [], (None, refl, refl))) (λ u y vs r h after. next y h.0 r h.1 after)
    where
      next : (y : List ℕ) (o : Option (List V)) (r : List ℕ) → Optional Body y o → Next (λ _. false) r → Next (λ c. not (is_space c)) (y ++ r)
      next y None [] h after = subst (λ (y : List ℕ). Next (λ c. not (is_space c)) (y ++ [])) (sym h) tt
      next y None (c ∷ r) h after = absurd (cc (after))
      next y (Some vs) r h after = starts_next (λ c. not (is_blank c)) (λ c. not (is_space c)) ows_space y r (body_starts y vs h)

  -- ---- as joined texts

  to_further : (x : List ℕ) (v : V) → Turn x (Some v) → IsFurther IsComma M x v
  to_further x v t =
      let f = t.more in
      record {
        separator = t.value ++ 44 ∷ f.more.value;
        rest = f.more.second;
        joined = cc (t.joined, t.spells.same, f.joined, f.spells.same, eqb-true f.value 44 f.spells.passes, f.more.joined, f.more.spells.same, append_assoc t.value (44 ∷ f.more.value) f.more.second);
        separates = record { before = t.value; after = f.more.value; joined = refl; blanks_before = t.spells.passes; blanks_after = f.more.spells.passes };
        spells = f.more.more;
      }

  from_further : (x : List ℕ) (v : V) → IsFurther IsComma M x v → Turn x (Some v)
  from_further x v h =
      let s = h.separates in
      record {
        first = s.before;
        second = 44 ∷ (s.after ++ h.rest);
        value = s.before;
        joined = h.joined ∙ ap (λ (y : List ℕ). y ++ h.rest) s.joined ∙ append_assoc s.before (44 ∷ s.after) h.rest;
        spells = record { same = refl; passes = s.blanks_before };
        more = record {
          first = 44 ∷ [];
          second = s.after ++ h.rest;
          value = 44;
          joined = refl;
          spells = record { same = refl; passes = refl };
          more = record { first = s.after; second = h.rest; value = s.after; joined = refl; spells = record { same = refl; passes = s.blanks_after }; more = h.spells };
        };
      }

  to_turns : (vs : List V) (x : List ℕ) → Turns Turn x vs → (y after : List ℕ) × (x ≡ y ++ after) × Each (IsFurther IsComma M) y vs × (list_all is_blank after ≡ true)
  to_turns [] x t = ([], t.value, t.joined ∙ ap (λ (y : List ℕ). t.first ++ y) t.more ∙ append-nil t.first ∙ t.spells.same, refl, t.spells.passes)
  to_turns (v ∷ vs) x (first, second, e, t, others) =
      let rest = to_turns vs second others in
      (first ++ rest.0, rest.1, e ∙ ap (λ (y : List ℕ). first ++ y) rest.2 ∙ sym (append_assoc first rest.0 rest.1), (first, rest.0, refl, to_further first v t, rest.3), rest.4)

  from_turns : (vs : List V) (y after : List ℕ) → Each (IsFurther IsComma M) y vs → list_all is_blank after ≡ true → Turns Turn (y ++ after) vs
  from_turns [] y after h all = subst (λ (y : List ℕ). Turn (y ++ after) None) (sym h) (record { first = after; second = []; value = after; joined = sym (append-nil after); spells = record { same = refl; passes = all }; more = refl })
  from_turns (v ∷ vs) y after h all =
      (h.0, h.1 ++ after, ap (λ (y : List ℕ). y ++ after) h.2 ∙ append_assoc h.0 h.1 after, from_further h.0 v h.3, from_turns vs h.1 after h.4 all)

  to_members : (x : List ℕ) (vs : List V) → SeparatedText x vs → AreMembers M x vs
  to_members x vs t = go t.more.0 t.more.1 t.more.2
    where
      go : (o : Option (List V)) → Optional Body t.second o → members_or_none o ≡ vs → AreMembers M x vs
      go None h e =
          let text : x ≡ t.value = t.joined ∙ ap (λ (y : List ℕ). y ++ t.second) t.spells.same ∙ ap (λ (y : List ℕ). t.value ++ y) h ∙ append-nil t.value in
          subst (λ (vs : List V). AreMembers M x vs) e (ap (list_all is_space) text ∙ t.spells.passes)
      go (Some ws) b e =
          let turns = to_turns b.more.0 b.second b.more.1 in
          let same : b.value ∷ b.more.0 ≡ vs = b.more.2 ∙ e in
          subst (λ (vs : List V). AreMembers M x vs) same (record {
            before = t.value;
            members = b.first ++ turns.0;
            after = turns.1;
            joined = t.joined ∙ ap (λ (y : List ℕ). y ++ t.second) t.spells.same ∙ ap (λ (y : List ℕ). t.value ++ y) (b.joined ∙ ap (λ (y : List ℕ). b.first ++ y) turns.2 ∙ sym (append_assoc b.first turns.0 turns.1));
            spaces_before = t.spells.passes;
            blanks_after = turns.4;
            are_members = (b.first, turns.0, refl, b.spells, turns.3);
          })

  from_members : (x : List ℕ) (vs : List V) → AreMembers M x vs → SeparatedText x vs
  from_members x [] h = record { first = x; second = []; value = x; joined = sym (append-nil x); spells = record { same = refl; passes = h }; more = (None, refl, refl) }
  from_members x (v ∷ vs) h = record {
    first = h.before;
    second = h.members ++ h.after;
    value = h.before;
    joined = h.joined;
    spells = record { same = refl; passes = h.spaces_before };
    more = (
      Some (v ∷ vs),
      record {
        first = h.are_members.0;
        second = h.are_members.1 ++ h.after;
        value = v;
        joined = ap (λ (y : List ℕ). y ++ h.after) h.are_members.2 ∙ append_assoc h.are_members.0 h.are_members.1 h.after;
        spells = h.are_members.3;
        more = (vs, from_turns vs h.are_members.1 h.after h.are_members.4 h.blanks_after, refl);
      },
      refl,
    );
  }

  pub meets_separated : Meets (AreMembers M) Nothing (separated_read p)
  meets_separated = meets_same meets_separated_text to_members from_members (λ v c h. h)

  -- how a loop over members goes on
  pub separated_step : (bytes : List ℕ) → turns_read (next_member_read p) bytes ≡ (next_member_read p bytes >>= λ a. with_turns a.0 a.1 (turns_read (next_member_read p) a.1))
  separated_step bytes = turns_step meets_turn turn_grows bytes

  pub separated_shorter : (bytes : List ℕ) (v : V) (rest : List ℕ) → next_member_read p bytes ≡ Ok (Some v, rest) → length rest < length bytes
  separated_shorter bytes v rest e = shorter meets_turn turn_grows bytes v rest e
