-- A label that stands nowhere in the text of a Dictionary is none of its keys.
use Rattle.std.proofs.Common.{◌≡◌, ◌⊎◌, ◌∙◌, ℕ, ◌+◌, Bool, true, false, ◌||◌, map, List, [], ◌∷◌, ◌++◌, length, get_or, None, Some, refl, sym, ap, append_assoc, length-append, arith, inl, inr}
use Rattle.std.specs.List.{list_any}
use Rattle.std.proofs.Math.ListN.{get_or-append}
use Rattle.std.proofs.lemmas.Bool.{cases_Bool, false≢true}
use Rattle.std.proofs.lemmas.List.{get_or-append-add}
use Rattle.std.proofs.lemmas.List.Folds.{list_any-append}
use Rattle.std.proofs.lemmas.Slice.Eq.{bytes_eq-Decides}
use Rattle.memchr.specs.Find.{FindsNeedle, OccursAt}
use Rattle.byte_grammar.specs.Language.{Each, IsFurther, after_all}
use Rattle.sfv_text.specs.Keys.{has_key, put, value_of, with_value}
use Rattle.sfv_text.specs.declared.pair.Pair.{Pair}
use Rattle.sfv_text.specs.declared.value.Member.{Member}
use Rattle.sfv_read.specs.Item.{IsKey, put_pair}
use Rattle.sfv_read.specs.Member.{AreMembers, IsComma, IsDictMember}
use Rattle.sfv_read.specs.Reads.{ReadsDict}

-- ---- texts in texts

record StandsIn (text part : List ℕ) : Type 0 where
  before : List ℕ
  after : List ℕ
  joined : text ≡ before ++ (part ++ after)

stands_left : (text one other part : List ℕ) → text ≡ one ++ other → StandsIn one part → StandsIn text part
stands_left text one other part e s = record {
  before = s.before;
  after = s.after ++ other;
  joined = e ∙ ap (λ (t : List ℕ). t ++ other) s.joined ∙ append_assoc s.before (part ++ s.after) other ∙ ap (λ (t : List ℕ). s.before ++ t) (append_assoc part s.after other);
}

stands_right : (text one other part : List ℕ) → text ≡ one ++ other → StandsIn other part → StandsIn text part
stands_right text one other part e s = record {
  before = one ++ s.before;
  after = s.after;
  joined = e ∙ ap (λ (t : List ℕ). one ++ t) s.joined ∙ sym (append_assoc one s.before (part ++ s.after));
}

occurs : (text part : List ℕ) (s : StandsIn text part) → OccursAt text part (length s.before)
occurs text part s = record {
  fits = omega (arith, ap (length {A = ℕ}) s.joined, length-append s.before (part ++ s.after), length-append part s.after);
  reads = λ j low. ap (λ (x : List ℕ). get_or x (length s.before + j) 0) s.joined ∙ get_or-append-add s.before (part ++ s.after) j 0 ∙ get_or-append part s.after 0 j low;
}

-- what isn't found stands nowhere
never_found : (text part : List ℕ) → FindsNeedle text part 0 None → ¬ StandsIn text part
never_found text part none s = let at = occurs text part s in none (length s.before) (omega arith) (omega (arith, at.fits)) at

-- ---- keys

or_cases : (a b : Bool) → (a || b) ≡ true → (a ≡ true) ⊎ (b ≡ true)
or_cases true b is = inl refl
or_cases false b is = inr is

module _ {V : Type 0} (label : List ℕ) where
  has_value : (ps : List (Pair V)) (v : V) → value_of ps label ≡ Some v → list_any (has_key label) ps ≡ true
  has_value [] v is = absurd cc
  has_value (p ∷ ps) v is = elim (cases_Bool (has_key label p)) [
    | inl own ↦ rw own refl
    | inr not ↦ rw not (has_value ps v (rw not at is))
  ]

  same_key : (key : List ℕ) (v : V) (p : Pair V) → has_key label (with_value key v p) ≡ has_key label p
  same_key key v p = elim (cases_Bool (has_key key p)) [
    | inl own ↦ rw own refl
    | inr not ↦ rw not refl
  ]

  same_keys : (key : List ℕ) (v : V) (ps : List (Pair V)) → list_any (has_key label) (map (with_value key v) ps) ≡ list_any (has_key label) ps
  same_keys key v [] = refl
  same_keys key v (p ∷ ps) = rw (same_key key v p, same_keys key v ps) refl

  key_put : (ps : List (Pair V)) (p : Pair V) → list_any (has_key label) (put_pair ps p) ≡ true → (list_any (has_key label) ps ≡ true) ⊎ (has_key label p ≡ true)
  key_put ps p is = elim (cases_Bool (list_any (has_key p.key) ps)) [
    | inl there ↦ inl (sym (same_keys p.key p.value ps) ∙ rw there at is)
    | inr new ↦ elim (or_cases (list_any (has_key label) ps) (has_key label p || false) (sym (list_any-append (has_key label) ps (p ∷ [])) ∙ rw new at is)) [
      | inl old ↦ inl old
      | inr own ↦ inr (elim (or_cases (has_key label p) false own) [
        | inl e ↦ e
        | inr e ↦ absurd (false≢true e)
      ])
    ]
  ]

  key_written : (ps written : List (Pair V)) → list_any (has_key label) (after_all put_pair ps written) ≡ true
      → (list_any (has_key label) ps ≡ true) ⊎ (list_any (has_key label) written ≡ true)
  key_written ps [] is = inl is
  key_written ps (p ∷ others) is = elim (key_written (put_pair ps p) others is) [
    | inl put ↦ elim (key_put ps p put) [
      | inl old ↦ inl old
      | inr own ↦ inr (rw own refl)
    ]
    | inr later ↦ inr (elim (cases_Bool (has_key label p)) [
      | inl own ↦ rw own refl
      | inr not ↦ rw not later
    ])
  ]

-- ---- members

module _ (label : List ℕ) where
  key_is : (text key : List ℕ) → IsKey text key → text ≡ key
  key_is text [] is = absurd is
  key_is text (c ∷ rest) is = is.0

  member_stands : (text : List ℕ) (p : Pair Member) → IsDictMember text p → has_key label p ≡ true → StandsIn text label
  member_stands text p is own = record {
    before = [];
    after = is.rest;
    joined = is.joined ∙ ap (λ (k : List ℕ). k ++ is.rest) (key_is is.key p.key is.is_key ∙ (bytes_eq-Decides p.key label).0 own);
  }

  others_stand : (text : List ℕ) (ps : List (Pair Member)) → Each (IsFurther IsComma IsDictMember) text ps → list_any (has_key label) ps ≡ true → StandsIn text label
  others_stand text [] each some = absurd (false≢true some)
  others_stand text (p ∷ ps) each some = elim (or_cases (has_key label p) (list_any (has_key label) ps) some) [
    | inl own ↦
        stands_left text each.0 each.1 label each.2 (stands_right each.0 each.3.separator each.3.rest label each.3.joined (member_stands each.3.rest p each.3.spells own))
    | inr later ↦ stands_right text each.0 each.1 label each.2 (others_stand each.1 ps each.4 later)
  ]

  members_stand : (text : List ℕ) (ps : List (Pair Member)) → AreMembers IsDictMember text ps → list_any (has_key label) ps ≡ true → StandsIn text label
  members_stand text [] are some = absurd (false≢true some)
  members_stand text (p ∷ ps) are some =
      let m = are.are_members in
      stands_right text are.before (are.members ++ are.after) label are.joined (stands_left (are.members ++ are.after) are.members are.after label refl (elim (or_cases (has_key label p) (list_any (has_key label) ps) some) [
        | inl own ↦ stands_left are.members m.0 m.1 label m.2 (member_stands m.0 p m.3 own)
        | inr later ↦ stands_right are.members m.0 m.1 label m.2 (others_stand m.1 ps m.4 later)
      ]))

  -- a member's key stands in the text
  pub never_a_key : (text : List ℕ) (dict : List (Pair Member)) (member : Member) → FindsNeedle text label 0 None → ReadsDict text dict → ¬ (value_of dict label ≡ Some member)
  never_a_key text dict member none reads is =
      let there = has_value label dict member is in
      elim (key_written label [] reads.0 (ap (λ (ps : List (Pair Member)). list_any (has_key label) ps) (sym reads.2) ∙ there)) [
        | inl e ↦ false≢true e
        | inr written ↦ never_found text label none (members_stand text reads.0 reads.1 written)
      ]
