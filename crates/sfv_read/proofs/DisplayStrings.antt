-- A Display String that is read is one, and one is read.
use Rattle.std.proofs.Common.{◌≡◌, inl, inr, ℕ, ◌<◌, true, false, not, List, [], ◌∷◌, ◌++◌, length, Some, None, Ok, Err, IsUtf8, refl, sym, ap, subst, ◌∙◌, append_assoc, arith}
use Rattle.std.specs.List.{list_all, flat_map}
use Rattle.std.proofs.lemmas.Bool.{cases_lt, eqb-true, leb-true}
use Rattle.std.proofs.lemmas.Bool.Decides.{nat_tests}
use Rattle.std.proofs.lemmas.List.{append-nil}
use Rattle.std.proofs.lemmas.Str.{IsUtf8-append, IsUtf8-nil, IsUtf8-from_is_utf8, is_utf8-from_IsUtf8, encode_ascii}
use lib.Utf8.{scalar, scalars, encode, encodes}
use Rattle.byte_grammar.specs.Language.{Each, after_all, starts_in}
use Rattle.byte_grammar.specs.tools.Languages.{Then, Mapped, Optional, IsByte, IsAll}
use Rattle.byte_grammar.specs.Walk.{◌>>=◌}
use Rattle.byte_grammar.specs.tools.Walks.{Next, with_turns, turns_read, optional_read}
use Rattle.byte_grammar.proofs.Laws.{Meets, meets_then, meets_same, meets_map, and_is, any_next, next_more}
use Rattle.byte_grammar.proofs.ChoiceLaws.{Starts, meets_optional, optional_follow, starts_next}
use Rattle.byte_grammar.proofs.LeafLaws.{meets_byte, meets_all}
use Rattle.byte_grammar.proofs.TurnLaws.{meets_each, starts_length, turns_step, shorter}
use Rattle.sfv_text.specs.Range.{is_unencoded, is_byte}
use Rattle.sfv_text.specs.Strict.{encoded_byte}
use Rattle.sfv_text.proofs.Utf8Bytes.{utf8_bytes}
use Rattle.sfv_read.specs.BareItem.{IsDisplayByte, IsDisplayString}
use Rattle.sfv_read.specs.Class.{is_percent, is_quote}
use Rattle.sfv_read.specs.tools.DisplayWalk.{with_run, encoded_run_read, next_encoded_run_read, display_characters_read, display_string_read}
use Rattle.sfv_read.proofs.EncodedBytes.{IsCharacter, meets_character}
use Rattle.sfv_read.proofs.Utf8Characters.{character_utf8, character_text, encode_character, encode_high, is_high, ascii_utf8}

-- ---- runs

-- an encoded character, and bytes that stand for themselves
abbrev Run : List ℕ → List ℕ → Type 0
Run x run = Then IsCharacter (λ c. Mapped (λ (r : List ℕ). c ++ r) (IsAll is_unencoded)) x run

meets_run : Meets Run (λ _ c. not (is_unencoded c)) encoded_run_read
unfolding encoded_run_read
meets_run =
    meets_then meets_character (λ c. meets_map {G = λ _ c. not (is_unencoded c)} (meets_all is_unencoded) (λ (r : List ℕ). c ++ r) (λ v d h. h))
    (λ x c h. ([], c ++ [], ([], record { same = refl; passes = refl }, refl)))
    (λ c y v r h after. any_next (y ++ r))

character_starts : (x s : List ℕ) → IsCharacter x s → Starts is_percent x
character_starts x s t = subst (λ (y : List ℕ). Starts is_percent y) (sym (t.joined ∙ ap (λ (y : List ℕ). y ++ t.second) t.spells.0)) refl

run_starts : (x run : List ℕ) → Run x run → Starts is_percent x
run_starts x run t = front t.first t.second x t.joined (character_starts t.first t.value t.spells)
  where
    front : (a b x : List ℕ) → x ≡ a ++ b → Starts is_percent a → Starts is_percent x
    front [] b x e h = absurd h
    front (c ∷ a) b x e h = subst (λ (y : List ℕ). Starts is_percent y) (sym e) h

percent_next : (c : ℕ) → is_percent c ≡ true → not (is_unencoded c) ≡ true
percent_next c e = subst (λ (c : ℕ). not (is_unencoded c) ≡ true) (sym (eqb-true c 37 e)) refl

quote_next : (c : ℕ) → is_quote c ≡ true → not (is_unencoded c) ≡ true
quote_next c e = subst (λ (c : ℕ). not (is_unencoded c) ≡ true) (sym (eqb-true c 34 e)) refl

meets_runs : Meets (Each Run) (λ _ c. is_quote c) (λ bytes. turns_read next_encoded_run_read bytes)
unfolding next_encoded_run_read
meets_runs =
    meets_each is_percent is_quote meets_run run_starts (λ v c e. percent_next c e) (λ v c e. quote_next c e)
    (λ c e. subst (λ (c : ℕ). not (is_percent c) ≡ true) (sym (eqb-true c 34 e)) refl)

runs_next : (x : List ℕ) (runs : List (List ℕ)) (r : List ℕ) → Each Run x runs → Next is_quote r → Next (λ c. not (is_unencoded c)) (x ++ r)
runs_next x [] r h after = subst (λ (y : List ℕ). Next (λ c. not (is_unencoded c)) (y ++ r)) (sym h) (next_more is_quote (λ c. not (is_unencoded c)) quote_next r after)
runs_next x (run ∷ runs) r h after =
    subst (λ (y : List ℕ). Next (λ c. not (is_unencoded c)) y) (sym (ap (λ (y : List ℕ). y ++ r) h.2 ∙ append_assoc h.0 h.1 r))
    (starts_next is_percent (λ c. not (is_unencoded c)) percent_next h.0 (h.1 ++ r) (run_starts h.0 run h.3))

-- bytes that stand for themselves, and runs
abbrev Runs : List ℕ → List ℕ → Type 0
Runs x s = Then (IsAll is_unencoded) (λ run. Mapped (λ (runs : List (List ℕ)). after_all with_run run runs) (Each Run)) x s

-- ---- the bytes that they give

-- the bytes of a text inside a Display String
abbrev IsInside : List ℕ → List ℕ → Type 0
IsInside x s = Each IsDisplayByte x s × IsUtf8 s

each_joined : (s t x y : List ℕ) → Each IsDisplayByte x s → Each IsDisplayByte y t → Each IsDisplayByte (x ++ y) (s ++ t)
each_joined [] t x y h k = subst (λ (x : List ℕ). Each IsDisplayByte (x ++ y) t) (sym h) k
each_joined (b ∷ s) t x y h k = (h.0, h.1 ++ y, ap (λ (x : List ℕ). x ++ y) h.2 ∙ append_assoc h.0 h.1 y, h.3, each_joined s t h.1 y h.4 k)

inside_joined : (x s y t : List ℕ) → IsInside x s → IsInside y t → IsInside (x ++ y) (s ++ t)
inside_joined x s y t h k = (each_joined s t x y h.0 k.0, IsUtf8-append s t h.1 k.1)

unencoded_low : (c : ℕ) → is_unencoded c ≡ true → c < 128
unencoded_low c h = grind (arith, nat_tests)

raw_inside : (v : List ℕ) → list_all is_unencoded v ≡ true → IsInside v v
raw_inside [] all = (refl, IsUtf8-nil)
raw_inside (c ∷ v) all =
    let both = and_is (is_unencoded c) (list_all is_unencoded v) all in
    inside_joined (c ∷ []) (c ∷ []) v v ((c ∷ [], [], refl, inl (refl, both.0), refl), ascii_utf8 c (unencoded_low c both.0)) (raw_inside v both.1)

encoded_each : (s : List ℕ) → list_all is_byte s ≡ true → Each IsDisplayByte (flat_map encoded_byte s) s
encoded_each [] all = refl
encoded_each (b ∷ s) all =
    let both = and_is (is_byte b) (list_all is_byte s) all in
    (encoded_byte b, flat_map encoded_byte s, refl, inr (refl, both.0), encoded_each s both.1)

character_inside : (x s : List ℕ) → IsCharacter x s → IsInside x s
character_inside x s h =
    let u = character_utf8 x s h in
    (subst (λ (x : List ℕ). Each IsDisplayByte x s) (sym (character_text x s h)) (encoded_each s (utf8_bytes s (is_utf8-from_IsUtf8 s u))), u)

run_inside : (x run : List ℕ) → Run x run → IsInside x run
run_inside x run t =
    let plain = raw_inside t.more.0 t.more.1.passes in
    let first = character_inside t.first t.value t.spells in
    subst (λ (x : List ℕ). IsInside x run) (sym (t.joined ∙ ap (λ (y : List ℕ). t.first ++ y) t.more.1.same))
    (subst (λ (s : List ℕ). IsInside (t.first ++ t.more.0) s) t.more.2 (inside_joined t.first t.value t.more.0 t.more.0 first plain))

runs_inside : (runs : List (List ℕ)) (x s y : List ℕ) → IsInside y s → Each Run x runs → IsInside (y ++ x) (after_all with_run s runs)
runs_inside [] x s y is h = subst (λ (z : List ℕ). IsInside z s) (sym (ap (λ (x : List ℕ). y ++ x) h ∙ append-nil y)) is
runs_inside (run ∷ runs) x s y is h =
    subst (λ (z : List ℕ). IsInside z (after_all with_run (s ++ run) runs)) (append_assoc y h.0 h.1 ∙ ap (λ (x : List ℕ). y ++ x) (sym h.2))
    (runs_inside runs h.1 (s ++ run) (y ++ h.0) (inside_joined y s h.0 run is (run_inside h.0 run h.3)) h.4)

to_inside : (x s : List ℕ) → Runs x s → IsInside x s
to_inside x s t =
    subst (λ (s : List ℕ). IsInside x s) t.more.2
    (subst (λ (y : List ℕ). IsInside y (after_all with_run t.value t.more.0)) (ap (λ (y : List ℕ). y ++ t.second) (sym t.spells.same) ∙ sym t.joined)
    (runs_inside t.more.0 t.second t.value t.value (raw_inside t.value t.spells.passes) t.more.1))

-- ---- and UTF-8 is given by them

after_front : (front s : List ℕ) (runs : List (List ℕ)) → after_all with_run (front ++ s) runs ≡ front ++ after_all with_run s runs
after_front front s [] = refl
after_front front s (run ∷ runs) = ap (λ (t : List ℕ). after_all with_run t runs) (append_assoc front s run) ∙ after_front front (s ++ run) runs

one_raw : (c : ℕ) (x s : List ℕ) → is_unencoded c ≡ true → Runs x s → Runs (c ∷ x) (c ∷ s)
one_raw c x s plain t = record {
  first = c ∷ t.value;
  second = t.second;
  value = c ∷ t.value;
  joined = cc (t.joined, t.spells.same);
  spells = record { same = refl; passes = rw (plain, t.spells.passes) refl };
  more = (t.more.0, t.more.1, after_front (c ∷ []) t.value t.more.0 ∙ ap (λ (s : List ℕ). c ∷ s) t.more.2);
}

one_character : (y c x s : List ℕ) → IsCharacter y c → Runs x s → Runs (y ++ x) (c ++ s)
one_character y c x s is t = record {
  first = [];
  second = y ++ x;
  value = [];
  joined = refl;
  spells = record { same = refl; passes = refl };
  more = (
    (c ++ t.value) ∷ t.more.0,
    (
      y ++ t.value,
      t.second,
      ap (λ (z : List ℕ). y ++ z) (t.joined ∙ ap (λ (z : List ℕ). z ++ t.second) t.spells.same) ∙ sym (append_assoc y t.value t.second),
      record { first = y; second = t.value; value = c; joined = refl; spells = is; more = (t.value, record { same = refl; passes = t.spells.passes }, refl) },
      t.more.1,
    ),
    after_front c t.value t.more.0 ∙ ap (λ (s : List ℕ). c ++ s) t.more.2,
  );
}

high_encoded : (x : List ℕ) (b : ℕ) → is_high b ≡ true → IsDisplayByte x b → x ≡ encoded_byte b
high_encoded x b high (inl h) = absurd (omega (arith, unencoded_low b h.1, leb-true _ _ high))
high_encoded x b high (inr h) = h.0

-- bytes outside ASCII are encoded
all_encoded : (s t x : List ℕ) → list_all is_high s ≡ true → Each IsDisplayByte x (s ++ t) → (r : List ℕ) × (x ≡ flat_map encoded_byte s ++ r) × Each IsDisplayByte r t
all_encoded [] t x high h = (x, refl, h)
all_encoded (b ∷ s) t x high h =
    let both = and_is (is_high b) (list_all is_high s) high in
    let rest = all_encoded s t h.1 both.1 h.4 in
    let first : h.0 ≡ encoded_byte b = high_encoded h.0 b both.0 h.3 in (
      rest.0,
      h.2 ∙ (λ i. first i ++ rest.1 i) ∙ sym (append_assoc (encoded_byte b) (flat_map encoded_byte s) rest.0),
      rest.2,
    )

one_more : (c : ℕ) → scalar c ≡ true → (x s : List ℕ) → ((y : List ℕ) → Each IsDisplayByte y s → Runs y s) → Each IsDisplayByte x (encode c ++ s) → Runs x (encode c ++ s)
one_more c ok x s others h = elim (cases_lt c 128) [
  | inl low ↦
      let e : encode c ≡ c ∷ [] = encode_ascii c low in
      let k : Each IsDisplayByte x (c ∷ s) = subst (λ (t : List ℕ). Each IsDisplayByte x (t ++ s)) e h in
      subst (λ (t : List ℕ). Runs x (t ++ s)) (sym e) (ascii e k.0 k.1 k.2 k.3 (others k.1 k.4))
  | inr high ↦
      let k = all_encoded (encode c) s x (encode_high c high) h in
      subst (λ (y : List ℕ). Runs y (encode c ++ s)) (sym k.1) (one_character (flat_map encoded_byte (encode c)) (encode c) k.0 s (encode_character c ok) (others k.0 k.2))
]
  where
    ascii : encode c ≡ c ∷ [] → (first second : List ℕ) → x ≡ first ++ second → IsDisplayByte first c → Runs second s → Runs x (c ∷ s)
    ascii e first second joined (inl raw) t =
        subst (λ (y : List ℕ). Runs y (c ∷ s)) (sym (joined ∙ ap (λ (y : List ℕ). y ++ second) raw.0)) (one_raw c second s raw.1 t)
    ascii e first second joined (inr enc) t =
        let is : IsCharacter (encoded_byte c) (c ∷ []) = subst (λ (t : List ℕ). IsCharacter (flat_map encoded_byte t) t) e (encode_character c ok) in
        subst (λ (y : List ℕ). Runs y (c ∷ s)) (sym (joined ∙ ap (λ (y : List ℕ). y ++ second) enc.0)) (one_character (encoded_byte c) (c ∷ []) second s is t)

from_characters : (cs : List ℕ) → scalars cs ≡ true → (x : List ℕ) → Each IsDisplayByte x (encodes cs) → Runs x (encodes cs)
from_characters [] ok x h = record { first = []; second = x; value = []; joined = refl; spells = record { same = refl; passes = refl }; more = ([], h, refl) }
from_characters (c ∷ cs) ok x h =
    let both = and_is (scalar c) (scalars cs) ok in
    one_more c both.0 x (encodes cs) (from_characters cs both.1) h

from_inside : (x s : List ℕ) → IsInside x s → Runs x s
from_inside x s h =
    let u = h.1 in
    subst (λ (s : List ℕ). Runs x s) u.1.1 (from_characters u.0 u.1.0 x (subst (λ (s : List ℕ). Each IsDisplayByte x s) (sym u.1.1) h.0))

meets_inside : Meets IsInside (λ _ c. is_quote c) display_characters_read
unfolding display_characters_read
meets_inside =
    meets_same
    (meets_then (meets_all is_unencoded)
    (λ run. meets_map {G = λ _ c. is_quote c} meets_runs (λ (runs : List (List ℕ)). after_all with_run run runs) (λ v c h. h))
    (λ x run h. ([], run, ([], refl, refl)))
    (λ run y v r h after. runs_next y h.0 r h.1 after))
    to_inside from_inside (λ v c h. h)

-- ---- Display Strings

End : List ℕ → List ℕ → List ℕ → Type 0
End s x v = Mapped (λ (_ : ℕ). s) (IsByte is_quote) x v

module _ where
  abbrev Quoted : List ℕ → List ℕ → Type 0
  Quoted x s = Then (IsByte is_quote) (λ _. Then IsInside End) x s

end_quote : (s : List ℕ) → End s (34 ∷ []) s
unfolding End
end_quote s = (34, record { same = refl; passes = refl }, refl)

end_next : (s x v r : List ℕ) → End s x v → Next is_quote (x ++ r)
unfolding End
end_next s x v r h = subst (λ (y : List ℕ). Next is_quote (y ++ r)) (sym h.1.same) h.1.passes

nothing_inside : IsInside [] []
nothing_inside = (refl, IsUtf8-nil)

pub meets_display_string : Meets IsDisplayString (λ _ _. true) display_string_read
unfolding display_string_read End
meets_display_string =
    meets_same
    (meets_then (meets_byte is_percent 37 refl (λ _ _. true))
    (λ _. meets_then (meets_byte is_quote 34 refl (λ _ _. true))
    (λ _. meets_then meets_inside
    (λ s. meets_map {G = λ _ _. true} (meets_byte is_quote 34 refl (λ _ _. true)) (λ (_ : ℕ). s) (λ v c h. h))
    (λ x s h. (34 ∷ [], s, end_quote s))
    (λ s y v r h after. end_next s y v r h))
    (λ x u h. (34 ∷ [], [], empty_end))
    (λ u y v r h after. any_next (y ++ r)))
    (λ x u h. (34 ∷ 34 ∷ [], [], record { first = 34 ∷ []; second = 34 ∷ []; value = 34; joined = refl; spells = record { same = refl; passes = refl }; more = empty_end }))
    (λ u y v r h after. any_next (y ++ r)))
    to from (λ v c h. h)
  where
    empty_end : Then IsInside End (34 ∷ []) []
    empty_end = record { first = []; second = 34 ∷ []; value = []; joined = refl; spells = nothing_inside; more = end_quote [] }

    to : (x s : List ℕ) → Then (IsByte is_percent) (λ _. Quoted) x s → IsDisplayString x s
    to x s t =
        let q = t.more in
        let i = q.more in
        let e = i.more.1 in
        subst (λ (s : List ℕ). IsDisplayString x s) i.more.2 (record {
          inside = i.first;
          joined = cc (t.joined, t.spells.same, eqb-true t.value 37 t.spells.passes, q.joined, q.spells.same, eqb-true q.value 34 q.spells.passes, i.joined, e.same, eqb-true i.more.0 34 e.passes);
          each = i.spells.0;
          utf8 = is_utf8-from_IsUtf8 i.value i.spells.1;
        })

    from : (x s : List ℕ) → IsDisplayString x s → Then (IsByte is_percent) (λ _. Quoted) x s
    from x s h = record {
      first = 37 ∷ [];
      second = 34 ∷ (h.inside ++ 34 ∷ []);
      value = 37;
      joined = h.joined;
      spells = record { same = refl; passes = refl };
      more = record {
        first = 34 ∷ [];
        second = h.inside ++ 34 ∷ [];
        value = 34;
        joined = refl;
        spells = record { same = refl; passes = refl };
        more = record { first = h.inside; second = 34 ∷ []; value = s; joined = refl; spells = (h.each, IsUtf8-from_is_utf8 s h.utf8); more = end_quote s };
      };
    }

-- ---- how a loop over runs goes on

meets_turn : Meets (Optional Run) (optional_follow is_percent (λ _ c. not (is_unencoded c))) next_encoded_run_read
unfolding next_encoded_run_read
meets_turn = meets_optional is_percent meets_run run_starts

run_grows : (x run : List ℕ) → Optional Run x (Some run) → 0 < length x
run_grows x run h = starts_length is_percent x (run_starts x run h)

pub runs_step : (bytes : List ℕ) → turns_read next_encoded_run_read bytes ≡ (next_encoded_run_read bytes >>= λ a. with_turns a.0 a.1 (turns_read next_encoded_run_read a.1))
runs_step bytes = turns_step meets_turn run_grows bytes

pub runs_shorter : (bytes run rest : List ℕ) → next_encoded_run_read bytes ≡ Ok (Some run, rest) → length rest < length bytes
runs_shorter bytes run rest e = shorter meets_turn run_grows bytes run rest e

-- a turn, where a `%` comes and where none does
module _ (bytes : List ℕ) where
  pub no_run : starts_in is_percent bytes ≡ false → next_encoded_run_read bytes ≡ Ok (None, bytes)
  unfolding next_encoded_run_read optional_read
  no_run none = rw none refl

  pub some_run : (run rest : List ℕ) → starts_in is_percent bytes ≡ true → encoded_run_read bytes ≡ Ok (run, rest) → next_encoded_run_read bytes ≡ Ok (Some run, rest)
  unfolding next_encoded_run_read optional_read
  some_run run rest some e = rw (some, e) refl

  pub run_err : (n : ℕ) → starts_in is_percent bytes ≡ true → encoded_run_read bytes ≡ Err n → next_encoded_run_read bytes ≡ Err n
  unfolding next_encoded_run_read optional_read
  run_err n some e = rw (some, e) refl
