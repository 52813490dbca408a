-- A string that is read is one, and a string is read.
use Rattle.std.proofs.Common.{◌≡◌, ℕ, ◌<◌, ◌&&◌, ◌||◌, Bool, true, false, not, cond, eqb, List, [], ◌∷◌, ◌++◌, length, Some, None, Ok, Err, refl, sym, ap, subst, ◌∙◌, append_assoc, arith}
use Rattle.std.specs.List.{list_all, flat_map}
use Rattle.std.proofs.lemmas.Bool.{eqb-true}
use Rattle.std.proofs.lemmas.Bool.Decides.{nat_tests}
use Rattle.std.proofs.lemmas.List.{append-nil}
use Rattle.std.proofs.lemmas.List.Concat.{flat_map-append}
use Rattle.byte_grammar.specs.Language.{Each, IsWord, after_all, starts_in}
use Rattle.byte_grammar.specs.tools.Languages.{Then, Mapped, Optional, IsByte, IsAll}
use Rattle.byte_grammar.specs.Walk.{◌>>=◌}
use Rattle.byte_grammar.specs.tools.Walks.{Next, with_turns, turns_read, optional_read}
use Rattle.sfv_text.specs.Range.{is_string_byte}
use Rattle.sfv_text.specs.Strict.{character_text}
use Rattle.sfv_read.specs.BareItem.{IsString}
use Rattle.sfv_read.specs.tools.BareWalk.{with_run, escaped_run_read, next_run_read, characters_read, string_read}
use Rattle.sfv_read.specs.Class.{is_unescaped, is_escapable, is_quote, is_backslash}
use Rattle.byte_grammar.proofs.Laws.{Meets, meets_then, meets_same, meets_map, and_is, any_next, next_more}
use Rattle.byte_grammar.proofs.ChoiceLaws.{Starts, meets_optional, optional_follow, starts_next}
use Rattle.byte_grammar.proofs.LeafLaws.{meets_byte, meets_all, meets_word}
use Rattle.byte_grammar.proofs.ListLaws.{all_joined}
use Rattle.byte_grammar.proofs.TurnLaws.{meets_each, starts_length, turns_step, shorter}

-- ---- characters

-- an unescaped character is its own text
plain_bare : (c : ℕ) → is_unescaped c ≡ true → is_escapable c ≡ false
plain_bare c is = go (eqb c 34) (eqb c 92) (and_is _ _ (and_is _ _ is).1)
  where
    go : (q b : Bool) → (not q ≡ true) × (not b ≡ true) → (q || b) ≡ false
    go false false h = refl
    go false true h = absurd (cc (h.1))
    go true b h = absurd (cc (h.0))

escapable_printable : (c : ℕ) → is_escapable c ≡ true → is_string_byte c ≡ true
escapable_printable c is = grind (arith, nat_tests)

unescaped_is : (s q b : Bool) → s ≡ true → (q || b) ≡ false → (s && (not q && not b)) ≡ true
unescaped_is true false false e h = refl
unescaped_is true false true e h = absurd cc
unescaped_is true true b e h = absurd cc
unescaped_is false q b e h = absurd cc

text_of : (b : Bool) (c : ℕ) → is_escapable c ≡ b → character_text c ≡ cond b (92 ∷ c ∷ []) (c ∷ [])
text_of b c e = ap (λ (b : Bool). cond b (92 ∷ c ∷ []) (c ∷ [])) e

-- a text of these characters
abbrev IsCharacters : List ℕ → List ℕ → Type 0
IsCharacters x s = (x ≡ flat_map character_text s) × (list_all is_string_byte s ≡ true)

run_text : (run : List ℕ) → list_all is_unescaped run ≡ true → IsCharacters run run
run_text [] all = (refl, refl)
run_text (c ∷ run) all =
    let both = and_is (is_unescaped c) (list_all is_unescaped run) all in
    let rest = run_text run both.1 in
    let printable : is_string_byte c ≡ true = (and_is _ _ both.0).0 in
    (cc (text_of false c (plain_bare c both.0), rest.0), rw (printable, rest.1) refl)

joined_text : (x y s t : List ℕ) → IsCharacters x s → IsCharacters y t → IsCharacters (x ++ y) (s ++ t)
joined_text x y s t h k = (cc (h.0, k.0, flat_map-append character_text s t), all_joined is_string_byte s t h.1 k.1)

-- ---- escaped runs

abbrev EscapedRun : List ℕ → List ℕ → Type 0
EscapedRun x run = Then (IsByte is_backslash) (λ _. IsWord is_escapable is_unescaped) x run

meets_escaped : Meets EscapedRun (λ _ c. not (is_unescaped c)) escaped_run_read
unfolding escaped_run_read
meets_escaped =
    meets_then (meets_byte is_backslash 92 refl (λ _ _. true)) (λ _. meets_word is_escapable is_unescaped 34 refl)
    (λ x u h. (34 ∷ [], 34 ∷ [], (refl, refl, refl))) (λ u y v r h after. any_next (y ++ r))

escaped_starts : (x run : List ℕ) → EscapedRun x run → Starts is_backslash x
escaped_starts x run t = subst (λ (y : List ℕ). Starts is_backslash y) (sym (t.joined ∙ ap (λ (y : List ℕ). y ++ t.second) t.spells.same)) t.spells.passes

escaped_text : (x run : List ℕ) → EscapedRun x run → IsCharacters x run
escaped_text x [] t = absurd t.more
escaped_text x (c ∷ run) t =
    let rest = run_text run t.more.2 in
    let slash : t.value ≡ 92 = eqb-true t.value 92 t.spells.passes in
    (cc (t.joined, t.spells.same, slash, t.more.0, text_of true c t.more.1, rest.0), rw (escapable_printable c t.more.1, rest.1) refl)

-- what comes after a backslash isn't unescaped, and neither is a quote
meets_runs : Meets (Each EscapedRun) (λ _ c. is_quote c) (λ bytes. turns_read next_run_read bytes)
unfolding next_run_read
meets_runs =
    meets_each is_backslash is_quote meets_escaped escaped_starts
    (λ v c e. subst (λ (c : ℕ). not (is_unescaped c) ≡ true) (sym (eqb-true c 92 e)) refl)
    (λ v c e. subst (λ (c : ℕ). not (is_unescaped c) ≡ true) (sym (eqb-true c 34 e)) refl)
    (λ c e. subst (λ (c : ℕ). not (is_backslash c) ≡ true) (sym (eqb-true c 34 e)) refl)

runs_next : (x : List ℕ) (runs : List (List ℕ)) (r : List ℕ) → Each EscapedRun x runs → Next is_quote r → Next (λ c. not (is_unescaped c)) (x ++ r)
runs_next x [] r h after =
    subst (λ (y : List ℕ). Next (λ c. not (is_unescaped c)) (y ++ r)) (sym h)
    (next_more is_quote (λ c. not (is_unescaped c)) (λ c e. subst (λ (c : ℕ). not (is_unescaped c) ≡ true) (sym (eqb-true c 34 e)) refl) r after)
runs_next x (run ∷ runs) r h after =
    subst (λ (y : List ℕ). Next (λ c. not (is_unescaped c)) y) (sym (ap (λ (y : List ℕ). y ++ r) h.2 ∙ append_assoc h.0 h.1 r))
    (starts_next is_backslash (λ c. not (is_unescaped c)) (λ c e. subst (λ (c : ℕ). not (is_unescaped c) ≡ true) (sym (eqb-true c 92 e)) refl) h.0 (h.1 ++ r) (escaped_starts h.0 run h.3))

-- ---- runs of characters, and the characters

runs_text : (runs : List (List ℕ)) (x s y : List ℕ) → IsCharacters y s → Each EscapedRun x runs → IsCharacters (y ++ x) (after_all with_run s runs)
runs_text [] x s y is h = subst (λ (z : List ℕ). IsCharacters z s) (sym (ap (λ (x : List ℕ). y ++ x) h ∙ append-nil y)) is
runs_text (run ∷ runs) x s y is h =
    subst (λ (z : List ℕ). IsCharacters z (after_all with_run (s ++ run) runs)) (append_assoc y h.0 h.1 ∙ ap (λ (x : List ℕ). y ++ x) (sym h.2))
    (runs_text runs h.1 (s ++ run) (y ++ h.0) (joined_text y h.0 s run is (escaped_text h.0 run h.3)) h.4)

after_first : (c : ℕ) (s : List ℕ) (runs : List (List ℕ)) → after_all with_run (c ∷ s) runs ≡ c ∷ after_all with_run s runs
after_first c s [] = refl
after_first c s (run ∷ runs) = after_first c (s ++ run) runs

-- an unescaped run and escaped ones
abbrev Runs : List ℕ → List ℕ → Type 0
Runs x s = Then (IsAll is_unescaped) (λ run. Mapped (λ (runs : List (List ℕ)). after_all with_run run runs) (Each EscapedRun)) x s

to_characters : (x s : List ℕ) → Runs x s → IsCharacters x s
to_characters x s t =
    let run = run_text t.value t.spells.passes in
    subst (λ (s : List ℕ). IsCharacters x s) t.more.2
    (subst (λ (y : List ℕ). IsCharacters y (after_all with_run t.value t.more.0)) (ap (λ (y : List ℕ). y ++ t.second) (sym t.spells.same) ∙ sym t.joined)
    (runs_text t.more.0 t.second t.value t.value run t.more.1))

one_more : (c : ℕ) (x s : List ℕ) → is_string_byte c ≡ true → Runs x s → Runs (character_text c ++ x) (c ∷ s)
one_more c x s good t = go (is_escapable c) refl
  where
    run : List ℕ
    run = t.value

    go : (b : Bool) → is_escapable c ≡ b → Runs (character_text c ++ x) (c ∷ s)
    go true e = record {
      first = [];
      second = 92 ∷ c ∷ x;
      value = [];
      joined = cc (text_of true c e);
      spells = record { same = refl; passes = refl };
      more = (
        (c ∷ run) ∷ t.more.0,
        (
          92 ∷ c ∷ run,
          t.second,
          cc (t.joined, t.spells.same),
          record { first = 92 ∷ []; second = c ∷ run; value = 92; joined = refl; spells = record { same = refl; passes = refl }; more = (refl, e, t.spells.passes) },
          t.more.1,
        ),
        after_first c run t.more.0 ∙ ap (λ (s : List ℕ). c ∷ s) t.more.2,
      );
    }
    go false e = record {
      first = c ∷ run;
      second = t.second;
      value = c ∷ run;
      joined = cc (text_of false c e, t.joined, t.spells.same);
      spells = record { same = refl; passes = rw (unescaped_is (is_string_byte c) (eqb c 34) (eqb c 92) good e, t.spells.passes) refl };
      more = (t.more.0, t.more.1, after_first c run t.more.0 ∙ ap (λ (s : List ℕ). c ∷ s) t.more.2);
    }

from_characters : (s : List ℕ) → list_all is_string_byte s ≡ true → Runs (flat_map character_text s) s
from_characters [] all = record { first = []; second = []; value = []; joined = refl; spells = record { same = refl; passes = refl }; more = ([], refl, refl) }
from_characters (c ∷ s) all =
    let both = and_is (is_string_byte c) (list_all is_string_byte s) all in
    one_more c (flat_map character_text s) s both.0 (from_characters s both.1)

meets_characters : Meets IsCharacters (λ _ c. is_quote c) characters_read
unfolding characters_read
meets_characters =
    meets_same
    (meets_then (meets_all is_unescaped)
    (λ run. meets_map {G = λ _ c. is_quote c} meets_runs (λ (runs : List (List ℕ)). after_all with_run run runs) (λ v c h. h))
    (λ x run h. ([], run, ([], refl, refl)))
    (λ run y v r h after. runs_next y h.0 r h.1 after))
    to_characters (λ x s h. subst (λ (x : List ℕ). Runs x s) (sym h.0) (from_characters s h.1)) (λ v c h. h)

-- ---- strings

pub meets_string : Meets IsString (λ _ _. true) string_read
unfolding string_read
meets_string =
    meets_same
    (meets_then (meets_byte is_quote 34 refl (λ _ _. true))
    (λ _. meets_then meets_characters
    (λ s. meets_map {G = λ _ _. true} (meets_byte is_quote 34 refl (λ _ _. true)) (λ (_ : ℕ). s) (λ v c h. h))
    (λ x s h. (34 ∷ [], s, end_quote s))
    (λ s y v r h after. end_next s y v r h))
    (λ x u h. (34 ∷ [], [], record { first = []; second = 34 ∷ []; value = []; joined = refl; spells = (refl, refl); more = end_quote [] }))
    (λ u y v r h after. any_next (y ++ r)))
    (λ x s t. to x s t.first t.second t.value t.joined t.spells t.more.first t.more.second t.more.value t.more.joined t.more.spells t.more.more)
    (λ x s h. record {
      first = 34 ∷ [];
      second = flat_map character_text s ++ 34 ∷ [];
      value = 34;
      joined = h.joined;
      spells = record { same = refl; passes = refl };
      more = record { first = flat_map character_text s; second = 34 ∷ []; value = s; joined = refl; spells = (refl, h.printable); more = end_quote s };
    })
    (λ v c h. h)
  where
    End : List ℕ → List ℕ → List ℕ → Type 0
    End s x v = Mapped (λ (_ : ℕ). s) (IsByte is_quote) x v

    end_quote : (s : List ℕ) → End s (34 ∷ []) s
    end_quote s = (34, record { same = refl; passes = refl }, refl)

    end_next : (s x v r : List ℕ) → End s x v → Next is_quote (x ++ r)
    end_next s x v r h = subst (λ (y : List ℕ). Next is_quote (y ++ r)) (sym h.1.same) h.1.passes

    to : (x s a b : List ℕ) (c : ℕ) → x ≡ a ++ b → IsByte is_quote a c → (d e t : List ℕ) → b ≡ d ++ e → IsCharacters d t → End t e s → IsString x s
    to x s a b c ab quote d e t de is end =
        let same : t ≡ s = end.2 in
        record {
          joined = cc (ab, quote.same, eqb-true c 34 quote.passes, de, is.0, same, end.1.same, eqb-true end.0 34 end.1.passes);
          printable = ap (list_all is_string_byte) (sym same) ∙ is.1;
        }

-- how a loop over runs goes on
meets_turn : Meets (Optional EscapedRun) (optional_follow is_backslash (λ _ c. not (is_unescaped c))) next_run_read
unfolding next_run_read
meets_turn = meets_optional is_backslash meets_escaped escaped_starts

run_grows : (x run : List ℕ) → Optional EscapedRun x (Some run) → 0 < length x
run_grows x run h = starts_length is_backslash x (escaped_starts x run h)

pub runs_step : (bytes : List ℕ) → turns_read next_run_read bytes ≡ (next_run_read bytes >>= λ a. with_turns a.0 a.1 (turns_read next_run_read a.1))
runs_step bytes = turns_step meets_turn run_grows bytes

pub runs_shorter : (bytes run rest : List ℕ) → next_run_read bytes ≡ Ok (Some run, rest) → length rest < length bytes
runs_shorter bytes run rest e = shorter meets_turn run_grows bytes run rest e

-- a turn, where a backslash comes and where none does
module _ (bytes : List ℕ) where
  pub no_run : starts_in is_backslash bytes ≡ false → next_run_read bytes ≡ Ok (None, bytes)
  unfolding next_run_read optional_read
  no_run none = rw none refl

  pub some_run : (run rest : List ℕ) → starts_in is_backslash bytes ≡ true → escaped_run_read bytes ≡ Ok (run, rest) → next_run_read bytes ≡ Ok (Some run, rest)
  unfolding next_run_read optional_read
  some_run run rest some e = rw (some, e) refl

  pub run_err : (n : ℕ) → starts_in is_backslash bytes ≡ true → escaped_run_read bytes ≡ Err n → next_run_read bytes ≡ Err n
  unfolding next_run_read optional_read
  run_err n some e = rw (some, e) refl
