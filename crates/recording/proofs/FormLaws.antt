-- The reader of the form of a recording meets it.
use Rattle.std.proofs.Common.{◌≡◌, ℕ, ◌-◌, ◌<◌, List, [], ◌∷◌, ◌++◌, length, replicate, Option, Some, None, refl, sym, ap, subst, ◌∙◌, append_assoc, arith, codes}
use Rattle.std.proofs.lemmas.List.{append-nil, length-append, length-replicate}
use Rattle.std.proofs.lemmas.List.Elements.{All-nil, All-cons, All-head, All-tail}
use Rattle.std.specs.Fmt.{decimal}
use Rattle.std.specs.List.{All, flat_map}
use Rattle.byte_grammar.specs.tools.Languages.{Then, Turns}
use Rattle.byte_grammar.specs.tools.Walks.{turns_read}
use Rattle.byte_grammar.proofs.Laws.{Meets, meets_then, meets_map, meets_same, meets_done, any_next}
use Rattle.byte_grammar.proofs.CountedLaws.{meets_counted}
use Rattle.byte_grammar.proofs.TurnLaws.{meets_turns}
use Rattle.recording.specs.declared.word.Word.{Word}
use Rattle.recording.specs.declared.word.Word.TheVariants as word
use Rattle.byte_grammar.specs.Numbers.{number_line, IsNumber}
use Rattle.recording.specs.Items.{Kind, message, script, Body, moment, stored, kind_word, body_text, number_of}
use Rattle.recording.specs.tools.RecordingWalk.{stored_read, body_read, turn_read}
use Rattle.byte_grammar.specs.tools.CountedTexts.{Anything, IsCounted}
use Rattle.recording.specs.tools.RecordingTexts.{IsWordText, IsNumberLine, IsStored, IsBodyText, IsTurn}
use Rattle.recording.proofs.WordLaws.{meets_word}
use Rattle.recording.proofs.NumberLaws.{meets_number_line}

-- ---- bytes after a number

pub meets_stored : Meets IsStored Anything stored_read
unfolding stored_read
meets_stored =
    meets_same
    (meets_then meets_number_line meets_counted
    (λ x n h. (replicate n 0 ++ codes "\n", replicate n 0, (refl, length-replicate {A = ℕ} n 0)))
    (λ u y v r h after. any_next (y ++ r)))
    to from (λ v c h. refl)
  where
    to : (x v : List ℕ) → Then IsNumberLine IsCounted x v → IsStored x v
    to x v t = (cc (t.joined, t.spells.0, t.more.0, t.more.1), subst IsNumber (sym t.more.1) t.spells.1)

    from : (x v : List ℕ) → IsStored x v → Then IsNumberLine IsCounted x v
    from x v h = record { first = decimal (length v) ++ codes "\n"; second = v ++ codes "\n"; value = length v; joined = h.0; spells = (refl, h.1); more = (refl, refl) }

-- ---- an item, or the last line

meets_body : (w : Word) → Meets (IsBodyText w) Anything (body_read w)
unfolding body_read
meets_body word.End = meets_done None Anything
meets_body word.At = meets_map {G = Anything} meets_number_line (λ (n : ℕ). Some (moment n)) (λ v c h. refl)
meets_body (word.Message role) = meets_map {G = Anything} meets_stored (λ (d : List ℕ). Some (stored (message role) d)) (λ v c h. refl)
meets_body word.Script = meets_map {G = Anything} meets_stored (λ (d : List ℕ). Some (stored script d)) (λ v c h. refl)

fill_body : (w : Word) → (y : List ℕ) × (o : Option Body) × IsBodyText w y o
fill_body word.End = ([], None, (refl, refl))
fill_body word.At = (decimal 0 ++ codes "\n", Some (moment 0), (0, (refl, omega arith), refl))
fill_body (word.Message role) = ((decimal 0 ++ codes "\n") ++ codes "\n", Some (stored (message role) []), ([], (refl, omega arith), refl))
fill_body word.Script = ((decimal 0 ++ codes "\n") ++ codes "\n", Some (stored script []), ([], (refl, omega arith), refl))

-- the text of an item with bytes, after its word
stored_text : (kind : Kind) (x f s d : List ℕ) → x ≡ f ++ s → f ≡ kind_word kind → IsStored s d → IsTurn x (Some (stored kind d))
stored_text kind x f s d e a h =
    (cc (e, a, h.0, append_assoc (kind_word kind) (decimal (length d) ++ codes "\n") (d ++ codes "\n")), h.1)

turn_to : (x : List ℕ) (o : Option Body) (f s : List ℕ) (w : Word) → x ≡ f ++ s → IsWordText f w → IsBodyText w s o → IsTurn x o
turn_to x o f s word.End e a b = subst (λ (o : Option Body). IsTurn x o) b.1 (cc (e, a, b.0, append-nil f))
turn_to x o f s word.At e a b = subst (λ (o : Option Body). IsTurn x o) b.2 (cc (e, a, b.1.0), b.1.1)
turn_to x o f s (word.Message role) e a b = subst (λ (o : Option Body). IsTurn x o) b.2 (stored_text (message role) x f s b.0 e a b.1)
turn_to x o f s word.Script e a b = subst (λ (o : Option Body). IsTurn x o) b.2 (stored_text script x f s b.0 e a b.1)

turn_from : (x : List ℕ) (o : Option Body) → IsTurn x o → Then IsWordText IsBodyText x o
turn_from x None h = record { first = x; second = []; value = word.End; joined = sym (append-nil x); spells = h; more = (refl, refl) }
turn_from x (Some (moment n)) h = record { first = codes "at "; second = decimal n ++ codes "\n"; value = word.At; joined = h.0; spells = refl; more = (n, (refl, h.1), refl) }
turn_from x (Some (stored (message role) d)) h = record {
  first = kind_word (message role);
  second = (decimal (length d) ++ codes "\n") ++ (d ++ codes "\n");
  value = word.Message role;
  joined = h.0 ∙ append_assoc (kind_word (message role)) (decimal (length d) ++ codes "\n") (d ++ codes "\n");
  spells = refl;
  more = (d, (refl, h.1), refl);
}
turn_from x (Some (stored script d)) h = record {
  first = kind_word script;
  second = (decimal (length d) ++ codes "\n") ++ (d ++ codes "\n");
  value = word.Script;
  joined = h.0 ∙ append_assoc (kind_word script) (decimal (length d) ++ codes "\n") (d ++ codes "\n");
  spells = refl;
  more = (d, (refl, h.1), refl);
}

pub meets_turn : Meets IsTurn Anything turn_read
unfolding turn_read
meets_turn =
    meets_same (meets_then meets_word meets_body (λ x w h. fill_body w) (λ u y v r h after. any_next (y ++ r)))
    (λ x o t. turn_to x o t.first t.second t.value t.joined t.spells t.more) turn_from (λ v c h. refl)

body_some : (item : Body) → 0 < length (body_text item)
body_some (moment n) = omega arith
body_some (stored kind d) = omega (arith, length-append (number_line (kind_word kind) (length d)) (d ++ codes "\n"), length-append d (codes "\n"))

pub grows : (x : List ℕ) (item : Body) → IsTurn x (Some item) → 0 < length x
grows x item h = omega (arith, ap (λ (y : List ℕ). length y) h.0, body_some item)

pub meets_items : Meets (Turns IsTurn) (λ _. Anything {V = Option Body} None) (turns_read turn_read)
meets_items = meets_turns meets_turn grows (codes "end\n", refl) (λ v x o r h after. any_next (x ++ r))

-- ---- items, and the last line

abbrev pub AreNumbers : List Body → Type 0
AreNumbers items = All (λ item. IsNumber (number_of item)) items

abbrev pub is_number_of : Body → Type 0
is_number_of item = IsNumber (number_of item)

pub turns_are : (items : List Body) (x : List ℕ) → Turns IsTurn x items → (x ≡ flat_map body_text items ++ codes "end\n") × AreNumbers items
turns_are [] x t = (t, All-nil is_number_of)
turns_are (item ∷ items) x t =
    let rest = turns_are items t.1 t.4 in
    (cc (t.2, t.3.0, rest.0, append_assoc (body_text item) (flat_map body_text items) (codes "end\n")), All-cons is_number_of item items t.3.1 rest.1)

pub are_turns : (items : List Body) (x : List ℕ) → x ≡ flat_map body_text items ++ codes "end\n" → AreNumbers items → Turns IsTurn x items
are_turns [] x e all = e
are_turns (item ∷ items) x e all = (
  body_text item,
  flat_map body_text items ++ codes "end\n",
  e ∙ append_assoc (body_text item) (flat_map body_text items) (codes "end\n"),
  (refl, All-head is_number_of item items all),
  are_turns items (flat_map body_text items ++ codes "end\n") refl (All-tail is_number_of item items all),
)
