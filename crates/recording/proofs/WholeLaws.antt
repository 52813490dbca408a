-- A whole text: the reader of the form meets it, and the one that judges limits and moments says why it stops.
use Rattle.std.proofs.Common.{◌≡◌, ℕ, ◌+◌, ◌-◌, ◌≤◌, List, [], ◌∷◌, ◌++◌, length, Some, Result, Ok, Err, refl, ap, subst, ◌∙◌, append_assoc, arith, codes}
use Rattle.std.proofs.lemmas.List.{length-append}
use Rattle.std.proofs.lemmas.List.Elements.{All-nil, All-cons, All-head, All-tail}
use Rattle.std.specs.Fmt.{decimal}
use Rattle.std.specs.List.{flat_map}
use Rattle.byte_grammar.specs.tools.Languages.{Then, Mapped, Turns}
use Rattle.byte_grammar.specs.Walk.{◌>>=◌}
use Rattle.byte_grammar.specs.tools.Walks.{turns_read}
use Rattle.byte_grammar.proofs.Laws.{Meets, meets_then, meets_map, meets_same, any_next}
use Rattle.byte_grammar.proofs.Whole.{Nothing}
use Rattle.recording.specs.declared.read.Stop.{Stop}
use Rattle.recording.specs.declared.read.Stop.TheVariants as stop
use Rattle.byte_grammar.specs.Numbers.{number_line, IsNumber}
use Rattle.recording.specs.Items.{Body, moment, stored, body_text}
use Rattle.recording.specs.Recordings.{items_text, AreItems, HasForm}
use Rattle.recording.specs.tools.Running.{moment_after, AreAllowedAfter, last_moment, HasLineAfter, IsLongAfter, IsFallingAfter}
use Rattle.byte_grammar.specs.tools.CountedWalk.{literal_read}
use Rattle.recording.specs.tools.RecordingWalk.{number_line_read, turn_read, first_read, form_read, then_step, mapped_step, with_items, and_on, walk, first_step, recording_step}
use Rattle.byte_grammar.specs.tools.CountedTexts.{Anything, IsLiteral}
use Rattle.recording.specs.tools.RecordingTexts.{IsNumberLine, IsTurn}
use Rattle.byte_grammar.proofs.LiteralLaws.{meets_literal}
use Rattle.recording.proofs.NumberLaws.{meets_number_line}
use Rattle.recording.proofs.FormLaws.{meets_items, turns_are, are_turns, is_number_of}
use Rattle.recording.proofs.LoopLaws.{LineAfter, WalkSays, walk_says, walk_items, with_both}

-- ---- the form

abbrev IsItemsText : List ℕ → List Body → Type 0
IsItemsText text items = AreItems items × (text ≡ flat_map body_text items ++ codes "end\n")

abbrev AfterNumber : ℕ → List ℕ → List Body → Type 0
AfterNumber n = Mapped (λ (items : List Body). moment n ∷ items) (Turns IsTurn)

abbrev AfterAt : List ℕ → List ℕ → List Body → Type 0
AfterAt _ = Then IsNumberLine AfterNumber

meets_first : Meets IsItemsText Anything first_read
unfolding first_read
meets_first =
    meets_same
    (meets_then (meets_literal (codes "at "))
    (λ _. meets_then meets_number_line (λ n. meets_map {G = Anything} meets_items (λ (items : List Body). moment n ∷ items) (λ v c h. refl))
    (λ x n h. (codes "end\n", moment n ∷ [], ([], refl, refl)))
    (λ u y v r h after. any_next (y ++ r)))
    (λ x u h. ((decimal 0 ++ codes "\n") ++ codes "end\n", moment 0 ∷ [], record { first = decimal 0 ++ codes "\n"; second = codes "end\n"; value = 0; joined = refl; spells = (refl, omega arith); more = ([], refl, refl) }))
    (λ u y v r h after. any_next (y ++ r)))
    to from (λ v c h. refl)
  where
    to : (x : List ℕ) (items : List Body) → Then (IsLiteral (codes "at ")) AfterAt x items → IsItemsText x items
    to x items t =
        let n = t.more.value in
        let others = t.more.more.0 in
        let a = turns_are others t.more.second t.more.more.1 in
        subst (λ (items : List Body). IsItemsText x items) t.more.more.2 (
          record { begin = tt; numbers = All-cons is_number_of (moment n) others t.more.spells.1 a.1 },
          cc (t.joined, t.spells.0, t.more.joined, t.more.spells.0, a.0, append_assoc (decimal n ++ codes "\n") (flat_map body_text others) (codes "end\n")),
        )

    from : (x : List ℕ) (items : List Body) → IsItemsText x items → Then (IsLiteral (codes "at ")) AfterAt x items
    from x [] h = absurd h.0.begin
    from x (stored kind d ∷ others) h = absurd h.0.begin
    from x (moment n ∷ others) h = record {
      first = codes "at ";
      second = (decimal n ++ codes "\n") ++ (flat_map body_text others ++ codes "end\n");
      value = codes "at ";
      joined = h.1 ∙ ap (λ (y : List ℕ). codes "at " ++ y) (append_assoc (decimal n ++ codes "\n") (flat_map body_text others) (codes "end\n"));
      spells = (refl, refl);
      more = record {
        first = decimal n ++ codes "\n";
        second = flat_map body_text others ++ codes "end\n";
        value = n;
        joined = refl;
        spells = (refl, All-head is_number_of (moment n) others h.0.numbers);
        more = (others, are_turns others (flat_map body_text others ++ codes "end\n") refl (All-tail is_number_of (moment n) others h.0.numbers), refl);
      };
    }

one_text : List ℕ
one_text = flat_map body_text (moment 0 ∷ []) ++ codes "end\n"

one_item : IsItemsText one_text (moment 0 ∷ [])
unfolding one_text
one_item = (record { begin = tt; numbers = All-cons is_number_of (moment 0) [] (omega arith) (All-nil is_number_of) }, refl)

pub meets_form : Meets HasForm Nothing form_read
unfolding form_read
meets_form =
    meets_same (meets_then (meets_literal (codes "hms-recording 1\n")) (λ _. meets_first) (λ x u h. (one_text, moment 0 ∷ [], one_item)) (λ u y v r h after. any_next (y ++ r)))
    to from (λ v c h. absurd (cc h))
  where
    to : (x : List ℕ) (items : List Body) → Then (IsLiteral (codes "hms-recording 1\n")) (λ _. IsItemsText) x items → HasForm x items
    to x items t = record { are = t.more.0; joined = cc (t.joined, t.spells.0, t.more.1, append_assoc (codes "hms-recording 1\n") (flat_map body_text items) (codes "end\n")) }

    from : (x : List ℕ) (items : List Body) → HasForm x items → Then (IsLiteral (codes "hms-recording 1\n")) (λ _. IsItemsText) x items
    from x items h = record {
      first = codes "hms-recording 1\n";
      second = flat_map body_text items ++ codes "end\n";
      value = codes "hms-recording 1\n";
      joined = h.joined ∙ append_assoc (codes "hms-recording 1\n") (flat_map body_text items) (codes "end\n");
      spells = (refl, refl);
      more = (h.are, refl);
    }

-- ---- the first item

abbrev pub and_items : ℕ → Result (List Body × List ℕ) ℕ → Result (List Body × List ℕ) ℕ
and_items n r = r >>= λ t. Ok (moment n ∷ t.0, t.1)

abbrev pub FirstSays : List ℕ → Result (List Body × List ℕ) ℕ → Result (ℕ × List ℕ) Stop → Type 0
FirstSays text form (Ok (n, rest)) = (form ≡ and_items n (turns_read turn_read rest)) × (text ≡ codes "hms-recording 1\n" ++ (number_line (codes "at ") n ++ rest)) × IsNumber n
FirstSays text form (Err (stop.Left k)) = form ≡ Err k
FirstSays text form (Err (stop.TooLong k)) = ⊥
FirstSays text form (Err (stop.MomentFalls k)) = ⊥

pub first_says : (text : List ℕ) → FirstSays text (form_read text) (first_step text)
unfolding form_read first_read first_step
first_says text = go (literal_read (codes "hms-recording 1\n") text) refl
  where
    number : (l v after w : List ℕ) → literal_read (codes "hms-recording 1\n") text ≡ Ok (v, l) → literal_read (codes "at ") l ≡ Ok (w, after) → (r : Result (ℕ × List ℕ) ℕ) → number_line_read after ≡ r
        → FirstSays text (r >>= λ n. and_items n.0 (turns_read turn_read n.1)) (then_step r Ok)
    number l v after w e f (Err k) g = refl
    number l v after w e f (Ok (n, rest)) g =
        let a = (meets_literal (codes "hms-recording 1\n")).ok text v l e in
        let b = (meets_literal (codes "at ")).ok l w after f in
        let c = meets_number_line.ok after n rest g in
        (refl, cc (a.1, a.2.0, b.1, b.2.0, c.1, c.2.0, append_assoc (codes "at ") (decimal n ++ codes "\n") rest), c.2.1)

    at_word : (l v : List ℕ) → literal_read (codes "hms-recording 1\n") text ≡ Ok (v, l) → (r : Result (List ℕ × List ℕ) ℕ) → literal_read (codes "at ") l ≡ r
        → FirstSays text (r >>= λ a. number_line_read a.1 >>= λ n. and_items n.0 (turns_read turn_read n.1)) (then_step r (λ a. then_step (number_line_read a.1) Ok))
    at_word l v e (Err k) f = refl
    at_word l v e (Ok (w, after)) f = number l v after w e f (number_line_read after) refl

    go : (r : Result (List ℕ × List ℕ) ℕ) → literal_read (codes "hms-recording 1\n") text ≡ r
        → FirstSays text (r >>= λ l. literal_read (codes "at ") l.1 >>= λ a. number_line_read a.1 >>= λ n. and_items n.0 (turns_read turn_read n.1))
        (then_step r (λ l. then_step (literal_read (codes "at ") l.1) (λ a. then_step (number_line_read a.1) Ok)))
    go (Err k) e = refl
    go (Ok (v, l)) e = at_word l v e (literal_read (codes "at ") l) refl

pub first_is : (n : ℕ) (rest : List ℕ) → IsNumber n → first_step (codes "hms-recording 1\n" ++ (number_line (codes "at ") n ++ rest)) ≡ Ok (n, rest)
unfolding first_step
first_is n rest is =
    let line : List ℕ = number_line (codes "at ") n ++ rest in
    let digits : List ℕ = (decimal n ++ codes "\n") ++ rest in
    let one : literal_read (codes "hms-recording 1\n") (codes "hms-recording 1\n" ++ line) ≡ Ok (codes "hms-recording 1\n", line) = (meets_literal (codes "hms-recording 1\n")).only (codes "hms-recording 1\n") line (codes "hms-recording 1\n") (refl, refl) (any_next line) in
    let two : literal_read (codes "at ") line ≡ Ok (codes "at ", digits) =
    ap (literal_read (codes "at ")) (append_assoc (codes "at ") (decimal n ++ codes "\n") rest) ∙ (meets_literal (codes "at ")).only (codes "at ") digits (codes "at ") (refl, refl) (any_next digits) in
    let three : number_line_read digits ≡ Ok (n, rest) = meets_number_line.only (decimal n ++ codes "\n") rest n (refl, is) (any_next rest) in
    ap (λ (r : Result (List ℕ × List ℕ) ℕ). then_step r (λ l. then_step (literal_read (codes "at ") l.1) (λ a. then_step (number_line_read a.1) Ok))) one
    ∙ ap (λ (r : Result (List ℕ × List ℕ) ℕ). then_step r (λ a. then_step (number_line_read a.1) Ok)) two
    ∙ ap (λ (r : Result (ℕ × List ℕ) ℕ). then_step r Ok) three

-- ---- what the reader of recordings says

abbrev pub RecordingSays : List ℕ → Result (List Body × List ℕ) ℕ → Result (List Body × List ℕ) Stop → Type 0
RecordingSays text form (Ok (items, rest)) = (form ≡ Ok (items, rest)) × AreAllowedAfter 0 items
RecordingSays text form (Err (stop.Left n)) = form ≡ Err n
RecordingSays text form (Err (stop.TooLong n)) = (n ≤ length text) × HasLineAfter IsLongAfter text (length text - n)
RecordingSays text form (Err (stop.MomentFalls n)) = (n ≤ length text) × HasLineAfter IsFallingAfter text (length text - n)

-- a line after the first item is one of the whole text
line_of : (IsSuch : ℕ → List ℕ → Type 0) (text : List ℕ) (n : ℕ) (rest : List ℕ) (left : ℕ) → text ≡ codes "hms-recording 1\n" ++ (number_line (codes "at ") n ++ rest) → IsNumber n → LineAfter IsSuch n rest left
    → (left ≤ length text) × HasLineAfter IsSuch text (length text - left)
line_of IsSuch text n rest left e is l =
    let before : List Body = moment n ∷ l.before in
    let parts : text ≡ items_text before ++ (l.line ++ l.more) = cc (e, l.joined, append_assoc (codes "hms-recording 1\n") (number_line (codes "at ") n ++ flat_map body_text l.before) (l.line ++ l.more), append_assoc (number_line (codes "at ") n) (flat_map body_text l.before) (l.line ++ l.more)) in
    let count : length text ≡ length (items_text before) + left = omega (arith, ap (λ (y : List ℕ). length y) parts, length-append (items_text before) (l.line ++ l.more), l.count) in (
      omega (arith, count),
      record {
        before = before;
        line = l.line;
        more = l.more;
        joined = parts;
        are = record { begin = tt; numbers = All-cons is_number_of (moment n) l.before is l.numbers };
        allowed = (omega arith, l.allowed);
        such = l.such;
        place = omega (arith, count);
      },
    )

pub recording_says : (text : List ℕ) → RecordingSays text (form_read text) (recording_step text)
unfolding recording_step
recording_says text = go (first_step text) (first_says text)
  where
    walked : (n : ℕ) (rest : List ℕ) → FirstSays text (form_read text) (Ok (n, rest)) → (r : Result (List Body × List ℕ) Stop) → WalkSays n rest r → RecordingSays text (form_read text) (with_items (moment n ∷ []) r)
    walked n rest f (Ok (items, end)) w = (f.0 ∙ ap (and_items n) w.0, (omega arith, w.1))
    walked n rest f (Err (stop.Left k)) w = f.0 ∙ ap (and_items n) w
    walked n rest f (Err (stop.TooLong k)) w = line_of IsLongAfter text n rest k f.1 f.2 w
    walked n rest f (Err (stop.MomentFalls k)) w = line_of IsFallingAfter text n rest k f.1 f.2 w

    go : (s : Result (ℕ × List ℕ) Stop) → FirstSays text (form_read text) s → RecordingSays text (form_read text) (and_on (mapped_step (λ (n : ℕ × List ℕ). (Some (moment n.0), n.1)) s) (λ item rest. walk (moment_after 0 item) rest))
    go (Ok (n, rest)) f = walked n rest f (walk n rest) (walk_says n rest)
    go (Err (stop.Left k)) f = f
    go (Err (stop.TooLong k)) f = absurd f
    go (Err (stop.MomentFalls k)) f = absurd f

-- items that are allowed are read
pub recording_items : (items : List Body) (more : List ℕ) → AreItems items → AreAllowedAfter 0 items → recording_step (items_text items ++ more) ≡ with_items items (walk (last_moment 0 items) more)
unfolding recording_step
recording_items [] more are allowed = absurd are.begin
recording_items (stored kind d ∷ items) more are allowed = absurd are.begin
recording_items (moment n ∷ items) more are allowed =
    let others : List ℕ = flat_map body_text items ++ more in
    let text : items_text (moment n ∷ items) ++ more ≡ codes "hms-recording 1\n" ++ (number_line (codes "at ") n ++ others) =
    append_assoc (codes "hms-recording 1\n") (number_line (codes "at ") n ++ flat_map body_text items) more ∙ ap (λ (y : List ℕ). codes "hms-recording 1\n" ++ y) (append_assoc (number_line (codes "at ") n) (flat_map body_text items) more) in
    let first : first_step (items_text (moment n ∷ items) ++ more) ≡ Ok (n, others) = ap first_step text ∙ first_is n others (All-head is_number_of (moment n) items are.numbers) in
    ap (λ (s : Result (ℕ × List ℕ) Stop). and_on (mapped_step (λ (n : ℕ × List ℕ). (Some (moment n.0), n.1)) s) (λ item rest. walk (moment_after 0 item) rest)) first
    ∙ ap (with_items (moment n ∷ [])) (walk_items n items more (All-tail is_number_of (moment n) items are.numbers) allowed.1)
    ∙ with_both (moment n) items (walk (last_moment n items) more)
