-- What comes after the first items of a recording.
use Rattle.std.proofs.Common.{◌≡◌, ◌≤◌, ◌+◌, ◌-◌, ℕ, List, [], ◌∷◌, ◌++◌, length, Option, Some, Result, Ok, Err, refl, sym, ap, subst, ◌∙◌, append_assoc, arith, codes}
use Rattle.std.proofs.lemmas.List.{append-nil, length-append}
use Rattle.std.proofs.lemmas.List.Elements.{All-append, All-head, All-tail}
use Rattle.std.proofs.lemmas.Grind.{flat_map-append}
use Rattle.std.specs.Fmt.{decimal}
use Rattle.std.specs.List.{All, flat_map}
use Rattle.byte_grammar.specs.FaultOffset.{IsFaultOffset}
use Rattle.byte_grammar.specs.tools.Languages.{Turns}
use Rattle.byte_grammar.specs.Walk.{◌>>=◌}
use Rattle.byte_grammar.specs.tools.Walks.{turns_read, with_turns, with_prefix, value_at_end, whole_read}
use Rattle.byte_grammar.proofs.Laws.{Meets, meets_same, any_next, bind_ok, ok_is}
use Rattle.byte_grammar.proofs.OffsetLaws.{one_offset}
use Rattle.byte_grammar.proofs.TurnLaws.{turns_step}
use Rattle.byte_grammar.proofs.Whole.{Nothing, judges, whole_only}
use Rattle.byte_grammar.specs.Numbers.{number_line}
use Rattle.recording.specs.Items.{Body, moment, stored, body_text}
use Rattle.recording.specs.Recordings.{items_text, BeginWithMoment, AreItems, HasForm, HasRestForm}
use Rattle.recording.specs.Laws.{RestIsOthers, OthersMayCome, FaultOfRest}
use Rattle.recording.specs.tools.RecordingTexts.{IsTurn}
use Rattle.byte_grammar.specs.tools.CountedWalk.{literal_read}
use Rattle.recording.specs.tools.RecordingWalk.{number_line_read, turn_read, first_read, form_read}
use Rattle.byte_grammar.proofs.LiteralLaws.{meets_literal}
use Rattle.recording.proofs.NumberLaws.{meets_number_line}
use Rattle.recording.proofs.FormLaws.{meets_turn, grows, meets_items, turns_are, are_turns, is_number_of}
use Rattle.recording.proofs.WholeLaws.{meets_form}

-- ---- the reader after items

with_both : (item : Body) (items : List Body) (r : Result (List Body × List ℕ) ℕ) → with_turns (Some item) [] (with_prefix items r) ≡ with_prefix (item ∷ items) r
with_both item items (Ok x) = refl
with_both item items (Err n) = refl

with_none : (r : Result (List Body × List ℕ) ℕ) → r ≡ with_prefix [] r
with_none (Ok (items, rest)) = refl
with_none (Err n) = refl

turns_items : (items : List Body) (rest : List ℕ) → All is_number_of items → turns_read turn_read (flat_map body_text items ++ rest) ≡ with_prefix items (turns_read turn_read rest)
turns_items [] rest numbers = with_none (turns_read turn_read rest)
turns_items (item ∷ items) rest numbers =
    let others : List ℕ = flat_map body_text items ++ rest in
    let one : turn_read (body_text item ++ others) ≡ Ok (Some item, others) = meets_turn.only (body_text item) others (Some item) (refl, All-head is_number_of item items numbers) (any_next others) in
    ap (turns_read turn_read) (append_assoc (body_text item) (flat_map body_text items) rest)
    ∙ turns_step meets_turn grows (body_text item ++ others)
    ∙ ap (λ (r : Result (Option Body × List ℕ) ℕ). r >>= λ a. with_turns a.0 a.1 (turns_read turn_read a.1)) one
    ∙ ap (with_turns (Some item) others) (turns_items items rest (All-tail is_number_of item items numbers))
    ∙ with_both item items (turns_read turn_read rest)

-- the first item is read, and what comes after it by turns
form_first : (n : ℕ) (others : List ℕ) → is_number_of (moment n) → form_read (codes "hms-recording 1\n" ++ (number_line (codes "at ") n ++ others)) ≡ (turns_read turn_read others >>= λ t. Ok (moment n ∷ t.0, t.1))
unfolding form_read first_read
form_first n others is =
    let line : List ℕ = number_line (codes "at ") n ++ others in
    let digits : List ℕ = (decimal n ++ codes "\n") ++ others in
    let one : literal_read (codes "hms-recording 1\n") (codes "hms-recording 1\n" ++ line) ≡ Ok (codes "hms-recording 1\n", line) = (meets_literal (codes "hms-recording 1\n")).only (codes "hms-recording 1\n") line (codes "hms-recording 1\n") (refl, refl) (any_next line) in
    let two : literal_read (codes "at ") line ≡ Ok (codes "at ", digits) =
    ap (literal_read (codes "at ")) (append_assoc (codes "at ") (decimal n ++ codes "\n") others) ∙ (meets_literal (codes "at ")).only (codes "at ") digits (codes "at ") (refl, refl) (any_next digits) in
    let three : number_line_read digits ≡ Ok (n, others) = meets_number_line.only (decimal n ++ codes "\n") others n (refl, is) (any_next others) in
    ap (λ (r : Result (List ℕ × List ℕ) ℕ). r >>= λ l. literal_read (codes "at ") l.1 >>= λ a. number_line_read a.1 >>= λ n. turns_read turn_read n.1 >>= λ t. Ok (moment n.0 ∷ t.0, t.1)) one
    ∙ ap (λ (r : Result (List ℕ × List ℕ) ℕ). r >>= λ a. number_line_read a.1 >>= λ n. turns_read turn_read n.1 >>= λ t. Ok (moment n.0 ∷ t.0, t.1)) two
    ∙ ap (λ (r : Result (ℕ × List ℕ) ℕ). r >>= λ n. turns_read turn_read n.1 >>= λ t. Ok (moment n.0 ∷ t.0, t.1)) three

prefix_both : (item : Body) (items : List Body) (r : Result (List Body × List ℕ) ℕ) → (with_prefix items r >>= λ t. Ok (item ∷ t.0, t.1)) ≡ with_prefix (item ∷ items) r
prefix_both item items (Ok x) = refl
prefix_both item items (Err n) = refl

form_items : (before : List Body) (rest : List ℕ) → AreItems before → form_read (items_text before ++ rest) ≡ with_prefix before (turns_read turn_read rest)
form_items [] rest are = absurd are.begin
form_items (stored kind d ∷ items) rest are = absurd are.begin
form_items (moment n ∷ items) rest are =
    let others : List ℕ = flat_map body_text items ++ rest in
    let text : items_text (moment n ∷ items) ++ rest ≡ codes "hms-recording 1\n" ++ (number_line (codes "at ") n ++ others) =
    append_assoc (codes "hms-recording 1\n") (number_line (codes "at ") n ++ flat_map body_text items) rest ∙ ap (λ (y : List ℕ). codes "hms-recording 1\n" ++ y) (append_assoc (number_line (codes "at ") n) (flat_map body_text items) rest) in
    ap form_read text
    ∙ form_first n others (All-head is_number_of (moment n) items are.numbers)
    ∙ ap (λ (r : Result (List Body × List ℕ) ℕ). r >>= λ t. Ok (moment n ∷ t.0, t.1)) (turns_items items rest (All-tail is_number_of (moment n) items are.numbers))
    ∙ prefix_both (moment n) items (turns_read turn_read rest)

-- ---- the rest

rest_to : (x : List ℕ) (items : List Body) → Turns IsTurn x items → HasRestForm x items
rest_to x items t = let a = turns_are items x t in record { numbers = a.1; joined = a.0 }

rest_from : (x : List ℕ) (items : List Body) → HasRestForm x items → Turns IsTurn x items
rest_from x items h = are_turns items x h.joined h.numbers

meets_rest : Meets HasRestForm Nothing (turns_read turn_read)
meets_rest = meets_same meets_items rest_to rest_from (λ v c h. absurd (cc h))

pub rest_is_others : RestIsOthers
rest_is_others before items rest are h =
    let read = sym (form_items before rest are) ∙ whole_only meets_form (items_text before ++ rest) items h in
    let b = bind_ok (turns_read turn_read rest) (λ b. Ok (before ++ b.0, b.1)) (items, []) read in
    let pair : (before ++ b.0.0, b.0.1) ≡ (items, []) = ok_is _ _ b.2 in
    let s = meets_rest.ok rest b.0.0 b.0.1 b.1 in
    let whole : s.0 ≡ rest = sym (append-nil s.0) ∙ ap (λ (a : List Body × List ℕ). s.0 ++ a.1) (sym pair) ∙ sym s.1 in
    (b.0.0, sym (ap (λ (a : List Body × List ℕ). a.0) pair), subst (λ (y : List ℕ). HasRestForm y b.0.0) whole s.2)

begin_more : (before others : List Body) → BeginWithMoment before → BeginWithMoment (before ++ others)
begin_more [] others begin = absurd begin
begin_more (moment n ∷ items) others begin = tt
begin_more (stored kind d ∷ items) others begin = absurd begin

pub others_may_come : OthersMayCome
others_may_come before others rest are h =
    let magic = codes "hms-recording 1\n" in
    let text : flat_map body_text (before ++ others) ≡ flat_map body_text before ++ flat_map body_text others = flat_map-append body_text before others in
    record {
      are = record { begin = begin_more before others are.begin; numbers = All-append is_number_of before others are.numbers h.numbers };
      joined =
          cc (h.joined, text, append_assoc magic (flat_map body_text before) rest, append_assoc magic (flat_map body_text (before ++ others)) (codes "end\n"), append_assoc (flat_map body_text before) (flat_map body_text others) (codes "end\n"));
    }

-- ---- faults

with_err : (before : List Body) (r : Result (List Body × List ℕ) ℕ) (n : ℕ) → (r >>= λ a. value_at_end a.0 a.1) ≡ Err n → (with_prefix before r >>= λ a. value_at_end a.0 a.1) ≡ Err n
with_err before (Ok (items, [])) n e = absurd (cc e)
with_err before (Ok (items, c ∷ rest)) n e = cc e
with_err before (Err m) n e = cc e

whole_items : (before : List Body) (rest : List ℕ) (n : ℕ) → AreItems before → whole_read (turns_read turn_read) rest ≡ Err n → whole_read form_read (items_text before ++ rest) ≡ Err n
unfolding whole_read
whole_items before rest n are e = ap (λ (r : Result (List Body × List ℕ) ℕ). r >>= λ a. value_at_end a.0 a.1) (form_items before rest are) ∙ with_err before (turns_read turn_read rest) n e

pub fault_of_rest : FaultOfRest
fault_of_rest before rest place are f = go (whole_read (turns_read turn_read) rest) refl
  where
    go : (r : Result (List Body) ℕ) → whole_read (turns_read turn_read) rest ≡ r → IsFaultOffset HasForm (items_text before ++ rest) (length (items_text before) + place)
    go (Ok items) e = absurd (f.none items ((judges meets_rest).ok rest items e))
    go (Err n) e =
        let same : place ≡ length rest - n = one_offset HasRestForm rest place (length rest - n) f ((judges meets_rest).offset rest n e) in
        let within : n ≤ length rest = (judges meets_rest).within rest n e in
        let place_is : length (items_text before ++ rest) - n ≡ length (items_text before) + place = omega (arith, same, within, length-append (items_text before) rest) in
        subst (λ (k : ℕ). IsFaultOffset HasForm (items_text before ++ rest) k) place_is ((judges meets_form).offset (items_text before ++ rest) n (whole_items before rest n are e))
