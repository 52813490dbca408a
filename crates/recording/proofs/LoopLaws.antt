-- Item after item, up to the last line, with limits and the order of moments.
use Rattle.std.proofs.Common.{◌≡◌, ℕ, zero, suc, ◌<◌, List, [], ◌∷◌, ◌++◌, length, Option, Some, None, Result, Ok, Err, refl, sym, ap, subst, ◌∙◌, append_assoc, arith, codes}
use Rattle.std.proofs.lemmas.List.Elements.{All-nil, All-cons, All-head, All-tail}
use Rattle.std.specs.List.{All, flat_map}
use Rattle.byte_grammar.specs.Walk.{◌>>=◌}
use Rattle.byte_grammar.specs.tools.Walks.{turns_read, with_turns}
use Rattle.byte_grammar.proofs.TurnLaws.{turns_step}
use Rattle.recording.specs.declared.read.Stop.{Stop}
use Rattle.recording.specs.declared.read.Stop.TheVariants as stop
use Rattle.recording.specs.Items.{Body, body_text}
use Rattle.recording.specs.tools.Running.{moment_after, AreAllowedAfter, last_moment, IsLongAfter, IsFallingAfter}
use Rattle.recording.specs.tools.RecordingWalk.{turn_read, item_step, with_items, and_on, walk_in, walk}
use Rattle.recording.proofs.FormLaws.{meets_turn, grows, is_number_of}
use Rattle.recording.proofs.WalkLaws.{BeginsWith, Says, step_says, step_some, step_item, step_end}

-- ---- the walk without fuel

enough : (i j last : ℕ) (bytes : List ℕ) → length bytes < i → length bytes < j → walk_in i last bytes ≡ walk_in j last bytes
unfolding walk_in
enough zero j last bytes lt more = absurd (omega (arith, lt))
enough (suc i) zero last bytes lt more = absurd (omega (arith, more))
enough (suc i) (suc j) last bytes lt more = go (λ last rest l k. enough i j last rest l k) (item_step last bytes) refl
  where
    go : ((last : ℕ) (rest : List ℕ) → length rest < i → length rest < j → walk_in i last rest ≡ walk_in j last rest) → (s : Result (Option Body × List ℕ) Stop) → item_step last bytes ≡ s
        → and_on s (λ item rest. walk_in i (moment_after last item) rest) ≡ and_on s (λ item rest. walk_in j (moment_after last item) rest)
    go again (Ok (None, rest)) e = refl
    go again (Ok (Some item, rest)) e =
        let less : length rest < length bytes = (step_some last bytes item rest e).3 in
        ap (with_items (item ∷ [])) (again (moment_after last item) rest (omega (arith, less, lt)) (omega (arith, less, more)))
    go again (Err s) e = refl

pub walk_step : (last : ℕ) (bytes : List ℕ) → walk last bytes ≡ and_on (item_step last bytes) (λ item rest. walk (moment_after last item) rest)
unfolding walk walk_in
walk_step last bytes = go (item_step last bytes) refl
  where
    go : (s : Result (Option Body × List ℕ) Stop) → item_step last bytes ≡ s
        → and_on s (λ item rest. walk_in (length bytes) (moment_after last item) rest) ≡ and_on s (λ item rest. walk_in (suc (length rest)) (moment_after last item) rest)
    go (Ok (None, rest)) e = refl
    go (Ok (Some item, rest)) e =
        let less : length rest < length bytes = (step_some last bytes item rest e).3 in
        ap (with_items (item ∷ [])) (enough (length bytes) (suc (length rest)) (moment_after last item) rest less (omega arith))
    go (Err s) e = refl

-- ---- what the walk says

-- After items that are allowed there is such a line, with so many bytes from its first on.
pub record LineAfter (IsSuch : ℕ → List ℕ → Type 0) (last : ℕ) (bytes : List ℕ) (left : ℕ) : Type 0 where
  pub before : List Body
  pub line : List ℕ
  pub more : List ℕ
  pub joined : bytes ≡ flat_map body_text before ++ (line ++ more)
  pub numbers : All is_number_of before
  pub allowed : AreAllowedAfter last before
  pub such : IsSuch (last_moment last before) line
  pub count : left ≡ length (line ++ more)

abbrev pub WalkSays : ℕ → List ℕ → Result (List Body × List ℕ) Stop → Type 0
WalkSays last bytes (Ok (items, rest)) = (turns_read turn_read bytes ≡ Ok (items, rest)) × AreAllowedAfter last items
WalkSays last bytes (Err (stop.Left n)) = turns_read turn_read bytes ≡ Err n
WalkSays last bytes (Err (stop.TooLong n)) = LineAfter IsLongAfter last bytes n
WalkSays last bytes (Err (stop.MomentFalls n)) = LineAfter IsFallingAfter last bytes n

line_here : (IsSuch : ℕ → List ℕ → Type 0) (last : ℕ) (bytes : List ℕ) (n : ℕ) → n ≡ length bytes → BeginsWith IsSuch last bytes → LineAfter IsSuch last bytes n
line_here IsSuch last bytes n count b = record {
  before = [];
  line = b.0;
  more = b.1;
  joined = b.2;
  numbers = All-nil is_number_of;
  allowed = tt;
  such = b.3;
  count = count ∙ ap (λ (y : List ℕ). length y) b.2;
}

line_later : (IsSuch : ℕ → List ℕ → Type 0) (last : ℕ) (bytes : List ℕ) (item : Body) (rest : List ℕ) (n : ℕ) → item_step last bytes ≡ Ok (Some item, rest) → LineAfter IsSuch (moment_after last item) rest n → LineAfter IsSuch last bytes n
line_later IsSuch last bytes item rest n e l =
    let s = step_some last bytes item rest e in
    record {
      before = item ∷ l.before;
      line = l.line;
      more = l.more;
      joined = s.0 ∙ ap (λ (y : List ℕ). body_text item ++ y) l.joined ∙ sym (append_assoc (body_text item) (flat_map body_text l.before) (l.line ++ l.more));
      numbers = All-cons is_number_of item l.before s.1 l.numbers;
      allowed = (s.2, l.allowed);
      such = l.such;
      count = l.count;
    }

-- a turn, and those after it
turn_is : (bytes : List ℕ) (r : Result (Option Body × List ℕ) ℕ) → turn_read bytes ≡ r → turns_read turn_read bytes ≡ (r >>= λ a. with_turns a.0 a.1 (turns_read turn_read a.1))
turn_is bytes r e = turns_step meets_turn grows bytes ∙ ap (λ (r : Result (Option Body × List ℕ) ℕ). r >>= λ a. with_turns a.0 a.1 (turns_read turn_read a.1)) e

turns_more : (item : Body) (bytes rest : List ℕ) (r : Result (List Body × List ℕ) ℕ) → turn_read bytes ≡ Ok (Some item, rest) → turns_read turn_read rest ≡ r → turns_read turn_read bytes ≡ with_turns (Some item) rest r
turns_more item bytes rest r e f = turn_is bytes (Ok (Some item, rest)) e ∙ ap (with_turns (Some item) rest) f

says_later : (last : ℕ) (bytes : List ℕ) (item : Body) (rest : List ℕ) → item_step last bytes ≡ Ok (Some item, rest) → turn_read bytes ≡ Ok (Some item, rest)
    → (r : Result (List Body × List ℕ) Stop) → WalkSays (moment_after last item) rest r → WalkSays last bytes (with_items (item ∷ []) r)
says_later last bytes item rest e t (Ok (items, end)) w = (turns_more item bytes rest (Ok (items, end)) t w.0, ((step_some last bytes item rest e).2, w.1))
says_later last bytes item rest e t (Err (stop.Left n)) w = turns_more item bytes rest (Err n) t w
says_later last bytes item rest e t (Err (stop.TooLong n)) w = line_later IsLongAfter last bytes item rest n e w
says_later last bytes item rest e t (Err (stop.MomentFalls n)) w = line_later IsFallingAfter last bytes item rest n e w

says_in : (k last : ℕ) (bytes : List ℕ) → length bytes < k → WalkSays last bytes (walk_in k last bytes)
unfolding walk_in
says_in zero last bytes lt = absurd (omega (arith, lt))
says_in (suc k) last bytes lt = go (λ last rest l. says_in k last rest l) (item_step last bytes) refl (step_says last bytes)
  where
    go : ((last : ℕ) (rest : List ℕ) → length rest < k → WalkSays last rest (walk_in k last rest)) → (s : Result (Option Body × List ℕ) Stop) → item_step last bytes ≡ s
        → Says last bytes (turn_read bytes) (item_step last bytes) → WalkSays last bytes (and_on s (λ item rest. walk_in k (moment_after last item) rest))
    go again s e says = at s e (subst (λ (s : Result (Option Body × List ℕ) Stop). Says last bytes (turn_read bytes) s) e says)
      where
        at : (s : Result (Option Body × List ℕ) Stop) → item_step last bytes ≡ s → Says last bytes (turn_read bytes) s → WalkSays last bytes (and_on s (λ item rest. walk_in k (moment_after last item) rest))
        at (Ok (None, rest)) e t = (turn_is bytes (Ok (None, rest)) t, tt)
        at (Ok (Some item, rest)) e t =
            let less : length rest < length bytes = (step_some last bytes item rest e).3 in
            says_later last bytes item rest e t.0 (walk_in k (moment_after last item) rest) (again (moment_after last item) rest (omega (arith, less, lt)))
        at (Err (stop.Left n)) e t = turn_is bytes (Err n) t
        at (Err (stop.TooLong n)) e t = line_here IsLongAfter last bytes n t.0 t.1
        at (Err (stop.MomentFalls n)) e t = line_here IsFallingAfter last bytes n t.0 t.1

pub walk_says : (last : ℕ) (bytes : List ℕ) → WalkSays last bytes (walk last bytes)
unfolding walk
walk_says last bytes = says_in (suc (length bytes)) last bytes (omega arith)

-- ---- the walk over items

pub with_both : (item : Body) (items : List Body) (r : Result (List Body × List ℕ) Stop) → with_items (item ∷ []) (with_items items r) ≡ with_items (item ∷ items) r
with_both item items (Ok x) = refl
with_both item items (Err s) = refl

with_none : (r : Result (List Body × List ℕ) Stop) → r ≡ with_items [] r
with_none (Ok (items, rest)) = refl
with_none (Err s) = refl

-- items that are allowed are read
pub walk_items : (last : ℕ) (items : List Body) (more : List ℕ) → All is_number_of items → AreAllowedAfter last items → walk last (flat_map body_text items ++ more) ≡ with_items items (walk (last_moment last items) more)
walk_items last [] more numbers allowed = with_none (walk last more)
walk_items last (item ∷ items) more numbers allowed =
    let others : List ℕ = flat_map body_text items ++ more in
    let one : item_step last (body_text item ++ others) ≡ Ok (Some item, others) = step_item last item others (All-head is_number_of item items numbers) allowed.0 in
    ap (walk last) (append_assoc (body_text item) (flat_map body_text items) more)
    ∙ walk_step last (body_text item ++ others)
    ∙ ap (λ (s : Result (Option Body × List ℕ) Stop). and_on s (λ item rest. walk (moment_after last item) rest)) one
    ∙ ap (with_items (item ∷ [])) (walk_items (moment_after last item) items more (All-tail is_number_of item items numbers) allowed.1)
    ∙ with_both item items (walk (last_moment last (item ∷ items)) more)

pub walk_end : (last : ℕ) (more : List ℕ) → walk last (codes "end\n" ++ more) ≡ Ok ([], more)
walk_end last more =
    walk_step last (codes "end\n" ++ more) ∙ ap (λ (s : Result (Option Body × List ℕ) Stop). and_on s (λ item rest. walk (moment_after last item) rest)) (step_end last more)

pub walk_stops : (last : ℕ) (bytes : List ℕ) (s : Stop) → item_step last bytes ≡ Err s → walk last bytes ≡ Err s
walk_stops last bytes s e = walk_step last bytes ∙ ap (λ (s : Result (Option Body × List ℕ) Stop). and_on s (λ item rest. walk (moment_after last item) rest)) e
