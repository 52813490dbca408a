-- The causes of faults from the left.
use Rattle.std.proofs.Common.{◌≡◌, ◌≤◌, ◌+◌, ℕ, List, [], ◌∷◌, ◌++◌, length, take, drop, replicate, inl, inr, sym, ap, subst, ◌∙◌, append_assoc, arith, codes}
use Rattle.std.proofs.lemmas.List.{append-nil, length-append, length-replicate, take-append-drop, take-append-le}
use Rattle.std.proofs.lemmas.List.Elements.{All-push}
use Rattle.std.proofs.lemmas.Bool.{cases_lt}
use Rattle.std.proofs.lemmas.Grind.{flat_map-append}
use Rattle.std.specs.List.{flat_map}
use Rattle.byte_grammar.specs.Language.{Begins}
use Rattle.byte_grammar.specs.FaultOffset.{IsFaultOffset}
use Rattle.byte_grammar.proofs.OffsetLaws.{begins_shorter}
use Rattle.byte_grammar.specs.Numbers.{number_line, IsNumber}
use Rattle.recording.specs.Items.{Body, moment, stored, kind_word, body_text, number_of}
use Rattle.recording.specs.Recordings.{items_text, BeginWithMoment, AreItems, HasForm}
use Rattle.recording.specs.Causes.{HasLineAt, IsLongLine, IsFallingLine}
use Rattle.recording.specs.Laws.{FaultIsAfter}
use Rattle.recording.proofs.FormLaws.{is_number_of}

-- ---- one more item

pub text_snoc : (items : List Body) (item : Body) → flat_map body_text (items ++ item ∷ []) ≡ flat_map body_text items ++ body_text item
text_snoc items item = flat_map-append body_text items (item ∷ []) ∙ ap (λ (y : List ℕ). flat_map body_text items ++ y) (append-nil (body_text item))

pub begin_snoc : (items : List Body) (item : Body) → BeginWithMoment items → BeginWithMoment (items ++ item ∷ [])
begin_snoc [] item begin = absurd begin
begin_snoc (moment n ∷ items) item begin = tt
begin_snoc (stored kind d ∷ items) item begin = absurd begin

-- items, and the first bytes of another, begin a text of the form
begins_item : (before : List Body) (item : Body) (line rest : List ℕ) → AreItems before → IsNumber (number_of item) → body_text item ≡ line ++ rest → Begins HasForm (items_text before ++ line)
begins_item before item line rest are is parts =
    let magic = codes "hms-recording 1\n" in
    let items : List Body = before ++ item ∷ [] in
    let text : flat_map body_text items ≡ flat_map body_text before ++ (line ++ rest) = text_snoc before item ∙ ap (λ (y : List ℕ). flat_map body_text before ++ y) parts in
    let whole : (items_text before ++ line) ++ (rest ++ codes "end\n") ≡ items_text items ++ codes "end\n" =
    cc (append_assoc (items_text before) line (rest ++ codes "end\n"), append_assoc magic (flat_map body_text before) (line ++ (rest ++ codes "end\n")), append_assoc magic (flat_map body_text items) (codes "end\n"), text, append_assoc (flat_map body_text before) (line ++ rest) (codes "end\n"), append_assoc line rest (codes "end\n")) in
    (rest ++ codes "end\n", items, record { are = record { begin = begin_snoc before item are.begin; numbers = All-push is_number_of before item are.numbers is }; joined = whole })

-- what begins a text of the form ends before its fault
after : (IsSuch : List Body → List ℕ → Type 0) (text : List ℕ) (offset place : ℕ) (l : HasLineAt IsSuch text offset) → Begins HasForm (items_text l.before ++ l.line) → IsFaultOffset HasForm text place → offset + length l.line ≤ place
after IsSuch text offset place l begins f =
    let front : List ℕ = items_text l.before ++ l.line in
    let parts : text ≡ front ++ l.more = l.joined ∙ sym (append_assoc (items_text l.before) l.line l.more) in
    let size = length-append (items_text l.before) l.line in
    elim (cases_lt place (length front)) [
      | inl less ↦
          let cut : take (place + 1) text ≡ take (place + 1) front = ap (λ (y : List ℕ). take (place + 1) y) parts ∙ take-append-le (place + 1) front l.more (omega (arith, less)) in
          let shorter : Begins HasForm (take (place + 1) front) = begins_shorter HasForm (take (place + 1) front) (drop (place + 1) front) (subst (λ (y : List ℕ). Begins HasForm y) (sym (take-append-drop (place + 1) front)) begins) in
          absurd (f.last (omega (arith, less, ap (λ (y : List ℕ). length y) parts, length-append front l.more)) (subst (λ (y : List ℕ). Begins HasForm y) (sym cut) shorter))
      | inr more ↦ omega (arith, more, size, l.place)
    ]

pub after_long : FaultIsAfter IsLongLine
after_long text offset place l f =
    let s = l.such in
    let d : List ℕ = replicate s.size 0 in
    let count : length d ≡ s.size = length-replicate {A = ℕ} s.size 0 in
    let parts : body_text (stored s.kind d) ≡ l.line ++ (d ++ codes "\n") = ap (λ (n : ℕ). number_line (kind_word s.kind) n ++ (d ++ codes "\n")) count ∙ ap (λ (y : List ℕ). y ++ (d ++ codes "\n")) (sym s.is) in
    after IsLongLine text offset place l (begins_item l.before (stored s.kind d) l.line (d ++ codes "\n") l.are (subst IsNumber (sym count) s.number) parts) f

pub after_falling : FaultIsAfter IsFallingLine
after_falling text offset place l f =
    let s = l.such in
    after IsFallingLine text offset place l (begins_item l.before (moment s.seconds) l.line [] l.are s.number (sym s.is ∙ sym (append-nil l.line))) f
