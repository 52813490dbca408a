-- The bytes of a side, cut at its lines.
use Rattle.std.proofs.Common.{◌≡◌, ◌≤◌, ◌<◌, ◌+◌, ◌-◌, ◌||◌, ℕ, Bool, true, false, List, [], ◌∷◌, ◌++◌, length, take, drop, codes, Some, zero, suc, refl, sym, ap, ◌∙◌, append_assoc, append-nil, arith}
use Rattle.std.specs.List.{slice_get}
use Rattle.std.proofs.lemmas.List.{drop-drop, length-append, take-append-drop}
use Rattle.std.proofs.lemmas.List.Folds.{list_any-append}
use Rattle.std.proofs.Math.Seq.{take-append_seam, drop-append_seam, take-add}
use Rattle.msg_head.specs.Lines.{FieldLine, line_text}
use Rattle.msg_head.specs.Names.{has_name}
use Rattle.msg_head.specs.Values.{is_there}
use Rattle.msg_head.specs.declared.error.Side.{Side}
use Rattle.msg_head.specs.declared.error.Side.TheVariants.{Header, Trailer}
use Rattle.framing.specs.Chunks.{chunks_text}
use Rattle.msg_head.specs.Heads.{head_text}
use Rattle.msg_head.specs.Starts.{start_text}
use Rattle.msg_head.specs.Trailers.{trailer_text}
use Rattle.msg_body.specs.Bodies.{Body, body_text, chunked, plain, trailers_in}
use Rattle.msg_body.specs.Messages.{Message, message_text}
use Rattle.msg_body.specs.Views.{body_before, lines_on, lines_start}
use Rattle.line_rewrites.specs.Sides.{SideParts, body_after, lines_text, side_parts, text_with}
use Rattle.line_rewrites.specs.tools.Computed.{lines_between, moved_backward, moved_forward}
use Rattle.line_rewrites.proofs.Lengths.{lines_joined}

-- the lines of the parts are those of the side
pub side_lines : (side : Side) (message : Message) → lines_on side message ≡ (side_parts side message).lines
side_lines Header message = refl
side_lines Trailer message = refl

-- the message's bytes are those of the side's parts
pub side_text : (side : Side) (message : Message) → message_text message ≡ text_with (side_parts side message) (side_parts side message).lines
side_text Header message =
    append_assoc (start_text message.head.start) (lines_text message.head.lines ++ codes "\r\n") (body_text message.body)
    ∙ ap (λ t. start_text message.head.start ++ t) (append_assoc (lines_text message.head.lines) (codes "\r\n") (body_text message.body))
side_text Trailer message = by message.body
  where
    by : (body : Body) → head_text message.head ++ body_text body ≡ (head_text message.head ++ body_before body) ++ (lines_text (trailers_in body) ++ body_after body)
    by (plain content) = sym (append-nil (head_text message.head ++ content))
    by (chunked chunks trailers) = sym (append_assoc (head_text message.head) (chunks_text chunks) (trailer_text trailers))

-- the offset of the line of the index
abbrev pub offset : SideParts → ℕ → ℕ
offset parts i = length parts.before + length (lines_text (take i parts.lines))

pub line_start : (side : Side) (message : Message) (i : ℕ) → lines_start side message + length (lines_text (take i (lines_on side message))) ≡ offset (side_parts side message) i
line_start Header message i = refl
line_start Trailer message i = ap (λ n. n + length (lines_text (take i (lines_on Trailer message)))) (sym (length-append (head_text message.head) (body_before message.body)))

-- before that offset, and from it on
abbrev pub front : SideParts → ℕ → List ℕ
front parts i = parts.before ++ lines_text (take i parts.lines)

abbrev pub back : SideParts → ℕ → List ℕ
back parts i = lines_text (drop i parts.lines) ++ parts.after

pub cut_text : (parts : SideParts) (i : ℕ) → text_with parts parts.lines ≡ front parts i ++ back parts i
cut_text parts i =
    ap (λ (ls : List FieldLine). text_with parts ls) (sym (take-append-drop i parts.lines))
    ∙ (ap (λ t. parts.before ++ (t ++ parts.after)) (lines_joined (take i parts.lines) (drop i parts.lines))
    ∙ (ap (λ t. parts.before ++ t) (append_assoc (lines_text (take i parts.lines)) (lines_text (drop i parts.lines)) parts.after)
    ∙ sym (append_assoc parts.before (lines_text (take i parts.lines)) (back parts i))))

front_length : (parts : SideParts) (i : ℕ) → offset parts i ≡ length (front parts i)
front_length parts i = sym (length-append parts.before (lines_text (take i parts.lines)))

pub front_is : (parts : SideParts) (bytes : List ℕ) (i n : ℕ) → bytes ≡ text_with parts parts.lines → n ≡ offset parts i → take n bytes ≡ front parts i
front_is parts bytes i n is at =
    let cut = is ∙ cut_text parts i in
    let there = at ∙ front_length parts i in
    rw (there, cut) (take-append_seam (front parts i) (back parts i))

pub back_is : (parts : SideParts) (bytes : List ℕ) (i n : ℕ) → bytes ≡ text_with parts parts.lines → n ≡ offset parts i → drop n bytes ≡ back parts i
back_is parts bytes i n is at =
    let cut = is ∙ cut_text parts i in
    let there = at ∙ front_length parts i in
    rw (there, cut) (drop-append_seam (front parts i) (back parts i))

pub within : (parts : SideParts) (bytes : List ℕ) (i n : ℕ) → bytes ≡ text_with parts parts.lines → n ≡ offset parts i → n ≤ length bytes
within parts bytes i n is at =
    let size = ap (λ t. length t) (is ∙ cut_text parts i) ∙ length-append (front parts i) (back parts i) in
    let there = at ∙ front_length parts i in
    omega (arith, size, there)

-- ---- between two lines

lines_to : (parts : SideParts) (i j : ℕ) → i ≤ j → take j parts.lines ≡ take i parts.lines ++ take (j - i) (drop i parts.lines)
lines_to parts i j le =
    let same : j ≡ i + (j - i) = omega (arith, le) in
    ap (λ k. take k parts.lines) same ∙ take-add i (j - i) parts.lines

middle_length : (parts : SideParts) (i j : ℕ) → i ≤ j → offset parts j ≡ offset parts i + length (lines_text (take (j - i) (drop i parts.lines)))
middle_length parts i j le =
    let joined = ap (λ (ls : List FieldLine). length (lines_text ls)) (lines_to parts i j le)
    ∙ (ap (λ t. length t) (lines_joined (take i parts.lines) (take (j - i) (drop i parts.lines)))
    ∙ length-append (lines_text (take i parts.lines)) (lines_text (take (j - i) (drop i parts.lines)))) in
    omega (arith, joined)

pub in_order : (parts : SideParts) (i j n m : ℕ) → i ≤ j → n ≡ offset parts i → m ≡ offset parts j → n ≤ m
in_order parts i j n m le at to = let more = middle_length parts i j le in omega (arith, more, at, to)

pub fits : (parts : SideParts) (bytes : List ℕ) (i j n m : ℕ) → bytes ≡ text_with parts parts.lines → i ≤ j → n ≡ offset parts i → m ≡ offset parts j → m - n ≤ length (drop n bytes)
fits parts bytes i j n m is le at to =
    let rest = ap (λ t. length t) (back_is parts bytes i n is at) in
    let more = middle_length parts i j le in
    let cut = ap (λ (ls : List FieldLine). length (lines_text ls)) (sym (take-append-drop (j - i) (drop i parts.lines)))
    ∙ (ap (λ t. length t) (lines_joined (take (j - i) (drop i parts.lines)) (drop (j - i) (drop i parts.lines)))
    ∙ length-append (lines_text (take (j - i) (drop i parts.lines))) (lines_text (drop (j - i) (drop i parts.lines)))) in
    let whole = length-append (lines_text (drop i parts.lines)) parts.after in
    omega (arith, rest, more, cut, whole, at, to)

pub middle_is : (parts : SideParts) (bytes : List ℕ) (i j n m : ℕ) → bytes ≡ text_with parts parts.lines → i ≤ j → n ≡ offset parts i → m ≡ offset parts j
    → take (m - n) (drop n bytes) ≡ lines_text (take (j - i) (drop i parts.lines))
middle_is parts bytes i j n m is le at to =
    let some = take (j - i) (drop i parts.lines) in
    let others = drop (j - i) (drop i parts.lines) in
    let more = middle_length parts i j le in
    let size : m - n ≡ length (lines_text some) = omega (arith, more, at, to) in
    let rest : drop n bytes ≡ lines_text some ++ (lines_text others ++ parts.after) =
    back_is parts bytes i n is at
    ∙ (ap (λ (ls : List FieldLine). lines_text ls ++ parts.after) (sym (take-append-drop (j - i) (drop i parts.lines)))
    ∙ (ap (λ t. t ++ parts.after) (lines_joined some others) ∙ append_assoc (lines_text some) (lines_text others) parts.after)) in
    rw (size, rest) (take-append_seam (lines_text some) (lines_text others ++ parts.after))

-- ---- names between two lines

one_line : (lines : List FieldLine) (k : ℕ) (line : FieldLine) → slice_get lines k ≡ Some line → take 1 (drop k lines) ≡ line ∷ []
one_line [] k line there = absurd cc
one_line (x ∷ xs) zero line there = let same : x ≡ line = cc in ap (λ (l : FieldLine). l ∷ []) same
one_line (x ∷ xs) (suc k) line there = one_line xs k line there

pub between_next : (lines : List FieldLine) (start i : ℕ) (line : FieldLine) (name : List ℕ) (b : Bool) → start ≤ i → slice_get lines i ≡ Some line → has_name name line ≡ b
    → is_there (take (i - start) (drop start lines)) name ≡ false → is_there (take (i + 1 - start) (drop start lines)) name ≡ b
between_next lines start i line name b le there named none =
    let k = i - start in
    let size : i + 1 - start ≡ k + 1 = omega (arith, le) in
    let at : k + start ≡ i = omega (arith, le) in
    let next : take (k + 1) (drop start lines) ≡ take k (drop start lines) ++ line ∷ [] =
    take-add k 1 (drop start lines) ∙ ap (λ (ls : List FieldLine). take k (drop start lines) ++ ls) (ap (take 1) (dropped k start lines at) ∙ one_line lines i line there) in
    ap (λ m. is_there (take m (drop start lines)) name) size
    ∙ (ap (λ (ls : List FieldLine). is_there ls name) next
    ∙ (list_any-append (has_name name) (take k (drop start lines)) (line ∷ [])
    ∙ rw (none, named) (last b)))
  where
    dropped : (k start : ℕ) (lines : List FieldLine) → k + start ≡ i → drop k (drop start lines) ≡ drop i lines
    dropped k start lines at =
        let other : start + k ≡ i = omega (arith, at) in
        drop-drop k start lines ∙ ap (λ n. drop n lines) other

    last : (b : Bool) → (b || false) ≡ b
    last true = refl
    last false = refl

-- a name that is found before the end is found
pub between_more : (lines : List FieldLine) (start i to : ℕ) (name : List ℕ) → start ≤ i → i < to → is_there (take (i + 1 - start) (drop start lines)) name ≡ true
    → is_there (take (to - start) (drop start lines)) name ≡ true
between_more lines start i to name le less is =
    let k = i + 1 - start in
    let size : to - start ≡ k + (to - (i + 1)) = omega (arith, le, less) in
    ap (λ m. is_there (take m (drop start lines)) name) size
    ∙ (ap (λ (ls : List FieldLine). is_there ls name) (take-add k (to - (i + 1)) (drop start lines))
    ∙ (list_any-append (has_name name) (take k (drop start lines)) (take (to - (i + 1)) (drop k (drop start lines))) ∙ rw is refl))

-- ---- a line that is moved

rejoined : (o a t b l d z : List ℕ) → (((o ++ (a ++ t)) ++ b) ++ (l ++ [])) ++ (d ++ z) ≡ o ++ (a ++ ((t ++ (b ++ (l ++ d))) ++ z))
rejoined o a t b l d z = simp (append_assoc, append-nil) refl

own_line : (lines : List FieldLine) (index : ℕ) (line : FieldLine) → slice_get lines index ≡ Some line → lines_between index (index + 1) lines ≡ line ∷ []
own_line lines index line there =
    let one : index + 1 - index ≡ 1 = omega arith in
    ap (λ n. take n (drop index lines)) one ∙ one_line lines index line there

pub forward_text : (parts : SideParts) (index to : ℕ) (line : FieldLine) (old : List ℕ) → slice_get parts.lines index ≡ Some line
    → (((old ++ front parts index) ++ lines_text (lines_between (index + 1) (to + 1) parts.lines)) ++ lines_text (lines_between index (index + 1) parts.lines)) ++ back parts (to + 1)
    ≡ old ++ text_with parts (moved_forward index to parts.lines line)
forward_text parts index to line old there =
    let first = lines_text (take index parts.lines) in
    let middle = lines_text (lines_between (index + 1) (to + 1) parts.lines) in
    let last = lines_text (drop (to + 1) parts.lines) in
    let own = ap lines_text (own_line parts.lines index line there) in
    let joined : lines_text (moved_forward index to parts.lines line) ≡ first ++ (middle ++ (line_text line ++ last)) =
    lines_joined (take index parts.lines) (lines_between (index + 1) (to + 1) parts.lines ++ line ∷ drop (to + 1) parts.lines)
    ∙ ap (λ t. first ++ t) (lines_joined (lines_between (index + 1) (to + 1) parts.lines) (line ∷ drop (to + 1) parts.lines)) in
    ap (λ t. (((old ++ front parts index) ++ middle) ++ t) ++ back parts (to + 1)) own
    ∙ (rejoined old parts.before first middle (line_text line) last parts.after
    ∙ ap (λ t. old ++ (parts.before ++ (t ++ parts.after))) (sym joined))

rejoined_back : (o a t l b d z : List ℕ) → (((o ++ (a ++ t)) ++ (l ++ [])) ++ b) ++ (d ++ z) ≡ o ++ (a ++ ((t ++ (l ++ (b ++ d))) ++ z))
rejoined_back o a t l b d z = simp (append_assoc, append-nil) refl

pub backward_text : (parts : SideParts) (index to : ℕ) (line : FieldLine) (old : List ℕ) → slice_get parts.lines index ≡ Some line
    → (((old ++ front parts to) ++ lines_text (lines_between index (index + 1) parts.lines)) ++ lines_text (lines_between to index parts.lines)) ++ back parts (index + 1)
    ≡ old ++ text_with parts (moved_backward index to parts.lines line)
backward_text parts index to line old there =
    let first = lines_text (take to parts.lines) in
    let middle = lines_text (lines_between to index parts.lines) in
    let last = lines_text (drop (index + 1) parts.lines) in
    let own = ap lines_text (own_line parts.lines index line there) in
    let joined : lines_text (moved_backward index to parts.lines line) ≡ first ++ (line_text line ++ (middle ++ last)) =
    lines_joined (take to parts.lines) (line ∷ (lines_between to index parts.lines ++ drop (index + 1) parts.lines))
    ∙ ap (λ t. first ++ (line_text line ++ t)) (lines_joined (lines_between to index parts.lines) (drop (index + 1) parts.lines)) in
    ap (λ t. (((old ++ front parts to) ++ t) ++ middle) ++ back parts (index + 1)) own
    ∙ (rejoined_back old parts.before first (line_text line) middle last parts.after
    ∙ ap (λ t. old ++ (parts.before ++ (t ++ parts.after))) (sym joined))
