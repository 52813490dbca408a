-- The bytes that rewritings of fields write are those of what they make.
use Rattle.std.proofs.Common.{◌≡◌, ◌+◌, ◌-◌, ◌<◌, ℕ, Bool, true, false, not, Option, Some, Result, Ok, Err, List, [], ◌∷◌, ◌++◌, length, take, drop, codes, refl, sym, ◌∙◌, ap, inl, inr, arith, append_assoc, append-nil, subst}
use Rattle.std.specs.Prelude.{IsTrue, OnOk}
use Rattle.std.specs.List.{list_all, slice_get}
use Rattle.std.proofs.lemmas.Bool.{cases_Bool, false≢true}
use Rattle.std.proofs.lemmas.List.{drop_all, length-drop, take_all}
use Rattle.byte_grammar.specs.Classes.{is_line_byte}
use Rattle.msg_head.specs.declared.error.Side.{Side}
use Rattle.msg_head.specs.declared.error.Side.TheVariants.{Header, Trailer}
use Rattle.msg_head.specs.Lines.{FieldLine, line_text}
use Rattle.msg_head.specs.Names.{has_name}
use Rattle.msg_head.specs.Values.{combined_value, is_there}
use Rattle.framing.specs.Framings.{is_request}
use Rattle.msg_body.specs.Bodies.{Body, chunked, plain, trailers_in}
use Rattle.msg_body.specs.Messages.{IsMessage, Message, message_text}
use Rattle.msg_body.specs.Views.{has_trailers, lines_on}
use Rattle.component_ids.specs.Types.{kind_in}
use Rattle.component_ids.specs.declared.types.FieldKind.{FieldKind}
use Rattle.derived_values.specs.declared.lack.Lack.{Lack}
use Rattle.component_values.specs.Context.{MessageContext, answers_head}
use Rattle.component_values.specs.Values.{KindRow}
use Rattle.component_values.proofs.RowLaws.{kind_one}
use Rattle.msg_body.specs.SameFields.{name_of}
use Rattle.rewrite_script.specs.Lines.{is_whole_writable}
use Rattle.rewrite_script.specs.declared.rewrite.WholeRewrite.TheVariants.{AddLabel, Host, Resf}
use Rattle.line_rewrites.specs.declared.fault.ApplyFault.TheVariants.{NotApplicable}
use Rattle.line_rewrites.specs.LineLists.{line_of}
use Rattle.line_rewrites.specs.Sides.{SideParts, has_side, lines_text, side_parts, text_with}
use Rattle.line_rewrites.specs.Steps.{with_lines_on}
use Rattle.line_rewrites.proofs.Lengths.{lines_joined}
use Rattle.line_rewrites.proofs.Parts.{cut_index}
use Rattle.line_rewrites.proofs.Slices.{between_next, side_lines}
use Rattle.line_rewrites.proofs.Texts.{with_lines_text}
use Rattle.whole_rewrites.specs.Lines.{IsLabelled, IsOtherHost, IsStrict, label_lines, member_line}
use Rattle.whole_rewrites.specs.Steps.{Makes, MakesLines}
use Rattle.whole_rewrites.specs.tools.Fields.{AnswersStrict, IsFirstAt, in_one_line, with_text, without_name}
use Rattle.whole_rewrites.specs.tools.Judged.{IsOffered}
use Rattle.whole_rewrites.proofs.FieldKinds.{host_sound, label_sound, strict_sound}
use Rattle.whole_rewrites.proofs.FieldParts.{FirstLine, name_is, none_first, one_first}

pub on_ok : {T E : Type 0} (result : Result T E) (P Q : Type 0) → (P → Q) → OnOk result P → OnOk result Q
on_ok (Ok value) P Q then is = then is
on_ok (Err error) P Q then is = tt

-- ---- texts in parts

-- a line of a member, written in parts
member_joined : (old name key text : List ℕ) → ((old ++ (name ++ (codes ": " ++ (key ++ codes "=")))) ++ text) ++ codes "\r\n" ≡ old ++ line_text (member_line name key text)
member_joined old name key text = simp (append_assoc) refl

pub member_written : (old name key text first second new : List ℕ) → first ≡ old ++ (name ++ (codes ": " ++ (key ++ codes "="))) → second ≡ first ++ text → new ≡ second ++ codes "\r\n"
    → new ≡ old ++ line_text (member_line name key text)
member_written old name key text first second new a b c =
    c ∙ (ap (λ (t : List ℕ). t ++ codes "\r\n") (b ∙ ap (λ (t : List ℕ). t ++ text) a) ∙ member_joined old name key text)

bytes_joined : (old name key tag : List ℕ)
    → (((old ++ (name ++ (codes ": " ++ (key ++ codes "=")))) ++ codes ":") ++ tag) ++ codes ":\r\n" ≡ old ++ line_text (member_line name key (codes ":" ++ (tag ++ codes ":")))
bytes_joined old name key tag = simp (append_assoc) refl

pub bytes_written : (old name key tag first second third new : List ℕ) → first ≡ old ++ (name ++ (codes ": " ++ (key ++ codes "="))) → second ≡ first ++ codes ":" → third ≡ second ++ tag
    → new ≡ third ++ codes ":\r\n" → new ≡ old ++ line_text (member_line name key (codes ":" ++ (tag ++ codes ":")))
bytes_written old name key tag first second third new a b c d =
    d ∙ (ap (λ (t : List ℕ). t ++ codes ":\r\n") (c ∙ ap (λ (t : List ℕ). t ++ tag) (b ∙ ap (λ (t : List ℕ). t ++ codes ":") a)) ∙ bytes_joined old name key tag)

-- two lines after all those of the side
labelled_parts : (o b l x y z : List ℕ) → (((o ++ (b ++ l)) ++ x) ++ y) ++ z ≡ o ++ (b ++ ((l ++ (x ++ (y ++ []))) ++ z))
labelled_parts o b l x y z = simp (append_assoc, append-nil) refl

labelled_text : (parts : SideParts) (old : List ℕ) (one other : FieldLine) (count : ℕ) → count ≡ length parts.lines
    → (((old ++ (parts.before ++ lines_text (take count parts.lines))) ++ line_text one) ++ line_text other) ++ (lines_text (drop count parts.lines) ++ parts.after)
    ≡ old ++ text_with parts (parts.lines ++ one ∷ other ∷ [])
labelled_text parts old one other count all =
    let taken : take count parts.lines ≡ parts.lines = take_all count parts.lines (omega (arith, all)) in
    let left : drop count parts.lines ≡ [] = drop_all count parts.lines (omega (arith, all)) in
    (λ i. (((old ++ (parts.before ++ lines_text (taken i))) ++ line_text one) ++ line_text other) ++ (lines_text (left i) ++ parts.after))
    ∙ (labelled_parts old parts.before (lines_text parts.lines) (line_text one) (line_text other) parts.after
    ∙ ap (λ (t : List ℕ). old ++ (parts.before ++ (t ++ parts.after))) (sym (lines_joined parts.lines (one ∷ other ∷ []))))

pub labelled_written : (parts : SideParts) (old : List ℕ) (one other : FieldLine) (count : ℕ) (front back first second third new : List ℕ) → count ≡ length parts.lines
    → front ≡ parts.before ++ lines_text (take count parts.lines) → back ≡ lines_text (drop count parts.lines) ++ parts.after → first ≡ old ++ front → second ≡ first ++ line_text one
    → third ≡ second ++ line_text other → new ≡ third ++ back → new ≡ old ++ text_with parts (parts.lines ++ one ∷ other ∷ [])
labelled_written parts old one other count front back first second third new all front_is back_is a b c d =
    d ∙ ((λ i. (c ∙ ap (λ (t : List ℕ). t ++ line_text other) (b ∙ ap (λ (t : List ℕ). t ++ line_text one) (a ∙ ap (λ (t : List ℕ). old ++ t) front_is))) i ++ back_is i)
    ∙ labelled_text parts old one other count all)

-- ---- what is offered

-- what the lines of a side become
module _ (context : MessageContext) (side : Side) (Change : List FieldLine → List FieldLine → Type 0) (lines : List FieldLine) (text : List ℕ) (has : has_side side context.message ≡ true)
    (change : Change (lines_on side context.message) lines) (text_is : text ≡ text_with (side_parts side context.message) lines) where
  abbrev made : Message
  made = with_lines_on (answers_head context.related) side context.message lines

  abbrev makes : MakesLines context side Change made
  makes = record { lines = lines; change = change; made_is = refl }

  told : text ≡ message_text made
  told = text_is ∙ sym (with_lines_text (answers_head context.related) side context.message lines has)

pub label_offered : (context : MessageContext) (added tag params text : List ℕ) → IsTrue (is_whole_writable (AddLabel added tag params)) → IsMessage (answers_head context.related) context.message
    → text ≡ text_with (side_parts Header context.message) (lines_on Header context.message ++ label_lines added tag params) → IsOffered context (AddLabel added tag params) text
label_offered context added tag params text writable message is =
    let longer = lines_on Header context.message ++ label_lines added tag params in
    record {
      made = made context Header (IsLabelled added tag params) longer text refl refl is;
      makes = makes context Header (IsLabelled added tag params) longer text refl refl is;
      sound = label_sound added tag params context (made context Header (IsLabelled added tag params) longer text refl refl is) writable message
          (makes context Header (IsLabelled added tag params) longer text refl refl is);
      text_is = told context Header (IsLabelled added tag params) longer text refl refl is;
    }

-- ---- the first line of a name

-- a side that the message doesn't have has no line
pub no_line_there : (side : Side) (message : Message) (index : ℕ) → has_side side message ≡ false → index < length (lines_on side message) → ⊥
no_line_there Header message index none there = false≢true (sym none)
no_line_there Trailer message index none there = by_body message.body none there
  where
    by_body : (body : Body) → has_trailers body ≡ false → index < length (trailers_in body) → ⊥
    by_body (plain content) none there = absurd (omega (arith, there))
    by_body (chunked chunks trailers) none there = false≢true (sym none)

abbrev pub first_at : (name : List ℕ) (lines : List FieldLine) (index : ℕ) (line : FieldLine) → IsFirstAt name lines index line → FirstLine name lines
first_at name lines index line is = record {
  before = take index lines;
  line = line;
  after = drop (index + 1) lines;
  lines_are = (cut_index lines index line is.there).0;
  named = name_is name line is.named;
  none_before = is.none_before;
}

-- the lines after it, up to the end
later : (lines : List FieldLine) (index count : ℕ) → count ≡ length lines → take (count - (index + 1)) (drop (index + 1) lines) ≡ drop (index + 1) lines
later lines index count all =
    let size = length-drop (index + 1) lines in
    take_all (count - (index + 1)) (drop (index + 1) lines) (omega (arith, all, size))

-- ---- `host`

module _ (context : MessageContext) (text : List ℕ) (parts : SideParts) (index count : ℕ) (line : FieldLine) (b : Bool) (same : parts ≡ side_parts Header context.message)
    (first : IsFirstAt (codes "host") (lines_on Header context.message) index line) (all : count ≡ length parts.lines)
    (tested : b ≡ is_there (take (count - (index + 1)) (drop (index + 1) parts.lines)) (name_of line)) where
  abbrev own : List FieldLine
  own = lines_on Header context.message

  further : is_there (drop (index + 1) own) (codes "host") ≡ b
  further =
      let lines : parts.lines ≡ own = ap (λ (p : SideParts). p.lines) same in
      ap (λ (ls : List FieldLine). is_there ls (codes "host")) (sym (later own index count (all ∙ ap (λ (ls : List FieldLine). length ls) lines)))
      ∙ (ap (is_there (take (count - (index + 1)) (drop (index + 1) own))) (sym (name_is (codes "host") line first.named))
      ∙ (ap (λ (ls : List FieldLine). is_there (take (count - (index + 1)) (drop (index + 1) ls)) (name_of line)) (sym lines) ∙ sym tested))

  -- one
  change : b ≡ false → IsOtherHost text own (with_text index line text own)
  change alone = record {
    before = take index own;
    line = line;
    other = line_of line.name text;
    after = drop (index + 1) own;
    lines_are = (cut_index own index line first.there).0;
    named = name_is (codes "host") line first.named;
    none_before = first.none_before;
    none_after = further ∙ alone;
    becomes = refl;
    replaced_are = refl;
  }

  pub host_offered : b ≡ false → list_all is_line_byte text ≡ true → IsMessage (answers_head context.related) context.message → IsTrue (is_request context.message.head.start) → (written old : List ℕ) → old ≡ []
      → written ≡ old ++ text_with parts (with_text index line text parts.lines) → IsOffered context (Host text) written
  host_offered alone writable message request written old empty written_is =
      let others = with_text index line text own in
      let is : written ≡ text_with (side_parts Header context.message) others = written_is ∙ (λ i. empty i ++ text_with (same i) (with_text index line text (same i).lines)) in
      let makes = makes context Header (IsOtherHost text) others written refl (change alone) is in
      let made = with_lines_on (answers_head context.related) Header context.message others in
      record {
        made = made;
        makes = (request, makes);
        sound = host_sound text context made writable message (request, makes);
        text_is = told context Header (IsOtherHost text) others written refl (change alone) is;
      }

  -- several
  pub many_hosts : b ≡ true → (other : Message) → Makes context (Host text) other → ⊥
  many_hosts more other is =
      let c = is.1.change in
      let at = one_first (codes "host") own (first_at (codes "host") own index line first)
      (record { before = c.before; line = c.line; after = c.after; lines_are = c.lines_are; named = c.named; none_before = c.none_before }) in
      false≢true (sym c.none_after ∙ (ap (λ (ls : List FieldLine). is_there ls (codes "host")) (sym at.2) ∙ (further ∙ more)))

-- ---- the walk to the first line

pub next_named : (lines : List FieldLine) (index : ℕ) (line : FieldLine) (name : List ℕ) → slice_get lines index ≡ Some line → has_name name line ≡ false → is_there (take index lines) name ≡ false
    → is_there (take (index + 1) lines) name ≡ false
next_named lines index line name there not none =
    let here : index - 0 ≡ index = omega arith in
    let next : index + 1 - 0 ≡ index + 1 = omega arith in
    ap (λ n. is_there (take n lines) name) (sym next)
    ∙ between_next lines 0 index line name false (omega arith) there not (ap (λ n. is_there (take n lines) name) here ∙ none)

-- ---- other lines of a name

-- the lines are written up to one, and from it on
left_at : (lines : List FieldLine) (index : ℕ) (line : FieldLine) → slice_get lines index ≡ Some line → drop index lines ≡ line ∷ drop (index + 1) lines
left_at lines index line there = (cut_index lines index line there).2

one_more : (name : List ℕ) (line : FieldLine) (lines : List FieldLine) → lines_text (without_name name (line ∷ lines)) ≡ lines_text (without_name name (line ∷ [])) ++ lines_text (without_name name lines)
one_more name line lines = elim (cases_Bool (has_name name line)) [
  | inl is ↦ rw is refl
  | inr not ↦ rw not (ap (λ (t : List ℕ). t ++ lines_text (without_name name lines)) (sym (append-nil (line_text line))))
]

-- what is written so far, and the lines that are left
pub further_line : (name : List ℕ) (lines : List FieldLine) (index : ℕ) (line : FieldLine) (all text new : List ℕ) → slice_get lines index ≡ Some line
    → text ++ lines_text (without_name name (drop index lines)) ≡ all → new ≡ text ++ lines_text (without_name name (line ∷ [])) → new ++ lines_text (without_name name (drop (index + 1) lines)) ≡ all
further_line name lines index line all text new there so_far is =
    let rest = lines_text (without_name name (drop (index + 1) lines)) in
    ap (λ (t : List ℕ). t ++ rest) is
    ∙ (append_assoc text (lines_text (without_name name (line ∷ []))) rest
    ∙ (ap (λ (t : List ℕ). text ++ t) (sym (one_more name line (drop (index + 1) lines)))
    ∙ (ap (λ (ls : List FieldLine). text ++ lines_text (without_name name ls)) (sym (left_at lines index line there)) ∙ so_far)))

-- ---- strict texts

pub strict_said : (known other : Option FieldKind) (text value : List ℕ) (said answer : Result (List ℕ) Lack) → known ≡ other → text ≡ value → said ≡ answer → KindRow known text said
    → KindRow other value answer
strict_said known other text value said answer kinds texts answers row =
    subst (λ (p : Option FieldKind × List ℕ × Result (List ℕ) Lack). KindRow p.0 p.1 p.2) (λ i. (kinds i, texts i, answers i)) row

-- a text that comes to a lack comes to no strict text
pub no_strict : (kind : Option FieldKind) (text : List ℕ) (lack : Lack) → KindRow kind text (Err lack) → AnswersStrict (KindRow kind text) (Err NotApplicable)
no_strict kind text lack row strict is =
    let sole = kind_one kind text in
    let same : Ok strict ≡ Err lack = sole.only (Ok strict) is ∙ sym (sole.only (Err lack) row) in cc

-- ---- `resf`

pub no_strict_line : (context : MessageContext) (side : Side) (name : List ℕ) → is_there (lines_on side context.message) name ≡ false → (other : Message) → Makes context (Resf side name) other → ⊥
no_strict_line context side name none other makes =
    let is = makes.change.one_line in
    none_first name (lines_on side context.message) none
    (record { before = is.before; line = is.line; after = is.after; lines_are = is.lines_are; named = is.named; none_before = is.none_before })

one_line_parts : (b t l w z : List ℕ) → (((b ++ t) ++ l) ++ w) ++ z ≡ b ++ ((t ++ (l ++ w)) ++ z)
one_line_parts b t l w z = simp (append_assoc) refl

module _ (context : MessageContext) (side : Side) (name strict : List ℕ) (parts : SideParts) (index count : ℕ) (line : FieldLine) (has : has_side side context.message ≡ true)
    (same : parts ≡ side_parts side context.message) (first : IsFirstAt name (lines_on side context.message) index line) (all : count ≡ length parts.lines)
    (reads : KindRow (kind_in context.types name) (combined_value (lines_on side context.message) name) (Ok strict)) where
  abbrev lines : List FieldLine
  lines = lines_on side context.message

  abbrev strict_line : FieldLine
  strict_line = line_of line.name strict

  abbrev fewer : List FieldLine
  fewer = in_one_line name index line strict lines

  strict_change : IsStrict (kind_in context.types name) name lines fewer
  strict_change = record {
    text = strict;
    reads = reads;
    one_line = record {
      before = take index lines;
      line = line;
      after = drop (index + 1) lines;
      lines_are = (cut_index lines index line first.there).0;
      named = name_is name line first.named;
      none_before = first.none_before;
      fewer_are = refl;
    };
  }

  lines_same : parts.lines ≡ lines
  lines_same = ap (λ (p : SideParts). p.lines) same ∙ sym (side_lines side context.message)

  none_left : drop count parts.lines ≡ []
  none_left = drop_all count parts.lines (omega (arith, all))

  strict_written : (old front back start second third new : List ℕ) → old ≡ [] → front ≡ parts.before ++ lines_text (take index parts.lines) → back ≡ lines_text (drop count parts.lines) ++ parts.after
      → start ≡ old ++ front → second ≡ start ++ line_text strict_line → third ≡ second ++ lines_text (without_name name (drop (index + 1) lines)) → new ≡ third ++ back → new ≡ text_with parts fewer
  strict_written old front back start second third new empty front_is back_is a b c d =
      let others = lines_text (without_name name (drop (index + 1) lines)) in
      let first_is : start ≡ parts.before ++ lines_text (take index lines) =
      a ∙ ((λ i. empty i ++ front_is i) ∙ ap (λ (ls : List FieldLine). parts.before ++ lines_text (take index ls)) lines_same) in
      let last_is : back ≡ parts.after = back_is ∙ ap (λ (ls : List FieldLine). lines_text ls ++ parts.after) none_left in
      d
      ∙ ((λ i. (c ∙ ap (λ (t : List ℕ). t ++ others) (b ∙ ap (λ (t : List ℕ). t ++ line_text strict_line) first_is)) i ++ last_is i)
      ∙ (one_line_parts parts.before (lines_text (take index lines)) (line_text strict_line) others parts.after
      ∙ ap (λ (t : List ℕ). parts.before ++ (t ++ parts.after)) (sym (lines_joined (take index lines) (strict_line ∷ without_name name (drop (index + 1) lines))))))

  pub strict_offered : IsMessage (answers_head context.related) context.message → (old front back start second third new : List ℕ) → old ≡ [] → front ≡ parts.before ++ lines_text (take index parts.lines)
      → back ≡ lines_text (drop count parts.lines) ++ parts.after → start ≡ old ++ front → second ≡ start ++ line_text strict_line
      → third ≡ second ++ lines_text (without_name name (drop (index + 1) lines)) → new ≡ third ++ back → IsOffered context (Resf side name) new
  strict_offered message old front back start second third new empty front_is back_is a b c d =
      let is : new ≡ text_with (side_parts side context.message) fewer =
      strict_written old front back start second third new empty front_is back_is a b c d ∙ ap (λ (p : SideParts). text_with p fewer) same in
      let Change = IsStrict (kind_in context.types name) name in
      let makes = makes context side Change fewer new has strict_change is in
      let made = with_lines_on (answers_head context.related) side context.message fewer in
      record {
        made = made;
        makes = makes;
        sound = strict_sound side name context made message makes;
        text_is = told context side Change fewer new has strict_change is;
      }
