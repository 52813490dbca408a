-- The kinds of rewritings that change the field lines of a name: `host`, `add-label`, `resf`.
use Rattle.std.proofs.Common.{◌≡◌, ◌⊎◌, ℕ, Bool, true, ◌==◌, ◌&&◌, not, Option, Some, None, Ok, List, [], ◌∷◌, ◌++◌, All, codes, refl, sym, subst, ◌∙◌, ap, inl, inr}
use Rattle.std.specs.Prelude.{IsTrue}
use Rattle.std.specs.List.{list_all}
use Rattle.std.specs.Str.{byte}
use Rattle.std.proofs.lemmas.Bool.{and_parts, cases_Bool, false≢true}
use Rattle.std.proofs.lemmas.List.Elements.{All-head, All-tail, All-append, All-nil, All-cons}
use Rattle.byte_grammar.specs.Classes.{is_line_byte}
use Rattle.byte_grammar.specs.Language.{starts_in}
use Rattle.sfv_text.specs.Classes.{is_key, is_string_byte}
use Rattle.sfv_text.specs.Range.{is_dict_in_range, is_item_in_range, is_list_in_range}
use Rattle.sfv_text.specs.Strict.{dict_text, item_text, list_text}
use Rattle.sfv_text.proofs.Printable.{dict_is, item_is, list_is}
use Rattle.sfv_read.specs.Laws.{HasOneValue, HasValueOrNone, ReadsOnly}
use Rattle.sfv_read.specs.Reads.{ReadsDict, ReadsItem, ReadsList}
use Rattle.sfv_read.proofs.InRange.{dict_read_in_range, item_read_in_range, list_read_in_range}
use Rattle.sfv_read.proofs.Readings.{dict_has_one_value, dict_is_decided, item_has_one_value, item_is_decided, list_has_one_value, list_is_decided}
use Rattle.msg_head.specs.declared.error.Side.{Side}
use Rattle.msg_head.specs.declared.error.Side.TheVariants.{Header}
use Rattle.msg_head.specs.Lines.{FieldLine, IsLine}
use Rattle.msg_head.specs.Names.{has_name}
use Rattle.msg_head.specs.Values.{combined_value, is_there}
use Rattle.framing.specs.Framings.{is_request}
use Rattle.msg_body.specs.Messages.{IsMessage, Message}
use Rattle.msg_body.specs.Views.{lines_on, message_content}
use Rattle.component_ids.specs.Types.{kind_in}
use Rattle.component_ids.specs.declared.types.FieldKind.{FieldKind}
use Rattle.component_ids.specs.declared.types.FieldKind.TheVariants as kind
use Rattle.component_values.specs.Context.{MessageContext, answers_head}
use Rattle.component_values.specs.Values.{KindRow, StrictRow}
use Rattle.rewrite_script.specs.Lines.{ends_in_space, is_base64_byte, is_list_text, is_whole_writable}
use Rattle.rewrite_script.specs.declared.rewrite.WholeRewrite.TheVariants.{AddLabel, Host, Resf}
use Rattle.line_rewrites.specs.LineLists.{line_of}
use Rattle.line_rewrites.specs.Sound.{IsSoundMessage}
use Rattle.line_rewrites.specs.Steps.{with_lines_on}
use Rattle.line_rewrites.proofs.Texts.{with_lines_content}
use Rattle.whole_rewrites.specs.Laws.{IsOfMessages, IsReadAs}
use Rattle.whole_rewrites.specs.Lines.{IsInOneLine, IsLabelled, IsOtherHost, IsStrict, label_lines}
use Rattle.whole_rewrites.specs.Steps.{Makes, MakesLines}
use Rattle.whole_rewrites.specs.tools.Kinds.{IsExactKind}
use Rattle.whole_rewrites.proofs.FieldParts.{FirstLine, first_or_none, none_first, one_first}
use Rattle.whole_rewrites.proofs.FieldSound.{label_are, printable_line, side_lines, text_line, with_lines_sound}
use Rattle.whole_rewrites.proofs.FieldValues.{without}

-- ---- lines that become others

module _ (context : MessageContext) (side : Side) (Change : List FieldLine → List FieldLine → Type 0) where
  abbrev to_head : Bool
  to_head = answers_head context.related

  abbrev own : List FieldLine
  own = lines_on side context.message

  lines_one : ((one other : List FieldLine) → Change own one → Change own other → one ≡ other) → (one other : Message) → MakesLines context side Change one → MakesLines context side Change other → one ≡ other
  lines_one same one other a b =
      a.made_is ∙ (ap (with_lines_on to_head side context.message) (same a.lines b.lines a.change b.change) ∙ sym b.made_is)

  made_of : (lines : List FieldLine) → Change own lines → (made : Message) × MakesLines context side Change made
  made_of lines change = (with_lines_on to_head side context.message lines, record { lines = lines; change = change; made_is = refl })

  lines_or_not : (((lines : List FieldLine) × Change own lines) ⊎ ((lines : List FieldLine) → ¬ Change own lines))
      → ((made : Message) × MakesLines context side Change made) ⊎ ((made : Message) → ¬ MakesLines context side Change made)
  lines_or_not (inl found) = inl (made_of found.0 found.1)
  lines_or_not (inr none) = inr (λ made is. none is.lines is.change)

  lines_sound : ((lines : List FieldLine) → All IsLine own → Change own lines → All IsLine lines) → (made : Message) → IsMessage to_head context.message → MakesLines context side Change made
      → IsSoundMessage to_head made
  lines_sound keeps made message is =
      subst (λ (m : Message). IsSoundMessage to_head m) (sym is.made_is)
      (with_lines_sound to_head side context.message is.lines message (keeps is.lines (side_lines to_head side context.message message) is.change))

  lines_content : (made : Message) → MakesLines context side Change made → message_content made ≡ message_content context.message
  lines_content made is = ap message_content is.made_is ∙ with_lines_content to_head side context.message is.lines

lines_under : (context other : MessageContext) (side : Side) (Change : List FieldLine → List FieldLine → Type 0) (made : Message) → IsOfMessages context other → MakesLines context side Change made
    → MakesLines other side Change made
lines_under context other side Change made same is = record {
  lines = is.lines;
  change = subst (λ (m : Message). Change (lines_on side m) is.lines) (sym same.0) is.change;
  made_is = rw (same.0, same.1) is.made_is;
}

-- what holds of each element of parts
all_parts : (xs ys : List FieldLine) → All IsLine (xs ++ ys) → All IsLine xs × All IsLine ys
all_parts [] ys each = (All-nil IsLine, each)
all_parts (x ∷ xs) ys each =
    let rest = all_parts xs ys (All-tail IsLine x (xs ++ ys) each) in
    (All-cons IsLine x xs (All-head IsLine x (xs ++ ys) each) rest.0, rest.1)

-- the parts of lines are lines, and another one between them
around : (before : List FieldLine) (line : FieldLine) (after lines : List FieldLine) → lines ≡ before ++ line ∷ after → All IsLine lines → All IsLine before × IsLine line × All IsLine after
around before line after lines are each =
    let parts = all_parts before (line ∷ after) (subst (λ (ls : List FieldLine). All IsLine ls) are each) in
    (parts.0, All-head IsLine line after parts.1, All-tail IsLine line after parts.1)

joined : (before : List FieldLine) (line : FieldLine) (after lines : List FieldLine) → lines ≡ before ++ line ∷ after → All IsLine before → IsLine line → All IsLine after → All IsLine lines
joined before line after lines are one is other =
    subst (λ (ls : List FieldLine). All IsLine ls) (sym are) (All-append IsLine before (line ∷ after) one (All-cons IsLine line after is other))

-- ---- the text of `Host`

abbrev host_name : List ℕ
host_name = codes "host"

abbrev host_first : (text : List ℕ) (lines replaced : List FieldLine) → IsOtherHost text lines replaced → FirstLine host_name lines
host_first text lines replaced is = record {
  before = is.before;
  line = is.line;
  after = is.after;
  lines_are = is.lines_are;
  named = is.named;
  none_before = is.none_before;
}

one_host : (text : List ℕ) (lines one other : List FieldLine) → IsOtherHost text lines one → IsOtherHost text lines other → one ≡ other
one_host text lines one other a b =
    let same = one_first host_name lines (host_first text lines one a) (host_first text lines other b) in
    a.replaced_are
    ∙ ((λ i. same.0 i ++ (a.becomes ∙ (ap (λ (l : FieldLine). line_of l.name text) same.1 ∙ sym b.becomes)) i ∷ same.2 i)
    ∙ sym b.replaced_are)

host_or_not : (text : List ℕ) (lines : List FieldLine) → ((replaced : List FieldLine) × IsOtherHost text lines replaced) ⊎ ((replaced : List FieldLine) → ¬ IsOtherHost text lines replaced)
host_or_not text lines = elim (first_or_none host_name lines) [
  | inr none ↦ inr (λ replaced is. none_first host_name lines none (host_first text lines replaced is))
  | inl first ↦ elim (cases_Bool (is_there first.after host_name)) [
    | inl more ↦ inr (λ replaced is.
        let same = one_first host_name lines first (host_first text lines replaced is) in
        false≢true (sym is.none_after ∙ (ap (λ (ls : List FieldLine). is_there ls host_name) (sym same.2) ∙ more)))
    | inr alone ↦ inl (
      first.before ++ line_of first.line.name text ∷ first.after,
      record {
        before = first.before;
        line = first.line;
        other = line_of first.line.name text;
        after = first.after;
        lines_are = first.lines_are;
        named = first.named;
        none_before = first.none_before;
        none_after = alone;
        becomes = refl;
        replaced_are = refl;
      },
    )
  ]
]

host_are : (text : List ℕ) (lines replaced : List FieldLine) → list_all is_line_byte text ≡ true → All IsLine lines → IsOtherHost text lines replaced → All IsLine replaced
host_are text lines replaced writable each is =
    let parts = around is.before is.line is.after lines is.lines_are each in
    joined is.before is.other is.after replaced is.replaced_are parts.0
    (subst IsLine (sym is.becomes) (text_line is.line.name text parts.1.name writable)) parts.2

pub host_sound : (text : List ℕ) (context : MessageContext) (made : Message) → list_all is_line_byte text ≡ true → IsMessage (answers_head context.related) context.message → Makes context (Host text) made
    → IsSoundMessage (answers_head context.related) made
host_sound text context made writable message is =
    lines_sound context Header (IsOtherHost text) (λ lines each change. host_are text (lines_on Header context.message) lines writable each change) made message is.1

pub host_exact : (text : List ℕ) → IsExactKind (Host text)
host_exact text = record {
  one = λ context one other a b. lines_one context Header (IsOtherHost text) (λ xs ys. one_host text (lines_on Header context.message) xs ys) one other a.1 b.1;
  or_not = λ context writable message. elim (cases_Bool (is_request context.message.head.start)) [
    | inr response ↦ inr (λ made is. false≢true (sym response ∙ is.0))
    | inl request ↦ elim (lines_or_not context Header (IsOtherHost text) (host_or_not text (lines_on Header context.message))) [
      | inl made ↦ inl (made.0, (request, made.1))
      | inr none ↦ inr (λ made is. none made is.1)
    ]
  ];
  sound = λ context made writable message is. inl (host_sound text context made writable message is);
  content = λ context made is. lines_content context Header (IsOtherHost text) made is.1;
}

pub host_makes : (text : List ℕ) (context other : MessageContext) → IsOfMessages context other → (made : Message) → Makes context (Host text) made → Makes other (Host text) made
host_makes text context other same made is =
    (subst (λ (m : Message). IsTrue (is_request m.head.start)) (sym same.0) is.0, lines_under context other Header (IsOtherHost text) made same is.1)

-- ---- a further label

pub label_sound : (added tag params : List ℕ) (context : MessageContext) (made : Message) → IsTrue (is_whole_writable (AddLabel added tag params)) → IsMessage (answers_head context.related) context.message
    → Makes context (AddLabel added tag params) made → IsSoundMessage (answers_head context.related) made
label_sound added tag params context made writable message is =
    let key = and_parts (is_key added) (list_all is_base64_byte tag && is_list_text params) writable in
    let texts = and_parts (list_all is_base64_byte tag) (is_list_text params) key.1 in
    let all = and_parts (list_all is_line_byte params) (starts_in (λ c. c == byte "(") params && not (ends_in_space params)) texts.1 in
    lines_sound context Header (IsLabelled added tag params)
    (λ lines each change. subst (λ (ls : List FieldLine). All IsLine ls) (sym change)
    (All-append IsLine (lines_on Header context.message) (label_lines added tag params) each (label_are added tag params key.0 texts.0 all.0))) made message is

pub label_exact : (added tag params : List ℕ) → IsExactKind (AddLabel added tag params)
label_exact added tag params = record {
  one = λ context one other a b. lines_one context Header (IsLabelled added tag params) (λ xs ys x y. x ∙ sym y) one other a b;
  or_not = λ context writable message. inl (made_of context Header (IsLabelled added tag params) (lines_on Header context.message ++ label_lines added tag params) refl);
  sound = λ context made writable message is. inl (label_sound added tag params context made writable message is);
  content = λ context made is. lines_content context Header (IsLabelled added tag params) made is;
}

pub label_makes : (added tag params : List ℕ) (context other : MessageContext) → IsOfMessages context other → (made : Message) → Makes context (AddLabel added tag params) made
    → Makes other (AddLabel added tag params) made
label_makes added tag params context other same made is = lines_under context other Header (IsLabelled added tag params) made same is

-- ---- all lines of a name as their strict text

strict_one : {V : Type 0} (Reads : List ℕ → V → Type 0) (text_of : V → List ℕ) → HasOneValue Reads → (text one other : List ℕ) → StrictRow Reads text_of text (Ok one) → StrictRow Reads text_of text (Ok other) → one ≡ other
strict_one {V} Reads text_of one_value text one other a b = a.2 ∙ (ap text_of (one_value text a.0 b.0 a.1 b.1) ∙ sym b.2)

kind_one : (known : Option FieldKind) (text one other : List ℕ) → KindRow known text (Ok one) → KindRow known text (Ok other) → one ≡ other
kind_one (Some kind.Item) text one other a b = strict_one ReadsItem item_text item_has_one_value text one other a b
kind_one (Some kind.List) text one other a b = strict_one ReadsList list_text list_has_one_value text one other a b
kind_one (Some kind.Dictionary) text one other a b = strict_one ReadsDict dict_text dict_has_one_value text one other a b
kind_one None text one other a b = absurd cc

strict_or_not : {V : Type 0} (Reads : List ℕ → V → Type 0) (text_of : V → List ℕ) → HasValueOrNone Reads → (text : List ℕ)
    → ((strict : List ℕ) × StrictRow Reads text_of text (Ok strict)) ⊎ ((strict : List ℕ) → ¬ StrictRow Reads text_of text (Ok strict))
strict_or_not {V} Reads text_of decides text = elim (decides text) [
  | inl read ↦ inl (text_of read.0, (read.0, read.1, refl))
  | inr none ↦ inr (λ strict row. none row.0 row.1)
]

kind_or_not : (known : Option FieldKind) (text : List ℕ) → ((strict : List ℕ) × KindRow known text (Ok strict)) ⊎ ((strict : List ℕ) → ¬ KindRow known text (Ok strict))
kind_or_not (Some kind.Item) text = strict_or_not ReadsItem item_text item_is_decided text
kind_or_not (Some kind.List) text = strict_or_not ReadsList list_text list_is_decided text
kind_or_not (Some kind.Dictionary) text = strict_or_not ReadsDict dict_text dict_is_decided text
kind_or_not None text = inr (λ strict row. absurd cc)

strict_printed : {V : Type 0} (Reads : List ℕ → V → Type 0) (test : V → Bool) (text_of : V → List ℕ) → ReadsOnly Reads test → ((v : V) → test v ≡ true → list_all is_string_byte (text_of v) ≡ true)
    → (text strict : List ℕ) → StrictRow Reads text_of text (Ok strict) → list_all is_line_byte strict ≡ true
strict_printed Reads test text_of in_range prints text strict row =
    ap (λ (t : List ℕ). list_all is_line_byte t) row.2 ∙ printable_line (text_of row.0) (prints row.0 (in_range text row.0 row.1))

kind_printed : (known : Option FieldKind) (text strict : List ℕ) → KindRow known text (Ok strict) → list_all is_line_byte strict ≡ true
kind_printed (Some kind.Item) text strict row = strict_printed ReadsItem is_item_in_range item_text item_read_in_range item_is text strict row
kind_printed (Some kind.List) text strict row = strict_printed ReadsList is_list_in_range list_text list_read_in_range list_is text strict row
kind_printed (Some kind.Dictionary) text strict row = strict_printed ReadsDict is_dict_in_range dict_text dict_read_in_range dict_is text strict row
kind_printed None text strict row = absurd cc

abbrev one_line_first : (name text : List ℕ) (lines fewer : List FieldLine) → IsInOneLine name text lines fewer → FirstLine name lines
one_line_first name text lines fewer is = record {
  before = is.before;
  line = is.line;
  after = is.after;
  lines_are = is.lines_are;
  named = is.named;
  none_before = is.none_before;
}

one_strict : (known : Option FieldKind) (name : List ℕ) (lines one other : List FieldLine) → IsStrict known name lines one → IsStrict known name lines other → one ≡ other
one_strict known name lines one other a b =
    let texts = kind_one known (combined_value lines name) a.text b.text a.reads b.reads in
    let same = one_first name lines (one_line_first name a.text lines one a.one_line) (one_line_first name b.text lines other b.one_line) in
    a.one_line.fewer_are ∙ ((λ i. same.0 i ++ line_of (same.1 i).name (texts i) ∷ without name (same.2 i)) ∙ sym b.one_line.fewer_are)

strict_lines_or_not : (known : Option FieldKind) (name : List ℕ) (lines : List FieldLine) → ((fewer : List FieldLine) × IsStrict known name lines fewer) ⊎ ((fewer : List FieldLine) → ¬ IsStrict known name lines fewer)
strict_lines_or_not known name lines = elim (first_or_none name lines) [
  | inr none ↦ inr (λ fewer is. none_first name lines none (one_line_first name is.text lines fewer is.one_line))
  | inl first ↦ elim (kind_or_not known (combined_value lines name)) [
    | inr unread ↦ inr (λ fewer is. unread is.text is.reads)
    | inl read ↦ inl (
      first.before ++ line_of first.line.name read.0 ∷ without name first.after,
      record {
        text = read.0;
        reads = read.1;
        one_line = record {
          before = first.before;
          line = first.line;
          after = first.after;
          lines_are = first.lines_are;
          named = first.named;
          none_before = first.none_before;
          fewer_are = refl;
        };
      },
    )
  ]
]

without_are : (name : List ℕ) (lines : List FieldLine) → All IsLine lines → All IsLine (without name lines)
without_are name [] each = each
without_are name (line ∷ lines) each = elim (cases_Bool (has_name name line)) [
  | inl is ↦ rw is (without_are name lines (All-tail IsLine line lines each))
  | inr none ↦ rw none (All-cons IsLine line (without name lines) (All-head IsLine line lines each) (without_are name lines (All-tail IsLine line lines each)))
]

strict_are : (known : Option FieldKind) (name : List ℕ) (lines fewer : List FieldLine) → All IsLine lines → IsStrict known name lines fewer → All IsLine fewer
strict_are known name lines fewer each is =
    let one = is.one_line in
    let parts = around one.before one.line one.after lines one.lines_are each in
    joined one.before (line_of one.line.name is.text) (without name one.after) fewer one.fewer_are parts.0
    (text_line one.line.name is.text parts.1.name (kind_printed known (combined_value lines name) is.text is.reads)) (without_are name one.after parts.2)

pub strict_sound : (side : Side) (name : List ℕ) (context : MessageContext) (made : Message) → IsMessage (answers_head context.related) context.message → Makes context (Resf side name) made
    → IsSoundMessage (answers_head context.related) made
strict_sound side name context made message is =
    lines_sound context side (IsStrict (kind_in context.types name) name)
    (λ lines each change. strict_are (kind_in context.types name) name (lines_on side context.message) lines each change) made message is

pub strict_exact : (side : Side) (name : List ℕ) → IsExactKind (Resf side name)
strict_exact side name = record {
  one = λ context one other a b.
      lines_one context side (IsStrict (kind_in context.types name) name) (λ xs ys. one_strict (kind_in context.types name) name (lines_on side context.message) xs ys) one other a b;
  or_not = λ context writable message.
      lines_or_not context side (IsStrict (kind_in context.types name) name) (strict_lines_or_not (kind_in context.types name) name (lines_on side context.message));
  sound = λ context made writable message is. inl (strict_sound side name context made message is);
  content = λ context made is. lines_content context side (IsStrict (kind_in context.types name) name) made is;
}

pub strict_makes : (side : Side) (name : List ℕ) (context other : MessageContext) → IsOfMessages context other → IsReadAs context other → (made : Message) → Makes context (Resf side name) made
    → Makes other (Resf side name) made
strict_makes side name context other same read made is =
    let known = ap (λ types. kind_in types name) read.1 in
    let under = lines_under context other side (IsStrict (kind_in context.types name) name) made same is in
    subst (λ (k : Option FieldKind). MakesLines other side (IsStrict k name) made) (sym known) under
