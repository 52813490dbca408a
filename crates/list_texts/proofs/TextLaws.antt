-- Laws of lists of fields, and the answer to a text.
use Rattle.std.proofs.Common.{◌≡◌, ◌≢◌, ◌⊎◌, inl, inr, ℕ, ◌+◌, ◌-◌, ◌≤◌, ◌<◌, List, [], ◌∷◌, ◌++◌, length, Result, Ok, Err, refl, sym, ap, subst, ◌∙◌, arith}
use Rattle.std.specs.Prelude.{MatchResult}
use Rattle.std.proofs.lemmas.List.{append-nil, length-append}
use Rattle.byte_grammar.specs.Causes.{AnswersWhere}
use Rattle.byte_grammar.specs.FaultOffset.{IsFaultOffset}
use Rattle.byte_grammar.specs.Walk.{◌>>=◌}
use Rattle.byte_grammar.specs.tools.Walks.{value_at_end, whole_read}
use Rattle.byte_grammar.proofs.AnswerLaws.{IsMemoryDecided, NamesFault, memory_if, answers_where}
use Rattle.byte_grammar.proofs.OffsetLaws.{one_offset}
use Rattle.byte_grammar.proofs.Whole.{judges}
use Rattle.list_texts.specs.declared.fault.FieldsFault.{FieldsFault}
use Rattle.list_texts.specs.declared.fault.FieldsFault.TheVariants.{Memory, Syntax, TooLong}
use Rattle.list_texts.specs.declared.list.FieldList.{FieldList}
use Rattle.list_texts.specs.declared.stop.Stop.{Stop}
use Rattle.list_texts.specs.declared.stop.Stop.TheVariants as stop
use Rattle.list_texts.specs.Causes.{HasLongLine, IsFieldsCause, IsFieldsFault, fields_order}
use Rattle.list_texts.specs.Laws.{HasListOrFault, OneList, OneText, OneFieldsFault, NoFaultOfList}
use Rattle.list_texts.specs.Lists.{HasForm, SpellsList}
use Rattle.list_texts.specs.tools.FieldWalk.{form_read, form_step}
use Rattle.list_texts.specs.tools.Judged.{Explains}
use Rattle.list_texts.proofs.Checks.{LongIn}
use Rattle.list_texts.proofs.FormLaws.{meets_form}
use Rattle.list_texts.proofs.LongLaws.{all_countable, long_to, long_from}
use Rattle.list_texts.proofs.StepLaws.{LongForm, checks_form}

-- ---- the form of a whole text

whole_err : (text : List ℕ) (n : ℕ) → form_read text ≡ Err n → whole_read form_read text ≡ Err n
unfolding whole_read
whole_err text n e = ap (λ (r : Result (FieldList × List ℕ) ℕ). r >>= λ a. value_at_end a.0 a.1) e

whole_rest : (text : List ℕ) (list : FieldList) (c : ℕ) (rest : List ℕ) → form_read text ≡ Ok (list, c ∷ rest) → whole_read form_read text ≡ Err (length (c ∷ rest))
unfolding whole_read
whole_rest text list c rest e = ap (λ (r : Result (FieldList × List ℕ) ℕ). r >>= λ a. value_at_end a.0 a.1) e

whole_ok : (text : List ℕ) (list : FieldList) → form_read text ≡ Ok (list, []) → whole_read form_read text ≡ Ok list
unfolding whole_read
whole_ok text list e = ap (λ (r : Result (FieldList × List ℕ) ℕ). r >>= λ a. value_at_end a.0 a.1) e

stopped : (text : List ℕ) (n : ℕ) → whole_read form_read text ≡ Err n → (n ≤ length text) × IsFaultOffset HasForm text (length text - n)
stopped text n e = ((judges meets_form).within text n e, (judges meets_form).offset text n e)

-- the text of the form is read to its end
form_is : (text : List ℕ) (list : FieldList) → HasForm text list → form_read text ≡ Ok (list, [])
form_is text list h = ap form_read (sym (append-nil text)) ∙ meets_form.only text [] list h tt

-- ---- a line that passes a limit

line_within : (text : List ℕ) (n : ℕ) (l : LongIn LongForm text n) → length text ≡ length l.front + n
line_within text n l = omega (arith, ap (λ (y : List ℕ). length y) l.joined, length-append l.front (l.line ++ l.more), l.count)

line_at : (text : List ℕ) (n : ℕ) → LongIn LongForm text n → HasLongLine text (length text - n)
line_at text n l = record {
  before = l.front;
  line = l.line;
  more = l.more;
  joined = l.joined;
  long = long_to l.front l.line l.such;
  place = omega (arith, line_within text n l);
}

-- ---- the answer

-- what is answered, from what the reader gives
unfoldable pub answer : List ℕ → Result (FieldList × List ℕ) Stop → Result FieldList FieldsFault
answer text (Ok (list, [])) = Ok list
answer text (Ok (list, c ∷ rest)) = Err (Syntax (length text - length (c ∷ rest)))
answer text (Err (stop.Left n)) = Err (Syntax (length text - n))
answer text (Err (stop.TooLong n)) = Err (TooLong (length text - n))

abbrev Explained : List ℕ → Result FieldList FieldsFault → Type 0
Explained text (Ok list) = SpellsList text list
Explained text (Err Memory) = ⊥
Explained text (Err (Syntax offset)) = IsFaultOffset HasForm text offset
Explained text (Err (TooLong offset)) = HasLongLine text offset

explained : (text : List ℕ) → Explained text (answer text (form_step text))
unfolding answer
explained text = go (form_step text) refl
  where
    go : (r : Result (FieldList × List ℕ) Stop) → form_step text ≡ r → Explained text (answer text r)
    go (Ok (list, [])) e =
        let k = checks_form.ok text list [] e in
        record { form = (judges meets_form).ok text list (whole_ok text list k.0); within = k.1 }
    go (Ok (list, c ∷ rest)) e = (stopped text (length (c ∷ rest)) (whole_rest text list c rest (checks_form.ok text list (c ∷ rest) e).0)).1
    go (Err (stop.Left n)) e = (stopped text n (whole_err text n (checks_form.left text n e))).1
    go (Err (stop.TooLong n)) e = line_at text n (checks_form.long text n e)

-- ---- the answer is the one that the definitions give

is_list : (text : List ℕ) (list : FieldList) → SpellsList text list → answer text (form_step text) ≡ Ok list
unfolding answer
is_list text list s = ap (answer text) (checks_form.only text list [] (form_is text list s.form) s.within)

is_long : (text : List ℕ) (offset : ℕ) → HasLongLine text offset → answer text (form_step text) ≡ Err (TooLong offset)
unfolding answer
is_long text offset l =
    let n = length (l.line ++ l.more) in
    let stops : form_step text ≡ Err (stop.TooLong n) = ap form_step l.joined ∙ checks_form.stops l.before l.line l.more (long_from l.before l.line l.long) in
    let place : length text - n ≡ offset = omega (arith, ap (λ (y : List ℕ). length y) l.joined, length-append l.before (l.line ++ l.more), l.place) in
    ap (answer text) stops ∙ ap (λ (o : ℕ). Err (TooLong o)) place

is_syntax : (text : List ℕ) (offset : ℕ) → IsFaultOffset HasForm text offset → ((o : ℕ) → HasLongLine text o → ⊥) → answer text (form_step text) ≡ Err (Syntax offset)
is_syntax text offset f long = go (answer text (form_step text)) (explained text)
  where
    go : (r : Result FieldList FieldsFault) → Explained text r → r ≡ Err (Syntax offset)
    go (Ok list) h = absurd (f.none list h.form)
    go (Err Memory) h = absurd h
    go (Err (Syntax other)) h = ap (λ (o : ℕ). Err (Syntax o)) (one_offset HasForm text other offset h f)
    go (Err (TooLong o)) h = absurd (long o h)

fault_answered : (text : List ℕ) (fault : FieldsFault) → IsFieldsFault text fault → answer text (form_step text) ≡ Err fault
fault_answered text Memory f = absurd f.holds
fault_answered text (TooLong offset) f = is_long text offset f.holds
fault_answered text (Syntax offset) f = is_syntax text offset f.holds (λ o l. f.none_before (TooLong o) (omega arith) l)

-- ---- the fault that is answered is the first

not_both : (list : FieldList) (fault : FieldsFault) → ◌≡◌ {A = Result FieldList FieldsFault} (Ok list) (Err fault) → ⊥
not_both list fault e = absurd (cc e)

err_is : (fault other : FieldsFault) → ◌≡◌ {A = Result FieldList FieldsFault} (Err fault) (Err other) → fault ≡ other
err_is fault other e = cc

ok_is : (list other : FieldList) → ◌≡◌ {A = Result FieldList FieldsFault} (Ok list) (Ok other) → list ≡ other
ok_is list other e = cc

-- no cause holds that is answered otherwise
none_other : (text : List ℕ) (fault other : FieldsFault) → answer text (form_step text) ≡ Err fault → fields_order other < fields_order fault → IsFieldsCause text other → ⊥
none_other text fault Memory e less h = h
none_other text fault (TooLong o) e less h =
    let same : fault ≡ TooLong o = err_is _ _ (sym e ∙ is_long text o h) in
    absurd (omega (arith, less, ap fields_order same))
none_other text Memory (Syntax o) e less h = absurd (omega (arith, less))
none_other text (Syntax p) (Syntax o) e less h = absurd (omega (arith, less))
none_other text (TooLong p) (Syntax o) e less h = absurd (omega (arith, less))

cause : (text : List ℕ) (fault : FieldsFault) → Explained text (Err fault) → IsFieldsCause text fault
cause text Memory h = h
cause text (Syntax offset) h = h
cause text (TooLong offset) h = h

pub fault_of : (text : List ℕ) (fault : FieldsFault) → answer text (form_step text) ≡ Err fault → IsFieldsFault text fault
fault_of text fault e = record {
  holds = cause text fault (subst (λ (r : Result FieldList FieldsFault). Explained text r) e (explained text));
  none_before = λ other less h. none_other text fault other e less h;
}

pub list_of_text : (text : List ℕ) (list : FieldList) → answer text (form_step text) ≡ Ok list → SpellsList text list
list_of_text text list e = subst (λ (r : Result FieldList FieldsFault). Explained text r) e (explained text)

-- ---- the laws

pub one_list : OneList
one_list text list other a b = ok_is _ _ (sym (is_list text list a) ∙ is_list text other b)

pub no_fault_of_list : NoFaultOfList
no_fault_of_list text list fault s f = not_both _ _ (sym (is_list text list s) ∙ fault_answered text fault f)

pub one_fields_fault : OneFieldsFault
one_fields_fault text fault other a b = err_is _ _ (sym (fault_answered text fault a) ∙ fault_answered text other b)

pub has_list_or_fault : HasListOrFault
has_list_or_fault text = go (answer text (form_step text)) refl
  where
    go : (r : Result FieldList FieldsFault) → answer text (form_step text) ≡ r → ((list : FieldList) × SpellsList text list) ⊎ ((fault : FieldsFault) × IsFieldsFault text fault)
    go (Ok list) e = inl (list, list_of_text text list e)
    go (Err fault) e = inr (fault, fault_of text fault e)

pub one_text : OneText
one_text text list within = (
  λ s. s.form.joined,
  λ e. record {
    form = record { fields = all_countable list.fields within.fields; content = omega (arith, within.content); trailers = all_countable list.trailers within.trailers; joined = e };
    within = within;
  },
)

-- ---- what is answered

memory_or_not : IsMemoryDecided Memory
memory_or_not Memory = inl refl
memory_or_not (Syntax offset) = inr (λ e. cc)
memory_or_not (TooLong offset) = inr (λ e. cc)

pub only_list : (text : List ℕ) (result : Result FieldList FieldsFault) → Explains text result → (list : FieldList) → SpellsList text list → MatchResult result (λ given. given ≡ list) (λ fault. fault ≡ Memory)
only_list text (Ok given) is list s = one_list text given list is s
only_list text (Err fault) is list s = memory_if Memory memory_or_not fault (λ own. no_fault_of_list text list fault s (is own))

named : (text : List ℕ) (result : Result FieldList FieldsFault) → Explains text result → NamesFault Memory (IsFieldsFault text) result
named text (Ok given) is = λ fault. no_fault_of_list text given fault is
named text (Err fault) is = is

pub fault_is : (text : List ℕ) (result : Result FieldList FieldsFault) → Explains text result → (fault : FieldsFault) → fault ≢ Memory → AnswersWhere Memory result fault (IsFieldsFault text fault)
fault_is text result is = answers_where Memory memory_or_not (IsFieldsFault text) result (one_fields_fault text) (named text result is)

-- ---- the answer of the code

pub whole_list : (text : List ℕ) (list : FieldList) (rest : List ℕ) → form_step text ≡ Ok (list, rest) → length rest < 1 → SpellsList text list
unfolding answer
whole_list text list (c ∷ rest) e less = absurd (omega (arith, less))
whole_list text list [] e less = list_of_text text list (ap (answer text) e)

pub rest_left : (text : List ℕ) (list : FieldList) (rest : List ℕ) → form_step text ≡ Ok (list, rest) → 0 < length rest → IsFieldsFault text (Syntax (length text - length rest))
unfolding answer
rest_left text list [] e some = absurd (omega (arith, some))
rest_left text list (c ∷ rest) e some = fault_of text (Syntax (length text - length (c ∷ rest))) (ap (answer text) e)

pub left_at : (text : List ℕ) (n : ℕ) → form_step text ≡ Err (stop.Left n) → IsFieldsFault text (Syntax (length text - n))
unfolding answer
left_at text n e = fault_of text (Syntax (length text - n)) (ap (answer text) e)

pub long_at : (text : List ℕ) (n : ℕ) → form_step text ≡ Err (stop.TooLong n) → IsFieldsFault text (TooLong (length text - n))
unfolding answer
long_at text n e = fault_of text (TooLong (length text - n)) (ap (answer text) e)

pub within_left : (text : List ℕ) (n : ℕ) → form_step text ≡ Err (stop.Left n) → n ≤ length text
within_left text n e = (stopped text n (whole_err text n (checks_form.left text n e))).0

pub within_long : (text : List ℕ) (n : ℕ) → form_step text ≡ Err (stop.TooLong n) → n ≤ length text
within_long text n e = omega (arith, line_within text n (checks_form.long text n e))

pub within_rest : (text : List ℕ) (list : FieldList) (rest : List ℕ) → form_step text ≡ Ok (list, rest) → length rest ≤ length text
within_rest text list rest e =
    let s = meets_form.ok text list rest (checks_form.ok text list rest e).0 in
    omega (arith, ap (λ (y : List ℕ). length y) s.1, length-append s.0 rest)
