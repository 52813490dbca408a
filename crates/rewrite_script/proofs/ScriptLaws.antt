-- Scripts, line after line.
use Rattle.std.proofs.Common.{◌≡◌, ◌⊎◌, inl, inr, ℕ, zero, suc, ◌+◌, ◌<◌, ◌≤◌, Bool, true, false, not, cond, eqb, List, [], ◌∷◌, ◌++◌, length, reverse, codes, Option, Some, None, refl, sym, ap, subst, ◌∙◌, append_assoc, append-nil, arith}
use Rattle.std.specs.List.{count_by, list_all}
use Rattle.std.proofs.lemmas.Bool.{cases_lt, and_parts, and_from}
use Rattle.std.proofs.lemmas.Grind.{flat_map-append}
use Rattle.std.proofs.lemmas.List.{length-append, reverse-append}
use Rattle.std.proofs.lemmas.List.Sums.{sum_by-append, sum_by-cons}
use Rattle.byte_grammar.specs.Classes.{is_line_byte}
use Rattle.byte_grammar.specs.Language.{starts_in}
use Rattle.byte_grammar.specs.tools.Determined.{AreDetermined}
use Rattle.byte_grammar.proofs.CauseLaws.{first_is_one}
use Rattle.byte_grammar.proofs.ChoiceLaws.{apart}
use Rattle.byte_grammar.proofs.ListLaws.{all_implied, all_joined}
use Rattle.rewrite_script.specs.declared.rewrite.Rewrite.{Rewrite}
use Rattle.rewrite_script.specs.declared.fault.ScriptFault.{ScriptFault}
use Rattle.rewrite_script.specs.declared.fault.ScriptFault.TheVariants.{Memory, TooMany, BadLine}
use Rattle.rewrite_script.specs.declared.fault.LineFault.{LineFault}
use Rattle.rewrite_script.specs.declared.fault.LineFault.TheVariants.{Memory as NoMemory, NotSpelled}
use Rattle.rewrite_script.specs.Lines.{HasValues, is_writable, rewrite_line}
use Rattle.rewrite_script.specs.Scripts.{HaveValues, ended_line, script_text, SpellsScript, is_line_end, is_unended, line_count}
use Rattle.rewrite_script.specs.Causes.{BeginsWithNoLine, IsBadLine, IsScriptCause, IsScriptFault, script_order}
use Rattle.rewrite_script.specs.Laws.{HasScriptOrFault, OneScript, OneScriptFault, NoFaultOfScript}
use Rattle.rewrite_script.specs.tools.Gives.{FailsWhere}
use Rattle.rewrite_script.specs.tools.Judged.{AreRead}
use Rattle.rewrite_script.specs.tools.LineWalk.{◌>>=◌, cut_read, first_read, line_read, ended_read}
use Rattle.rewrite_script.proofs.Cuts.{but}
use Rattle.rewrite_script.proofs.Exactness.{bind_some, first_sound, first_complete, some_is}
use Rattle.rewrite_script.proofs.KindLaws.{line_exact}
use Rattle.rewrite_script.proofs.ValueLaws.{values_decided}

-- ---- one line and its LF

no_line_end : (rewrite : Rewrite) → is_writable rewrite ≡ true → list_all (but 10) (rewrite_line rewrite) ≡ true
no_line_end rewrite is = all_implied is_line_byte (but 10) (apart is_line_byte 10 refl) (rewrite_line rewrite) (line_exact.clean rewrite is)

ended_then : (rewrite : Rewrite) (rest : List ℕ) → ended_line rewrite ++ rest ≡ rewrite_line rewrite ++ 10 ∷ rest
ended_then rewrite rest = append_assoc (rewrite_line rewrite) (codes "\n") rest

pub ended_sound : (bytes : List ℕ) (rewrite : Rewrite) (rest : List ℕ) → ended_read bytes ≡ Some (rewrite, rest) → (is_writable rewrite ≡ true) × (bytes ≡ ended_line rewrite ++ rest)
unfolding ended_read
ended_sound bytes rewrite rest e =
    let s = first_sound line_exact 10 refl no_line_end bytes rewrite rest e in
    (s.0, s.1 ∙ sym (ended_then rewrite rest))

pub ended_complete : (rewrite : Rewrite) (rest : List ℕ) → is_writable rewrite ≡ true → ended_read (ended_line rewrite ++ rest) ≡ Some (rewrite, rest)
unfolding ended_read
ended_complete rewrite rest is = ap ended_read (ended_then rewrite rest) ∙ first_complete line_exact 10 refl no_line_end rewrite rest is

-- no line comes first, or one whose words have no values
abbrev pub IsNotRead : List ℕ → Type 0
IsNotRead bytes = (x : Rewrite × List ℕ) → ended_read bytes ≡ Some x → ¬ HasValues x.0

pub no_line : (bytes : List ℕ) → IsNotRead bytes → BeginsWithNoLine bytes
no_line bytes none rewrite more is values begins = none (rewrite, more) (ap ended_read begins ∙ ended_complete rewrite more is) values

-- ---- one line, from its parts

pub ended_is : (bytes line rest : List ℕ) (rewrite : Rewrite) → cut_read 10 bytes ≡ Some (line, rest) → line_read line ≡ Some rewrite → ended_read bytes ≡ Some (rewrite, rest)
unfolding ended_read first_read
ended_is bytes line rest rewrite cut is =
    ap (λ (o : Option (List ℕ × List ℕ)). o >>= λ w. line_read w.0 >>= λ v. Some (v, w.1)) cut
    ∙ ap (λ (o : Option Rewrite). o >>= λ v. Some (v, rest)) is

pub ended_isnt : (bytes line rest : List ℕ) → cut_read 10 bytes ≡ Some (line, rest) → ((rewrite : Rewrite) → line_read line ≡ Some rewrite → ¬ HasValues rewrite) → IsNotRead bytes
unfolding ended_read first_read
ended_isnt bytes line rest cut none x e values =
    let u = bind_some (line_read line) (λ v. Some (v, rest)) x (sym (ap (λ (o : Option (List ℕ × List ℕ)). o >>= λ w. line_read w.0 >>= λ v. Some (v, w.1)) cut) ∙ e) in
    let same : (u.0, rest) ≡ x = some_is _ _ u.2 in
    none u.0 u.1 (subst (λ (y : Rewrite × List ℕ). HasValues y.0) (sym same) values)

pub ended_err : (bytes line rest : List ℕ) (fault : LineFault) → cut_read 10 bytes ≡ Some (line, rest) → FailsWhere HasValues fault (line_read line)
    → FailsWhere (λ (x : Rewrite × List ℕ). HasValues x.0) fault (ended_read bytes)
ended_err bytes line rest NoMemory cut given = tt
ended_err bytes line rest NotSpelled cut given = ended_isnt bytes line rest cut given

pub not_ended : (bytes : List ℕ) → cut_read 10 bytes ≡ None → IsNotRead bytes
unfolding ended_read first_read
not_ended bytes cut x e values =
    let none : None ≡ Some x = sym (ap (λ (o : Option (List ℕ × List ℕ)). o >>= λ w. line_read w.0 >>= λ v. Some (v, w.1)) cut) ∙ e in
    absurd (cc none)

ended_some : (rewrite : Rewrite) (rest : List ℕ) → length rest < length (ended_line rewrite ++ rest)
ended_some rewrite rest = omega (arith, length-append (ended_line rewrite) rest, length-append (rewrite_line rewrite) (codes "\n"))

pub shorter : (bytes : List ℕ) (rewrite : Rewrite) (rest : List ℕ) → ended_read bytes ≡ Some (rewrite, rest) → length rest < length bytes
shorter bytes rewrite rest e = omega (arith, ended_some rewrite rest, ap (λ (y : List ℕ). length y) (ended_sound bytes rewrite rest e).1)

nothing : BeginsWithNoLine []
nothing rewrite more is values begins = absurd (omega (arith, ended_some rewrite more, ap (λ (y : List ℕ). length y) begins))

-- ---- line after line

pub none_read : (text : List ℕ) → AreRead text [] text
none_read text = record { writable = refl; values = tt; joined = refl }

values_joined : (a b : List Rewrite) → HaveValues a → HaveValues b → HaveValues (a ++ b)
values_joined [] b x y = y
values_joined (rewrite ∷ a) b x y = (x.0, values_joined a b x.1 y)

pub read_more : (text : List ℕ) (script : List Rewrite) (bytes : List ℕ) (rewrite : Rewrite) (rest : List ℕ) → AreRead text script bytes → ended_read bytes ≡ Some (rewrite, rest) → HasValues rewrite → AreRead text (script ++ rewrite ∷ []) rest
read_more text script bytes rewrite rest read e values =
    let s = ended_sound bytes rewrite rest e in
    let texts : script_text (script ++ rewrite ∷ []) ≡ script_text script ++ ended_line rewrite = flat_map-append ended_line script (rewrite ∷ []) ∙ ap (λ (y : List ℕ). script_text script ++ y) (append-nil (ended_line rewrite)) in
    record {
      writable = all_joined is_writable script (rewrite ∷ []) read.writable (and_from (is_writable rewrite) true s.0 refl);
      values = values_joined script (rewrite ∷ []) read.values (values, tt);
      joined = read.joined ∙ ap (λ (y : List ℕ). script_text script ++ y) s.1 ∙ sym (append_assoc (script_text script) (ended_line rewrite) rest) ∙ ap (λ (y : List ℕ). y ++ rest) (sym texts);
    }

pub bad_line : (text : List ℕ) (script : List Rewrite) (bytes : List ℕ) → AreRead text script bytes → 0 < length bytes → IsNotRead bytes → IsBadLine text (length script)
bad_line text script bytes read some e = record {
  before = script;
  rest = bytes;
  joined = read.joined;
  writable = read.writable;
  values = read.values;
  count = refl;
  some = some;
  bad = no_line bytes e;
}

-- ---- a text is cut into lines of rewritings in one way

pub one_reading : (a b : List Rewrite) (x y : List ℕ) → list_all is_writable a ≡ true → list_all is_writable b ≡ true → HaveValues a → HaveValues b → BeginsWithNoLine x → BeginsWithNoLine y → script_text a ++ x ≡ script_text b ++ y → (a ≡ b) × (x ≡ y)
one_reading [] [] x y p q v w stop halt e = (refl, e)
one_reading [] (s ∷ b) x y p q v w stop halt e =
    let both = and_parts (is_writable s) (list_all is_writable b) q in
    absurd (stop s (script_text b ++ y) both.0 w.0 (e ∙ append_assoc (ended_line s) (script_text b) y))
one_reading (r ∷ a) [] x y p q v w stop halt e =
    let both = and_parts (is_writable r) (list_all is_writable a) p in
    absurd (halt r (script_text a ++ x) both.0 v.0 (sym e ∙ append_assoc (ended_line r) (script_text a) x))
one_reading (r ∷ a) (s ∷ b) x y p q v w stop halt e =
    let one = and_parts (is_writable r) (list_all is_writable a) p in
    let two = and_parts (is_writable s) (list_all is_writable b) q in
    let read : Some (r, script_text a ++ x) ≡ Some (s, script_text b ++ y) =
    sym (ended_complete r (script_text a ++ x) one.0)
    ∙ ap ended_read (sym (append_assoc (ended_line r) (script_text a) x) ∙ e ∙ append_assoc (ended_line s) (script_text b) y)
    ∙ ended_complete s (script_text b ++ y) two.0 in
    let pair : (r, script_text a ++ x) ≡ (s, script_text b ++ y) = some_is _ _ read in
    let same : r ≡ s = ap (λ (z : Rewrite × List ℕ). z.0) pair in
    let more = one_reading a b x y one.1 two.1 v.1 w.1 stop halt (ap (λ (z : Rewrite × List ℕ). z.1) pair) in
    (λ i. same i ∷ more.0 i, more.1)

-- ---- how many lines a script has

count_cons : (c : ℕ) (text : List ℕ) → count_by is_line_end (c ∷ text) ≡ cond (is_line_end c) 1 0 + count_by is_line_end text
count_cons c text = sum_by-cons (λ c. cond (is_line_end c) 1 0) c text

count_append : (a b : List ℕ) → count_by is_line_end (a ++ b) ≡ count_by is_line_end a + count_by is_line_end b
count_append a b = sum_by-append (λ c. cond (is_line_end c) 1 0) a b

none_counted : (text : List ℕ) → list_all (but 10) text ≡ true → count_by is_line_end text ≡ 0
none_counted [] all = refl
none_counted (c ∷ text) all =
    let both = and_parts (but 10 c) (list_all (but 10) text) all in
    let other : is_line_end c ≡ false = not_is (eqb c 10) both.0 in
    omega (arith, count_cons c text, ap {B = ℕ} (λ (b : Bool). cond b 1 0) other, none_counted text both.1)
  where
    not_is : (b : Bool) → not b ≡ true → b ≡ false
    not_is true e = absurd cc
    not_is false e = refl

ended_counted : (rewrite : Rewrite) → is_writable rewrite ≡ true → count_by is_line_end (ended_line rewrite) ≡ 1
ended_counted rewrite is = omega (arith, count_append (rewrite_line rewrite) (codes "\n"), none_counted (rewrite_line rewrite) (no_line_end rewrite is))

ends_counted : (script : List Rewrite) → list_all is_writable script ≡ true → count_by is_line_end (script_text script) ≡ length script
ends_counted [] all = refl
ends_counted (rewrite ∷ script) all =
    let both = and_parts (is_writable rewrite) (list_all is_writable script) all in
    omega (arith, count_append (ended_line rewrite) (script_text script), ended_counted rewrite both.0, ends_counted script both.1)

abbrev no_end : ℕ → Bool
no_end c = not (is_line_end c)

starts_joined : (xs ys : List ℕ) → starts_in no_end xs ≡ false → starts_in no_end ys ≡ false → starts_in no_end (xs ++ ys) ≡ false
starts_joined [] ys a b = b
starts_joined (x ∷ xs) ys a b = a

all_ended : (script : List Rewrite) → is_unended (script_text script) ≡ false
all_ended [] = refl
all_ended (rewrite ∷ script) =
    let one : starts_in no_end (reverse (ended_line rewrite)) ≡ false = ap (starts_in no_end) (reverse-append (rewrite_line rewrite) (codes "\n")) in
    ap (starts_in no_end) (reverse-append (ended_line rewrite) (script_text script))
    ∙ starts_joined (reverse (script_text script)) (reverse (ended_line rewrite)) (all_ended script) one

pub counted : (script : List Rewrite) → list_all is_writable script ≡ true → line_count (script_text script) ≡ length script
counted script all = omega (arith, ends_counted script all, ap {B = ℕ} (λ (b : Bool). cond b 1 0) (all_ended script))

-- ---- scripts and faults

whole : (text : List ℕ) (script : List Rewrite) → text ≡ script_text script → text ≡ script_text script ++ []
whole text script is = is ∙ sym (append-nil (script_text script))

pub one_script : OneScript
one_script text script other one two =
    (one_reading script other [] [] one.writable two.writable one.values two.values nothing nothing (sym (whole text script one.lines) ∙ whole text other two.lines)).0

bad_in_one_way : (text : List ℕ) (i j : ℕ) → IsBadLine text i → IsBadLine text j → i ≡ j
bad_in_one_way text i j a b =
    let same = one_reading a.before b.before a.rest b.rest a.writable b.writable a.values b.values a.bad b.bad (sym a.joined ∙ b.joined) in
    sym a.count ∙ ap (λ (script : List Rewrite). length script) same.0 ∙ b.count

determined : (text : List ℕ) → AreDetermined script_order (IsScriptCause text)
determined text Memory fault same a b = absurd a
determined text TooMany Memory same a b = absurd b
determined text TooMany TooMany same a b = refl
determined text TooMany (BadLine j) same a b = absurd (omega arith)
determined text (BadLine i) Memory same a b = absurd b
determined text (BadLine i) TooMany same a b = absurd (omega arith)
determined text (BadLine i) (BadLine j) same a b = ap BadLine (bad_in_one_way text i j a b)

pub one_script_fault : OneScriptFault
one_script_fault text fault other one two = first_is_one script_order (IsScriptCause text) (determined text) fault other one two

no_cause : (text : List ℕ) (script : List Rewrite) (fault : ScriptFault) → SpellsScript text script → ¬ IsScriptCause text fault
no_cause text script Memory spells cause = cause
no_cause text script TooMany spells cause = absurd (omega (arith, cause, ap line_count spells.lines, counted script spells.writable, spells.few))
no_cause text script (BadLine index) spells cause =
    let same = one_reading script cause.before [] cause.rest spells.writable cause.writable spells.values cause.values nothing cause.bad (sym (whole text script spells.lines) ∙ cause.joined) in
    absurd (omega (arith, cause.some, ap (λ (y : List ℕ). length y) same.1))

pub no_fault_of_script : NoFaultOfScript
no_fault_of_script text script fault spells is = no_cause text script fault spells is.holds

-- ---- the first cause

pub is_too_many : (text : List ℕ) → 256 < line_count text → IsScriptFault text TooMany
is_too_many text more = record { holds = more; none_before = none }
  where
    none : (other : ScriptFault) → script_order other < 1 → ¬ IsScriptCause text other
    none Memory less cause = cause
    none TooMany less cause = absurd (omega arith)
    none (BadLine index) less cause = absurd (omega arith)

pub is_bad : (text : List ℕ) (index : ℕ) → line_count text ≤ 256 → IsBadLine text index → IsScriptFault text (BadLine index)
is_bad text index few bad = record { holds = bad; none_before = none }
  where
    none : (other : ScriptFault) → script_order other < 2 → ¬ IsScriptCause text other
    none Memory less cause = cause
    none TooMany less cause = absurd (omega (arith, cause, few))
    none (BadLine i) less cause = absurd (omega arith)

pub is_script : (text : List ℕ) (script : List Rewrite) → line_count text ≤ 256 → AreRead text script [] → SpellsScript text script
is_script text script few read =
    let lines : text ≡ script_text script = read.joined ∙ append-nil (script_text script) in
    record { writable = read.writable; values = read.values; few = omega (arith, few, ap line_count lines, counted script read.writable); lines = lines }

-- ---- a text is a script or has a fault

abbrev IsAnswered : List ℕ → Type 0
IsAnswered text = ((script : List Rewrite) × AreRead text script []) ⊎ ((index : ℕ) × IsBadLine text index)

answered : (k : ℕ) (text : List ℕ) (script : List Rewrite) (bytes : List ℕ) → length bytes < k → AreRead text script bytes → IsAnswered text
answered zero text script bytes less read = absurd (omega arith)
answered (suc k) text script [] less read = inl (script, read)
answered (suc k) text script (c ∷ bytes) less read = go (λ script rest less read. answered k text script rest less read) (ended_read (c ∷ bytes)) refl
  where
    go : ((script : List Rewrite) (rest : List ℕ) → length rest < k → AreRead text script rest → IsAnswered text) → (o : Option (Rewrite × List ℕ)) → ended_read (c ∷ bytes) ≡ o → IsAnswered text
    go again None e = inr (length script, bad_line text script (c ∷ bytes) read (omega arith) (λ x is values. absurd (cc (e, is))))
    go again (Some (rewrite, rest)) e = elim (values_decided rewrite) [
      | inl values ↦ again (script ++ rewrite ∷ []) rest (omega (arith, less, shorter (c ∷ bytes) rewrite rest e)) (read_more text script (c ∷ bytes) rewrite rest read e values)
      | inr none ↦ inr (
        length script,
        bad_line text script (c ∷ bytes) read (omega arith) (λ x is values.
            let same : (rewrite, rest) ≡ x = some_is _ _ (sym e ∙ is) in
            none (subst (λ (y : Rewrite × List ℕ). HasValues y.0) (sym same) values)),
      )
    ]

pub has_script_or_fault : HasScriptOrFault
has_script_or_fault text = elim (cases_lt 256 (line_count text)) [
  | inl many ↦ inr (TooMany, is_too_many text many)
  | inr few ↦ elim (answered (suc (length text)) text [] text (omega arith) (none_read text)) [
    | inl read ↦ inl (read.0, is_script text read.0 few read.1)
    | inr bad ↦ inr (BadLine bad.0, is_bad text bad.0 few bad.1)
  ]
]
