-- A signature permits a step or not: what each row asks holds or not.
use Rattle.std.proofs.Common.{◌≡◌, ◌⊎◌, ◌↔◌, ◌+◌, ◌&&◌, ◌==◌, ℕ, Bool, true, false, not, IsTrue, IsFalse, Option, Some, None, List, [], ◌∷◌, ◌++◌, length, take, drop, refl, sym, ap, ◌∙◌, inl, inr, arith}
use Rattle.std.specs.Prelude.{IsSomeAnd}
use Rattle.std.specs.List.{slice_get}
use Rattle.std.specs.Str.{str_to_ascii_lowercase}
use Rattle.std.proofs.lemmas.Bool.{and_parts, and_from, eqb-true, false≢true}
use Rattle.std.proofs.lemmas.Bool.Decides.{leb_tells}
use Rattle.byte_grammar.specs.Language.{starts_in}
use Rattle.msg_head.specs.declared.error.Side.{Side}
use Rattle.msg_head.specs.Lines.{FieldLine}
use Rattle.msg_head.specs.Values.{has_bytes, is_there, value}
use Rattle.msg_body.specs.Views.{lines_on}
use Rattle.component_ids.specs.Table.{is_listed}
use Rattle.component_ids.specs.declared.params.SigParams.{SigParams}
use Rattle.msg_body.specs.SameFields.{name_of}
use Rattle.msg_body.specs.Spacing.{ends_in, is_solid}
use Rattle.rewrite_script.specs.declared.rewrite.LineRewrite.TheVariants.{Pad, Fold, Unfold, Join, Split, Move, Case, Add, Remove}
use Rattle.line_rewrites.specs.Covered.{covers_field, covers_lines}
use Rattle.line_rewrites.specs.Decisions.{PermitsLinesOrNot}
use Rattle.line_rewrites.specs.LineLists.{PassesOtherNames}
use Rattle.line_rewrites.specs.Permitted.{HasValue, MayChangeNumber, MayChangeValue, counted_names, kept_names}
use Rattle.line_rewrites.specs.RawValues.{IsBeforeLoneSpace, IsLoneSpace}
use Rattle.line_rewrites.specs.tools.Computed.{is_space_before_solid, lines_between}
use Rattle.line_rewrites.specs.tools.Permitted.{OfLineOn}
use Rattle.line_rewrites.proofs.Cores.{cut_here, left_at, lone_after, lone_none, offset_is, taken_at}
use Rattle.line_rewrites.proofs.Passing.{passes_backward, passes_forward, told_of}

-- ---- what holds or not

abbrev HoldsOrNot : Type 0 → Type 0
HoldsOrNot P = P ⊎ (¬ P)

by_test : (P : Type 0) (b : Bool) → IsTrue b ↔ P → HoldsOrNot P
by_test P true same = inl (same.0 refl)
by_test P false same = inr (λ p. false≢true (same.1 p))

true_or_not : (b : Bool) → HoldsOrNot (IsTrue b)
true_or_not true = inl refl
true_or_not false = inr (λ e. false≢true e)

both_or_not : (P Q : Type 0) → HoldsOrNot P → HoldsOrNot Q → HoldsOrNot (P × Q)
both_or_not P Q (inl p) (inl q) = inl (p, q)
both_or_not P Q (inl p) (inr never) = inr (λ both. never both.1)
both_or_not P Q (inr never) q = inr (λ both. never both.0)

-- of the line of the index
on_line : (lines : List FieldLine) (index : ℕ) (Holds : FieldLine → Type 0) → ((line : FieldLine) → HoldsOrNot (Holds line)) → HoldsOrNot (OfLineOn lines index Holds)
on_line lines index Holds each = by (slice_get lines index)
  where
    by : (o : Option FieldLine) → HoldsOrNot (IsSomeAnd o Holds)
    by None = inr (λ none. none)
    by (Some line) = each line

-- ---- names

neither : (a b : Bool) (P : Type 0) → (IsFalse a → IsFalse b → P) → (P → IsFalse a) → (P → IsFalse b) → HoldsOrNot P
neither true b P makes first second = inr (λ p. false≢true (sym (first p)))
neither false true P makes first second = inr (λ p. false≢true (sym (second p)))
neither false false P makes first second = inl (makes refl refl)

number_or_not : (side : Side) (name : List ℕ) (params : SigParams) → HoldsOrNot (MayChangeNumber side name params)
number_or_not side name params =
    neither (is_listed counted_names name) (covers_lines side name params) (MayChangeNumber side name params)
    (λ counted covered. record { counted = counted; covered = covered }) (λ may. may.counted) (λ may. may.covered)

value_or_not : (side : Side) (name : List ℕ) (params : SigParams) → HoldsOrNot (MayChangeValue side name params)
value_or_not side name params =
    neither (is_listed kept_names name) (covers_field side name params) (MayChangeValue side name params)
    (λ kept covered. record { kept = kept; covered = covered }) (λ may. may.kept) (λ may. may.covered)

-- ---- spaces alone

lone_or_not : (offset : ℕ) (raw : List ℕ) → HoldsOrNot (IsLoneSpace offset raw)
lone_or_not offset raw = by_test (IsLoneSpace offset raw) (ends_in is_solid (take offset raw) && is_space_before_solid (drop offset raw))
    (λ passes. is_lone (drop offset raw) refl (and_parts (ends_in is_solid (take offset raw)) (is_space_before_solid (drop offset raw)) passes), passes)
  where
    is_lone : (rest : List ℕ) → drop offset raw ≡ rest → (ends_in is_solid (take offset raw) ≡ true) × (is_space_before_solid rest ≡ true) → IsLoneSpace offset raw
    is_lone [] here both = absurd (false≢true both.1)
    is_lone (c ∷ after) here both =
        let parts = and_parts (c == 32) (starts_in is_solid after) both.1 in
        record {
          before = take offset raw;
          after = after;
          joined = cut_here raw offset (c ∷ after) here ∙ ap (λ d. take offset raw ++ d ∷ after) (eqb-true c 32 parts.0);
          there = offset_is raw offset c after here;
          ends = both.0;
          begins = parts.1;
        }

    passes : IsLoneSpace offset raw → (ends_in is_solid (take offset raw) && is_space_before_solid (drop offset raw)) ≡ true
    passes is =
        let first = taken_at raw is.before (32 ∷ is.after) offset is.joined is.there in
        let rest = left_at raw is.before (32 ∷ is.after) offset is.joined is.there in
        and_from (ends_in is_solid (take offset raw)) (is_space_before_solid (drop offset raw)) (ap (ends_in is_solid) first ∙ is.ends) (ap is_space_before_solid rest ∙ is.begins)

before_lone_or_not : (offset : ℕ) (raw : List ℕ) → HoldsOrNot (IsBeforeLoneSpace offset raw)
before_lone_or_not offset raw = by (drop offset raw) refl
  where
    by : (rest : List ℕ) → drop offset raw ≡ rest → HoldsOrNot (IsBeforeLoneSpace offset raw)
    by [] none = inr (lone_none raw offset none)
    by (c ∷ later) here =
        let b = ends_in is_solid (take offset raw) && is_space_before_solid later in
        by_test (IsBeforeLoneSpace offset raw) b (lone_after raw (take offset raw) later offset c b (cut_here raw offset (c ∷ later) here) (offset_is raw offset c later here) refl)

-- ---- lines that are passed

passes_or_not : (lines : List FieldLine) (index to : ℕ) → HoldsOrNot (PassesOtherNames index to lines)
passes_or_not lines index to = by (slice_get lines index) refl
  where
    by : (o : Option FieldLine) → slice_get lines index ≡ o → HoldsOrNot (PassesOtherNames index to lines)
    by None none = inr (λ is. let e = sym none ∙ (told_of index to lines is).1.there in cc)
    by (Some line) there = elim (leb_tells (length lines) to) [
      | inl past ↦ inr (λ is. let low = (told_of index to lines is).1.low in omega (arith, low, past.1))
      | inr low ↦ elim (leb_tells index to) [
        | inl le ↦
            let b = is_there (lines_between (index + 1) (to + 1) lines) (name_of line) in
            by_test (PassesOtherNames index to lines) (not b) (passes_forward lines index to line b there low.1 le.1 refl)
        | inr less ↦
            let b = is_there (lines_between to index lines) (name_of line) in
            by_test (PassesOtherNames index to lines) (not b) (passes_backward lines index to line b there less.1 refl)
      ]
    ]

-- ---- all kinds

pub permits_or_not : PermitsLinesOrNot
permits_or_not context (Pad side index before after) label params = inl tt
permits_or_not context (Fold side index offset blanks) label params =
    on_line (lines_on side context.message) index (λ line. IsLoneSpace offset line.raw) (λ line. lone_or_not offset line.raw)
permits_or_not context (Unfold side index offset) label params = inl tt
permits_or_not context (Join side index later) label params =
    let lines = lines_on side context.message in
    both_or_not (OfLineOn lines index (λ line. MayChangeNumber side (name_of line) params)) (OfLineOn lines later HasValue)
    (on_line lines index (λ line. MayChangeNumber side (name_of line) params) (λ line. number_or_not side (name_of line) params))
    (on_line lines later HasValue (λ line. true_or_not (has_bytes (value line.raw))))
permits_or_not context (Split side index offset) label params =
    on_line (lines_on side context.message) index (λ line. MayChangeNumber side (name_of line) params × IsBeforeLoneSpace offset line.raw)
    (λ line. both_or_not (MayChangeNumber side (name_of line) params) (IsBeforeLoneSpace offset line.raw) (number_or_not side (name_of line) params) (before_lone_or_not offset line.raw))
permits_or_not context (Move side index to) label params = passes_or_not (lines_on side context.message) index to
permits_or_not context (Case side index name) label params = inl tt
permits_or_not context (Add side index name text) label params = value_or_not side (str_to_ascii_lowercase name) params
permits_or_not context (Remove side index) label params =
    on_line (lines_on side context.message) index (λ line. MayChangeValue side (name_of line) params) (λ line. value_or_not side (name_of line) params)
