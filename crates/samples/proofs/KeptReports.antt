-- The report on a sample: each hop is permitted and keeps the signature, and each message is accepted.
use Rattle.std.proofs.Common.{◌≡◌, ◌+◌, ◌*◌, ℕ, zero, suc, Bool, true, false, cond, Option, None, List, [], ◌∷◌, length, map, refl, sym, ap, subst, ◌∙◌, arith}
use Rattle.std.specs.Prelude.{count_by, unwrap_or}
use Rattle.std.specs.List.{All, AllZip, flat_map, range_with_len}
use Rattle.std.proofs.lemmas.List.Elements.{All-nil, All-cons}
use Rattle.std.proofs.lemmas.List.Sums.{sum_by-append}
use Rattle.std.proofs.lemmas.List.Folds.{flat_map-map}
use Rattle.msg_body.specs.Messages.{Message}
use Rattle.verdicts.specs.Contexts.{context_for}
use Rattle.hop_audit.specs.ChainValues.{Hop}
use Rattle.hop_audit.specs.Hops.{PlacedHop, places_from}
use Rattle.hop_audit.specs.Lines.{finds_fault}
use Rattle.hop_audit.specs.Report.{AreHopLines, AreMessageLines, IsReport, places_of}
use Rattle.hop_audit.specs.declared.line.AuditLine.{AuditLine}
use Rattle.hop_audit.specs.declared.line.AuditLine.TheVariants.{Hop as HopLine, Label as LabelLine}
use Rattle.hop_audit.specs.declared.line.Fate.TheVariants.{Kept}
use Rattle.hop_audit.proofs.OneReport.{one_report}
use Rattle.hop_audit.proofs.StepLists.{one_end}
use Rattle.samples.specs.Chains.{AreHopsFrom, sample_context}
use Rattle.samples.specs.Draws.{state_after}
use Rattle.samples.specs.Laws.{KeepsItsSignature, IsPermittedHop, kept_lines, kept_report, ok_line}
use Rattle.samples.specs.Requests.{sample_configuration, sample_params}
use Rattle.samples.specs.Scripts.{hop_draws, hop_steps, scripts_from}
use Rattle.samples.specs.Summary.{is_kept_line, is_ok_line, is_permitted_line}
use Rattle.samples.specs.declared.limits.TheConstants.{MOMENT}
use Rattle.samples.proofs.KeptHops.{HoldsSignature, fate_is, holds_after, label, lead, permitted, three}
use Rattle.samples.proofs.FirstHeld.{holds_first}
use Rattle.samples.proofs.StepCounts.{steps_of_hops}

-- ---- the lines of a message, and of a hop

message_lines : (m : Message) → HoldsSignature m → (index : ℕ) → AreMessageLines sample_configuration (sample_context m) index MOMENT (ok_line index ∷ [])
message_lines m is index = (label ∷ [], is.labels, ((refl, refl, is.accepted), tt))

module _ (state : ℕ) (m : Message) (is : HoldsSignature m) (index : ℕ) where
  abbrev placed : PlacedHop
  placed = record {
    index = index;
    was = MOMENT;
    before = m;
    script = hop_steps state;
    now = MOMENT;
    after = (three state m is).after;
  }

  permitted_hop : IsPermittedHop placed
  permitted_hop = permitted state m is

  hop_lines : AreHopLines sample_configuration None placed (kept_lines index)
  hop_lines = record {
    line = HopLine index true None;
    is = (refl, lead state m is);
    labels = label ∷ [];
    labels_are = is.labels;
    own = LabelLine index label true Kept ∷ [];
    each = (
      (
        refl,
        refl,
        record {
          params = sample_params;
          tag = is.tag;
          signature = is.signature;
          permission = permitted state m is;
          fate_is = fate_is state m is;
        },
      ),
      tt,
    );
    after = ok_line index ∷ [];
    after_are = message_lines (three state m is).after (holds_after state m is) index;
    joined = refl;
  }

-- ---- all hops

-- there are so many, each is permitted, and these are their lines
record AreKept (count index : ℕ) (m : Message) (hops : List Hop) : Type 0 where
  size : length hops ≡ count
  each : All IsPermittedHop (places_from index MOMENT m hops)
  lines : AllZip (AreHopLines sample_configuration None) (places_from index MOMENT m hops) (map kept_lines (range_with_len (index + 1) count))

all_hops : (count state index : ℕ) (m : Message) → HoldsSignature m → (hops : List Hop) → AreHopsFrom m (scripts_from state count) hops → AreKept count index m hops
all_hops zero state index m is [] are = record { size = refl; each = All-nil IsPermittedHop; lines = tt }
all_hops zero state index m is (hop ∷ hops) are = absurd are
all_hops (suc count) state index m is [] are = absurd are
all_hops (suc count) state index m is (hop ∷ hops) are =
    let to = three state m is in
    let end : hop.message ≡ to.after = one_end (sample_context m) (hop_steps state) hop.message to.after are.2 (lead state m is) in
    let moment : unwrap_or hop.moment MOMENT ≡ MOMENT = ap (λ (o : Option ℕ). unwrap_or o MOMENT) are.0 in
    let places : places_from index MOMENT m (hop ∷ hops) ≡ placed state m is (index + 1) ∷ places_from (index + 1) MOMENT to.after hops =
    λ i. record { index = index + 1; was = MOMENT; before = m; script = are.1 i; now = moment i; after = end i } ∷ places_from (index + 1) (moment i) (end i) hops in
    let rest = all_hops count (state_after hop_draws state) (index + 1) to.after (holds_after state m is) hops
    (subst (λ (n : Message). AreHopsFrom n (scripts_from (state_after hop_draws state) count) hops) end are.3) in
    record {
      size = ap (λ (n : ℕ). suc n) rest.size;
      each = subst (λ (ps : List PlacedHop). All IsPermittedHop ps) (sym places)
          (All-cons IsPermittedHop (placed state m is (index + 1)) (places_from (index + 1) MOMENT to.after hops) (permitted_hop state m is (index + 1)) rest.each);
      lines = subst (λ (ps : List PlacedHop). AllZip (AreHopLines sample_configuration None) ps (map kept_lines (range_with_len (index + 1) (suc count)))) (sym places)
          (hop_lines state m is (index + 1), rest.lines);
    }

-- ---- what is counted

module _ (p : AuditLine → Bool) (one : (index : ℕ) → count_by p (kept_lines index) ≡ 1) where
  counted : (count index : ℕ) → count_by p (flat_map kept_lines (range_with_len index count)) ≡ count
  counted zero index = refl
  counted (suc count) index =
      let rest = flat_map kept_lines (range_with_len (index + 1) count) in
      omega (arith, one index, counted count (index + 1), sum_by-append (λ (line : AuditLine). cond (p line) 1 0) (kept_lines index) rest)

-- the message before the hops is `ok` too
one_more : (rest : List AuditLine) → count_by is_ok_line (ok_line 0 ∷ rest) ≡ count_by is_ok_line rest + 1
one_more rest = omega (arith, sum_by-append (λ (line : AuditLine). cond (is_ok_line line) 1 0) (ok_line 0 ∷ []) rest)

none_counts : (count index : ℕ) → finds_fault (flat_map kept_lines (range_with_len index count)) ≡ false
none_counts zero index = refl
none_counts (suc count) index = none_counts count (index + 1)

-- ---- the summary

pub keeps_its_signature : KeepsItsSignature
keeps_its_signature seed count chain lines summary is report numbers =
    let held = holds_first seed is.unsigned chain.message is.unsigned_is is.signed in
    let hops = all_hops count seed 0 chain.message held chain.hops is.hops in
    let parts = map kept_lines (range_with_len 1 count) in
    let own : IsReport sample_configuration chain (kept_report count) = record {
      first = ok_line 0 ∷ [];
      first_are = subst (λ (related : Option Message). AreMessageLines sample_configuration (context_for sample_configuration chain.message related) 0 chain.moment (ok_line 0 ∷ [])) (sym is.related)
          (subst (λ (n : ℕ). AreMessageLines sample_configuration (sample_context chain.message) 0 n (ok_line 0 ∷ [])) (sym is.moment) (message_lines chain.message held 0));
      parts = parts;
      each = subst (λ (related : Option Message). AllZip (AreHopLines sample_configuration related) (places_of chain) parts) (sym is.related)
          (subst (λ (n : ℕ). AllZip (AreHopLines sample_configuration None) (places_from 0 n chain.message chain.hops) parts) (sym is.moment) hops.lines);
      joined = ap (λ (more : List AuditLine). ok_line 0 ∷ more) (sym (flat_map-map (λ (part : List AuditLine). part) kept_lines (range_with_len 1 count)));
    } in
    let same = one_report sample_configuration chain lines (kept_report count) report own in
    let rest = flat_map kept_lines (range_with_len 1 count) in
    let all : count_by is_ok_line (kept_report count) ≡ count_by is_ok_line rest + 1 = one_more rest in
    record {
      size = hops.size;
      each = subst (λ (n : ℕ). All IsPermittedHop (places_from 0 n chain.message chain.hops)) (sym is.moment) hops.each;
      lines_are = same;
      hops = numbers.hops ∙ hops.size;
      steps = numbers.steps ∙ (steps_of_hops count seed chain.message chain.hops is.hops ∙ ap (λ (n : ℕ). 3 * n) hops.size);
      permitted = numbers.permitted ∙ (ap (count_by is_permitted_line) same ∙ counted is_permitted_line (λ index. refl) count 1);
      kept = numbers.kept ∙ (ap (count_by is_kept_line) same ∙ counted is_kept_line (λ index. refl) count 1);
      ok = omega (arith, numbers.ok, ap (count_by is_ok_line) same, all, counted is_ok_line (λ index. refl) count 1);
      faultless = numbers.faulty ∙ (ap finds_fault same ∙ none_counts count 1);
    }
