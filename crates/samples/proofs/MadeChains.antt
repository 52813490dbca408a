-- The chain of a sample, as it is recorded, and its audit.
use Rattle.std.proofs.Common.{◌≡◌, false, ◌≤◌, ◌+◌, ◌-◌, ◌*◌, ℕ, zero, suc, Some, None, List, [], ◌∷◌, length, map, refl, sym, ap, subst, ◌∙◌, arith}
use Rattle.std.specs.Prelude.{IsTrue, count_by, slice_get}
use Rattle.std.specs.List.{All, AllZip, flat_map}
use Rattle.std.proofs.lemmas.List.{length-map}
use Rattle.std.proofs.lemmas.List.Elements.{All-nil, All-cons}
use Rattle.std.proofs.lemmas.Option.{slice_get-get_or}
use Rattle.std.proofs.lemmas.Slice.Zip.{AllZip-long}
use Rattle.framing.specs.Framings.{is_request}
use Rattle.msg_body.specs.Messages.{Message, Spells, message_text}
use Rattle.component_values.specs.Context.{MessageContext}
use Rattle.settings.specs.Configuration.{Configuration}
use Rattle.rewrite_script.specs.Scripts.{script_text}
use Rattle.rewrite_script.specs.declared.rewrite.Rewrite.{Rewrite}
use Rattle.rewrites.specs.Steps.{Step, Steps}
use Rattle.rewrites.proofs.StepKinds.{gives_kind}
use Rattle.byte_grammar.specs.Numbers.{IsNumber}
use Rattle.recording.specs.Items.{Body, IsShort, Kind, PlacedItem, moment, stored, message, script, number_of}
use Rattle.recording.specs.Recordings.{AreItems, bodies}
use Rattle.recording.specs.declared.item.Role.TheVariants.{Request}
use Rattle.recording.specs.declared.limits.TheConstants.{MAX_ITEM_BYTES}
use Rattle.signing.specs.Signed.{IsSignedMessage}
use Rattle.signing.specs.declared.spec.SignSpec.{SignSpec}
use Rattle.recording.specs.Chains.{RecordedChain, requests, chain_items, hop_items}
use Rattle.hop_audit.specs.ChainFaults.{IsChainFault}
use Rattle.hop_audit.specs.ChainValues.{Chain, Hop, IsChainOf, IsHop, IsScriptItem, one_request}
use Rattle.hop_audit.specs.Lines.{finds_fault}
use Rattle.hop_audit.specs.Report.{AreItemsOf, IsAudit, IsReport}
use Rattle.hop_audit.specs.declared.fault.ChainFault.{ChainFault}
use Rattle.recording.specs.declared.limits.TheConstants.{MAX_HOPS}
use Rattle.hop_audit.specs.declared.line.AuditLine.{AuditLine}
use Rattle.hop_audit.proofs.FirstFaults.{no_fault_where_audited}
use Rattle.recording.proofs.OneChain.{one_chain}
use Rattle.hop_audit.proofs.OneReport.{one_chain_value}
use Rattle.hop_audit.proofs.SomeReport.{some_report}
use Rattle.samples.specs.Chains.{AreHopsFrom, sample_context}
use Rattle.samples.specs.Draws.{state_after}
use Rattle.samples.specs.Requests.{sample_configuration, sample_spec}
use Rattle.samples.specs.Scripts.{hop_draws, hop_steps, scripts_from}
use Rattle.samples.specs.Summary.{IsSample, IsSummaryOf, is_kept_line, is_ok_line, is_permitted_line, last_from}
use Rattle.samples.specs.declared.hop.MadeHop.{MadeHop}
use Rattle.samples.specs.declared.limits.TheConstants.{MOMENT}
use Rattle.samples.specs.declared.summary.Summary.{Summary}
use Rattle.samples.specs.tools.Made.{AreMadeFrom, IsMade, IsTextOf, SpellsSample, items_made, made_items, recorded_hop}
use Rattle.samples.proofs.HopSteps.{hop_short, hop_spelled}
use Rattle.samples.proofs.StepCounts.{steps_of_hops}
use Rattle.samples.proofs.TakenSteps.{within_limit}

-- ---- as it is recorded

abbrev pub recorded_of : List ℕ → List MadeHop → RecordedChain
recorded_of first made = record { moment = MOMENT; subject = requests; first = first; hops = map recorded_hop made }

hops_are : (made : List MadeHop) → flat_map made_items made ≡ flat_map (hop_items requests) (map recorded_hop made)
hops_are [] = refl
hops_are (hop ∷ made) = ap (λ (rest : List Body). stored script hop.script ∷ stored (message Request) hop.message ∷ rest) (hops_are made)

pub items_are : (first : List ℕ) (made : List MadeHop) → items_made first made ≡ chain_items (recorded_of first made)
items_are first made = ap (λ (rest : List Body). moment MOMENT ∷ stored (message Request) first ∷ rest) (hops_are made)

-- ---- its messages are requests

kind_over : (steps : List Rewrite) (m after : Message) → IsTrue (is_request m.head.start) → Steps Step (sample_context m) steps after → IsTrue (is_request after.head.start)
kind_over [] m after kind lead = subst (λ (n : Message). IsTrue (is_request n.head.start)) lead kind
kind_over (step ∷ steps) m after kind lead = kind_over steps lead.0 after ((gives_kind (sample_context m) step lead.0 lead.1).1 ∙ kind) lead.2

-- a signed request is one
kind_signed : (context : MessageContext) (spec : SignSpec) (written : Message) → IsSignedMessage context spec written → IsTrue (is_request context.message.head.start)
    → IsTrue (is_request written.head.start)
kind_signed context spec written signed kind = subst (λ (m : Message). IsTrue (is_request m.head.start)) (sym signed.written_is) kind

-- ---- what its items say

script_item : (state : ℕ) (own : List Rewrite) (text : List ℕ) → own ≡ hop_steps state → text ≡ script_text own → IsScriptItem text own
script_item state own text is same =
    let spelled = hop_spelled state in
    let here : IsScriptItem (script_text (hop_steps state)) (hop_steps state) = (hop_short state, spelled) in
    subst (λ (list : List Rewrite). IsScriptItem text list) (sym is) (subst (λ (t : List ℕ). IsScriptItem t (hop_steps state)) (sym (same ∙ ap script_text is)) here)

hop_values : (count state : ℕ) (m : Message) (hops : List Hop) (made : List MadeHop) → IsTrue (is_request m.head.start) → AreHopsFrom m (scripts_from state count) hops → AllZip IsTextOf hops made
    → AllZip (IsHop one_request) (map recorded_hop made) hops × (length made ≡ count)
hop_values zero state m [] [] kind are texts = (tt, refl)
hop_values zero state m [] (own ∷ made) kind are texts = absurd texts
hop_values zero state m (hop ∷ hops) made kind are texts = absurd are
hop_values (suc count) state m [] made kind are texts = absurd are
hop_values (suc count) state m (hop ∷ hops) [] kind are texts = absurd texts
hop_values (suc count) state m (hop ∷ hops) (own ∷ made) kind are texts =
    let next = kind_over (hop_steps state) m hop.message kind are.2 in
    let rest = hop_values count (state_after hop_draws state) hop.message hops made next are.3 texts.1 in (
      (
        record {
          moment = are.0;
          script = script_item state hop.script own.script are.1 texts.0.script;
          message = record { expected = next; spells = texts.0.message };
        },
        rest.0,
      ),
      ap suc rest.1,
    )

-- ---- within the limits of a recording

module _ (P : Body → Type 0) (here : P (moment MOMENT)) (each : (kind : Kind) (text : List ℕ) → length text ≤ MAX_ITEM_BYTES → P (stored kind text)) where
  all_hops : (made : List MadeHop) (hops : List Hop) → AllZip (IsHop one_request) (map recorded_hop made) hops → All P (flat_map made_items made)
  all_hops [] hops are = All-nil P
  all_hops (own ∷ made) [] are = absurd are
  all_hops (own ∷ made) (hop ∷ hops) are =
      let short = are.0.script.0 in
      let within = within_limit own.message hop.message are.0.message.spells in
      All-cons P (stored script own.script) (stored (message Request) own.message ∷ flat_map made_items made) (each script own.script (omega arith))
      (All-cons P (stored (message Request) own.message) (flat_map made_items made) (each (message Request) own.message within) (all_hops made hops are.1))

  all_items : (first : List ℕ) (made : List MadeHop) (hops : List Hop) → length first ≤ MAX_ITEM_BYTES → AllZip (IsHop one_request) (map recorded_hop made) hops → All P (items_made first made)
  all_items first made hops within are =
      All-cons P (moment MOMENT) (stored (message Request) first ∷ flat_map made_items made) here
      (All-cons P (stored (message Request) first) (flat_map made_items made) (each (message Request) first within) (all_hops made hops are))

number_within : (kind : Kind) (text : List ℕ) → length text ≤ MAX_ITEM_BYTES → IsNumber (number_of (stored kind text))
number_within kind text within = omega arith

-- ---- its last message

last_at : (n : ℕ) (m : Message) (hops : List Hop) (made : List MadeHop) (own : MadeHop) → AllZip IsTextOf hops made → n + 1 ≡ length made → slice_get made n ≡ Some own
    → own.message ≡ message_text (last_from m hops)
last_at n m [] [] own texts long there = absurd (omega arith)
last_at n m [] (first ∷ made) own texts long there = absurd texts
last_at n m (hop ∷ hops) [] own texts long there = absurd texts
last_at zero m (hop ∷ []) (first ∷ []) own texts long there =
    let same : own ≡ first = cc in ap (λ (h : MadeHop). h.message) same ∙ texts.0.message.text
last_at zero m (hop ∷ []) (first ∷ second ∷ made) own texts long there = absurd texts.1
last_at zero m (hop ∷ next ∷ hops) (first ∷ []) own texts long there = absurd texts.1
last_at zero m (hop ∷ next ∷ hops) (first ∷ second ∷ made) own texts long there = absurd (omega arith)
last_at (suc n) m (hop ∷ hops) (first ∷ made) own texts long there = last_at n hop.message hops made own texts.1 (omega arith) there

-- of the last hop, or of the first message where there is no hop
pub last_some : (m : Message) (hops : List Hop) (made : List MadeHop) (own : MadeHop) → AllZip IsTextOf hops made → slice_get made (length made - 1) ≡ Some own
    → own.message ≡ message_text (last_from m hops)
last_some m hops [] own texts there = absurd (cc there)
last_some m hops (first ∷ made) own texts there = last_at (length (first ∷ made) - 1) m hops (first ∷ made) own texts (omega arith) there

pub last_none : (m : Message) (text : List ℕ) (hops : List Hop) (made : List MadeHop) → Spells false m text → AllZip IsTextOf hops made → slice_get made (length made - 1) ≡ None
    → text ≡ message_text (last_from m hops)
last_none m text [] [] spells texts none = spells.text
last_none m text (hop ∷ hops) [] spells texts none = absurd texts
last_none m text [] (own ∷ made) spells texts none = absurd texts
last_none m text (hop ∷ hops) (own ∷ made) spells texts none =
    let there = slice_get-get_or (own ∷ made) (length (own ∷ made) - 1) own (omega arith) in
    absurd (cc (none, there))

-- ---- the chain

-- hops that are made, in a slice
pub is_made : (seed count : ℕ) (first : List ℕ) (own : SpellsSample seed first) (hops slice : List MadeHop) → slice ≡ hops → AreMadeFrom own.signed (scripts_from seed count) hops
    → IsMade seed count first slice
is_made seed count first own hops slice same are =
    record { own = own; are = subst (λ (made : List MadeHop). AreMadeFrom own.signed (scripts_from seed count) made) (sym same) are }

module _ (seed count : ℕ) (first : List ℕ) (own : SpellsSample seed first) (made : List MadeHop) (are : AreMadeFrom own.signed (scripts_from seed count) made) where
  abbrev pub chain_of : Chain
  chain_of = record { moment = MOMENT; related = None; message = own.signed; hops = are.hops }

  kind_first : IsTrue (is_request own.signed.head.start)
  kind_first = kind_signed (sample_context own.unsigned) sample_spec own.signed own.signed_is own.unsigned_is.expected

  values_are : AllZip (IsHop one_request) (map recorded_hop made) are.hops × (length made ≡ count)
  values_are = hop_values count seed own.signed are.hops made kind_first are.are are.texts

  pub values : IsChainOf (recorded_of first made) chain_of
  values = record { moment = refl; related = refl; message = record { expected = kind_first; spells = own.spells }; hops = values_are.0 }

  pub made_count : length made ≡ count
  made_count = values_are.1

  module _ (items : List PlacedItem) (say : bodies items ≡ items_made first made) where
    pub items_short : All IsShort (bodies items)
    items_short = subst (All IsShort) (sym say) (all_items IsShort tt (λ kind text within. within) first made are.hops (within_limit first own.signed own.spells) values_are.0)

    pub items_allowed : AreItems (bodies items)
    items_allowed = subst AreItems (sym say) (record {
      begin = tt;
      numbers = all_items (λ item. IsNumber (number_of item)) (omega arith) number_within first made are.hops (within_limit first own.signed own.spells) values_are.0;
    })

    module _ (few : count ≤ MAX_HOPS) where
      pub items_of_chain : AreItemsOf items chain_of
      items_of_chain = record {
        recorded = recorded_of first made;
        is = say ∙ items_are first made;
        few = let long = values_are.1 in omega (arith, length-map made recorded_hop);
        values = values;
      }

      -- the report that is answered is that of the chain
      pub report_is : (conf : Configuration) (lines : List AuditLine) → IsAudit conf items lines → IsReport conf chain_of lines
      report_is conf lines audit =
          let recorded = one_chain items audit.1.recorded (recorded_of first made) audit.1.is (say ∙ items_are first made) in
          let other = subst (λ (r : RecordedChain). IsChainOf r audit.0) recorded audit.1.values in
          let same = one_chain_value (recorded_of first made) audit.0 chain_of other values in
          subst (λ (c : Chain). IsReport conf c lines) same audit.2

      -- its items have no fault
      pub no_fault : (conf : Configuration) (fault : ChainFault) → ¬ IsChainFault items fault
      no_fault conf fault =
          let report = some_report conf (recorded_of first made) chain_of values in
          no_fault_where_audited conf items report.0 fault (chain_of, items_of_chain, report.1)

  -- the numbers are those of its report
  pub summary_fits : (lines : List AuditLine) (summary : Summary) → summary.hops ≡ length made → summary.steps ≡ 3 * length made → summary.permitted ≡ count_by is_permitted_line lines
      → summary.kept ≡ count_by is_kept_line lines → summary.ok ≡ count_by is_ok_line lines → summary.last ≡ length (message_text (last_from own.signed are.hops))
      → summary.finds_fault ≡ finds_fault lines → IsSummaryOf chain_of lines summary
  summary_fits lines summary hops steps permitted kept ok last faulty =
      let same = AllZip-long IsTextOf are.hops made are.texts in record {
        hops = hops ∙ same;
        steps = steps ∙ (ap (λ (n : ℕ). 3 * n) same ∙ sym (steps_of_hops count seed own.signed are.hops are.are));
        permitted = permitted;
        kept = kept;
        ok = ok;
        last = last;
        faulty = faulty;
      }

  -- the summary of its report
  pub sample_is : (lines : List AuditLine) (summary : Summary) → IsReport sample_configuration chain_of lines → IsSummaryOf chain_of lines summary → IsSample seed count summary
  sample_is lines summary report is = record {
    chain = chain_of;
    is = record {
      moment = refl;
      related = refl;
      unsigned = own.unsigned;
      unsigned_is = own.unsigned_is;
      signed = own.signed_is;
      hops = are.are;
    };
    lines = lines;
    report = report;
    summary_is = is;
  }
