-- The report on a chain, hop by hop: the lines so far, and what comes of them with those of the other hops.
use Rattle.std.proofs.Common.{◌≡◌, ◌⊎◌, ◌+◌, ◌<◌, ◌≤◌, ℕ, List, [], ◌∷◌, ◌++◌, length, map, get_or, drop, Option, Some, None, Ok, Err, refl, sym, ap, subst, ◌∙◌, append_assoc, inl, inr, arith}
use Rattle.std.specs.Prelude.{IsTrue, unwrap_or, slice_get}
use Rattle.std.specs.List.{AllZip, flat_map}
use Rattle.std.proofs.lemmas.List.{drop_more, drop_all, append-nil, length-map}
use Rattle.std.proofs.lemmas.Option.{get_or_from_slice_get, slice_get-get_or, slice_get-map, slice_get_within}
use Rattle.msg_body.specs.WholeTexts.{IsMessageFault, IsWhole}
use Rattle.msg_body.specs.declared.whole.Reading.{Reading}
use Rattle.recording.specs.Items.{PlacedItem}
use Rattle.component_values.specs.Context.{MessageContext}
use Rattle.rewrite_script.specs.declared.rewrite.Rewrite.{Rewrite}
use Rattle.settings.specs.ConfMeaning.{meaning}
use Rattle.hop_audit.specs.declared.chain_audit.ChainAudit.{ChainAudit}
use Rattle.hop_audit.specs.declared.fault.ChainFault.{ChainFault}
use Rattle.hop_audit.specs.declared.fault.ChainFault.TheVariants.{Memory, Order, TooManyHops, Message as NoMessage, Script as NoScript, ScriptTooLong}
use Rattle.hop_audit.specs.declared.line.AuditLine.{AuditLine}
use Rattle.recording.specs.declared.chain.RecordedChain.{RecordedChain as HeldChain}
use Rattle.recording.specs.declared.chain.RecordedHop.{RecordedHop as HeldHop}
use Rattle.hop_audit.specs.ChainFaults.{IsChainFault}
use Rattle.recording.specs.Chains.{RecordedHop, related_items, role_of}
use Rattle.hop_audit.specs.ChainValues.{AnswersRequest, Chain, Hop, IsChainOf, IsHop, IsScriptItem, reading_of}
use Rattle.hop_audit.specs.Hops.{PlacedHop, places_from}
use Rattle.hop_audit.specs.Report.{AreHopLines, AreMessageLines, IsReport}
use Rattle.hop_audit.specs.Lines.{are_lines_in_range}
use Rattle.hop_audit.specs.tools.Judged.{AddsNext, IsStageIn, SaysFirst, SaysNext, SaysReport, context_of_audit, related_of}
use Rattle.hop_audit.specs.tools.Read.{SaysMessage, SaysScript}
use Rattle.hop_audit.specs.tools.Stages.{StageState}
use Rattle.recording.specs.RecordedChains.{IsHeldChain, chain_meant, hop_meant, items_up_to, subject_meant}
use Rattle.hop_audit.specs.tools.Written.{AddsLinesOf}
use Rattle.hop_audit.proofs.FirstFaults.{IsClean, clean_first, clean_hops, clean_hop, fault_of_first, fault_of_script, long_script, fault_of_message}
use Rattle.hop_audit.proofs.ReportLines.{joined_in_range, hop_in_range}

-- the lines are the report on what the recorded chain says
pub record IsReported (audit : ChainAudit) (chain : HeldChain) (lines : List AuditLine) : Type 0 where
  pub values : Chain
  pub are : IsChainOf (chain_meant chain) values
  pub report : IsReport (meaning audit.conf.now) values lines

-- the audit reads the messages of the chain as they are read
pub record IsAuditOf (audit : ChainAudit) (chain : HeldChain) : Type 0 where
  pub related : AnswersRequest (subject_meant chain.subject) (related_of audit)
  pub reading : audit.reading ≡ reading_of (related_of audit) (role_of (subject_meant chain.subject))

-- so many hops are reported, and the last message is this one
pub record IsAuditedSoFar (audit : ChainAudit) (chain : HeldChain) (count : ℕ) (stage : StageState) (lines : List AuditLine) : Type 0 where
  pub stage_in : IsStageIn audit stage
  pub in_range : IsTrue (are_lines_in_range lines)
  pub clean : (items : List PlacedItem) → IsHeldChain items chain → IsClean items (chain_meant chain) (length (items_up_to (chain_meant chain) count))
  pub others : (hops : List Hop) (parts : List (List AuditLine)) → AllZip (IsHop audit.reading) (drop count (map hop_meant chain.hops)) hops
      → AllZip (AreHopLines (meaning audit.conf.now) (related_of audit)) (places_from count stage.moment stage.context.message hops) parts
      → IsReported audit chain (lines ++ flat_map (λ part. part) parts)

-- the default of a list of hops
abbrev pub no_hop : HeldHop
no_hop = record { moment = None; item = 0; script = record { ref_ptr = (0, 0); now = [] }; message = record { ref_ptr = (0, 0); now = [] } }

-- the hop at an index
pub hop_at : (hops own : List HeldHop) (count : ℕ) (none : HeldHop) → own ≡ hops → count < length own → slice_get hops count ≡ Some (get_or own count none)
hop_at hops own count none same lt = ap (λ (hs : List HeldHop). slice_get hs count) (sym same) ∙ slice_get-get_or own count none lt

first_place : {items : List PlacedItem} {chain : HeldChain} → IsHeldChain items chain → chain.item ≡ 1 + length (related_items (subject_meant chain.subject))
first_place held = let e = held.first_is in omega (arith, e)

module _ (audit : ChainAudit) (chain : HeldChain) (of : IsAuditOf audit chain) where
  -- what is read so is read as the chain's messages are
  as_chain : (P : Reading → Type 0) → P audit.reading → P (reading_of (related_of audit) (role_of (subject_meant chain.subject)))
  as_chain P is = subst P of.reading is

  -- ---- message 0

  pub first_reached : (stage : StageState) (lines : List AuditLine) → SaysFirst audit chain [] lines (Ok stage) → IsAuditedSoFar audit chain 0 stage lines
  first_reached stage lines says =
      let message = stage.context.message in
      let moment_is = says.0.0 in
      let within = says.0.1 in
      let whole = as_chain (λ r. IsWhole r chain.first.now message) says.0.2 in
      let added = says.1 in
      record {
        stage_in = within;
        in_range = subst (λ (ls : List AuditLine). IsTrue (are_lines_in_range ls)) (sym added.added) added.in_range;
        clean = λ items held.
            clean_hops items (chain_meant chain) (related_of audit) message (clean_first items (chain_meant chain) (related_of audit) held.is held.few of.related) of.related whole;
        others = λ hops parts are each. record {
          values = record { moment = stage.moment; related = related_of audit; message = message; hops = hops };
          are = record {
            moment = moment_is;
            related = of.related;
            message = whole;
            hops = as_chain (λ r. AllZip (IsHop r) (map hop_meant chain.hops) hops) are;
          };
          report = record {
            first = added.lines;
            first_are = subst (λ (m : ℕ). AreMessageLines (meaning audit.conf.now) (context_of_audit audit message) 0 m added.lines) (sym moment_is)
                (subst (λ (c : MessageContext). AreMessageLines (meaning audit.conf.now) c 0 chain.moment added.lines) within.context_is added.are);
            parts = parts;
            each = each;
            joined = ap (λ (ls : List AuditLine). ls ++ flat_map (λ part. part) parts) added.added;
          };
        };
      }

  -- why the item of message 0 is none
  pub first_refused : (fault : ChainFault) → SaysMessage chain.item audit.reading chain.first.now (Err fault) → SaysReport audit chain (Err fault)
  first_refused Memory says = tt
  first_refused (NoMessage index fault) says = λ items held.
      subst (λ (i : ℕ). IsChainFault items (NoMessage i fault)) (sym (says.0 ∙ first_place held))
      (fault_of_first items (chain_meant chain) (related_of audit) fault
      (clean_first items (chain_meant chain) (related_of audit) held.is held.few of.related) of.related
      (as_chain (λ r. IsMessageFault r chain.first.now fault) says.1))
  first_refused (Order offset) says = absurd says
  first_refused TooManyHops says = absurd says
  first_refused (NoScript index fault) says = absurd says
  first_refused (ScriptTooLong index) says = absurd says

  -- ---- one more hop

  module _ (count : ℕ) (before : StageState) (lines : List AuditLine) (hop : HeldHop) (there : slice_get chain.hops count ≡ Some hop) (so_far : IsAuditedSoFar audit chain count before lines) where
    hop_there : slice_get (map hop_meant chain.hops) count ≡ Some (hop_meant hop)
    hop_there = slice_get-map hop_meant chain.hops count ∙ ap (λ (o : Option HeldHop). elim o as (λ _. Option RecordedHop) [ None ↦ None | Some h ↦ Some (hop_meant h) ]) there

    next_is : drop count (map hop_meant chain.hops) ≡ hop_meant hop ∷ drop (count + 1) (map hop_meant chain.hops)
    next_is =
        drop_more (map hop_meant chain.hops) count (hop_meant hop) (slice_get_within (map hop_meant chain.hops) count (hop_meant hop) hop_there)
        ∙ ap (λ (h : RecordedHop). h ∷ drop (count + 1) (map hop_meant chain.hops)) (get_or_from_slice_get (map hop_meant chain.hops) count (hop_meant hop) (hop_meant hop) hop_there)

    pub next_reached : (all : List AuditLine) (after : StageState) → AddsNext audit (count + 1) before hop lines all after → IsAuditedSoFar audit chain (count + 1) after all
    next_reached all after says =
        let conf = meaning audit.conf.now in
        let message = after.context.message in
        let context = context_of_audit audit before.context.message in
        let within = says.stage.1 in
        let place : PlacedHop = record {
          index = count + 1;
          was = before.moment;
          before = before.context.message;
          script = says.script;
          now = unwrap_or hop.moment before.moment;
          after = message;
        } in
        let own : AddsLinesOf context place lines says.between =
        subst (λ (c : MessageContext). AddsLinesOf c place lines says.between) so_far.stage_in.context_is
        (says.hop_lines place (record { index_is = refl; before_is = refl; script_is = refl; after_is = refl })) in
        let added = says.added in
        let value : Hop = record { moment = hop.moment; script = says.script; message = message } in
        let part : List AuditLine = own.line ∷ (own.own ++ added.lines) in
        let part_is : AreHopLines conf (related_of audit) place part = record {
          line = own.line;
          is = own.is;
          labels = own.labels;
          labels_are = own.labels_are;
          own = own.own;
          each = own.each;
          after = added.lines;
          after_are = subst (λ (c : MessageContext). AreMessageLines conf c (count + 1) (unwrap_or hop.moment before.moment) added.lines) within.context_is added.are;
          joined = refl;
        } in
        let all_is : all ≡ lines ++ part =
        added.added ∙ (ap (λ (ls : List AuditLine). ls ++ added.lines) own.added ∙ append_assoc lines (own.line ∷ own.own) added.lines) in
        record {
          stage_in = within;
          in_range = subst (λ (ls : List AuditLine). IsTrue (are_lines_in_range ls)) (sym all_is)
              (joined_in_range lines part so_far.in_range (joined_in_range (own.line ∷ own.own) added.lines (hop_in_range context place own.line own.labels own.own own.is own.each) added.in_range));
          clean = λ items held.
              clean_hop items (chain_meant chain) (related_of audit) count (hop_meant hop) says.script message (so_far.clean items held) of.related hop_there says.script_is
              (as_chain (λ r. IsWhole r hop.message.now message) says.stage.2);
          others = λ hops parts are each.
              subst (λ (ls : List AuditLine). IsReported audit chain ls)
              (sym (append_assoc lines part (flat_map (λ p. p) parts)) ∙ ap (λ (ls : List AuditLine). ls ++ flat_map (λ p. p) parts) (sym all_is))
              (so_far.others (value ∷ hops) (part ∷ parts)
              (subst (λ (rs : List RecordedHop). AllZip (IsHop audit.reading) rs (value ∷ hops)) (sym next_is)
              (record { moment = refl; script = says.script_is; message = says.stage.2 }, are))
              (part_is, subst (λ (m : ℕ). AllZip (AreHopLines conf (related_of audit)) (places_from (count + 1) m message hops) parts) says.stage.0 each));
        }

    -- why its script is none
    script_refused : (fault : ChainFault) → SaysScript hop.item hop.script.now (Err fault) → SaysReport audit chain (Err fault)
    script_refused Memory says = tt
    script_refused (NoScript index fault) says = λ items held.
        subst (λ (i : ℕ). IsChainFault items (NoScript i fault)) (sym (says.0 ∙ held.hops_are count hop there))
        (fault_of_script items (chain_meant chain) (related_of audit) count (hop_meant hop) fault (so_far.clean items held) of.related hop_there says.1 says.2)
    script_refused (ScriptTooLong index) says = λ items held.
        subst (λ (i : ℕ). IsChainFault items (ScriptTooLong i)) (sym (says.0 ∙ held.hops_are count hop there))
        (long_script items (chain_meant chain) (related_of audit) count (hop_meant hop) (so_far.clean items held) of.related hop_there says.1)
    script_refused (Order offset) says = absurd says
    script_refused TooManyHops says = absurd says
    script_refused (NoMessage index fault) says = absurd says

    -- why its message is none
    message_refused : (script : List Rewrite) (fault : ChainFault) → IsScriptItem hop.script.now script → SaysMessage (hop.item + 1) audit.reading hop.message.now (Err fault)
        → SaysReport audit chain (Err fault)
    message_refused script Memory is says = tt
    message_refused script (NoMessage index fault) is says = λ items held.
        subst (λ (i : ℕ). IsChainFault items (NoMessage i fault)) (sym (says.0 ∙ ap (λ (n : ℕ). n + 1) (held.hops_are count hop there)))
        (fault_of_message items (chain_meant chain) (related_of audit) count (hop_meant hop) script fault (so_far.clean items held) of.related hop_there is
        (as_chain (λ r. IsMessageFault r hop.message.now fault) says.1))
    message_refused script (Order offset) is says = absurd says
    message_refused script TooManyHops is says = absurd says
    message_refused script (NoScript index fault) is says = absurd says
    message_refused script (ScriptTooLong index) is says = absurd says

    either : (fault : ChainFault) → SaysScript hop.item hop.script.now (Err fault)
        ⊎ ((script : List Rewrite) × IsScriptItem hop.script.now script × SaysMessage (hop.item + 1) audit.reading hop.message.now (Err fault)) → SaysReport audit chain (Err fault)
    either fault (inl says) = script_refused fault says
    either fault (inr says) = message_refused says.0 fault says.1 says.2

    pub hop_refused : (more : List AuditLine) (fault : ChainFault) → SaysNext audit (count + 1) before hop lines more (Err fault) → SaysReport audit chain (Err fault)
    hop_refused more Memory says = tt
    hop_refused more (Order offset) says = either (Order offset) says
    hop_refused more TooManyHops says = either TooManyHops says
    hop_refused more (NoMessage index fault) says = either (NoMessage index fault) says
    hop_refused more (NoScript index fault) says = either (NoScript index fault) says
    hop_refused more (ScriptTooLong index) says = either (ScriptTooLong index) says

  -- ---- all hops

  pub all_reported : (count : ℕ) (stage : StageState) (lines : List AuditLine) → length chain.hops ≤ count → IsAuditedSoFar audit chain count stage lines → SaysReport audit chain (Ok lines)
  all_reported count stage lines past so_far =
      let none : drop count (map hop_meant chain.hops) ≡ [] = drop_all count (map hop_meant chain.hops) (omega (arith, length-map chain.hops hop_meant)) in
      let reported = so_far.others [] [] (subst (λ (rs : List RecordedHop). AllZip (IsHop audit.reading) rs []) (sym none) tt) tt in
      let own : IsReported audit chain lines = subst (λ (ls : List AuditLine). IsReported audit chain ls) (append-nil lines) reported in
      (λ items held. (own.values, record { recorded = chain_meant chain; is = held.is; few = held.few; values = own.are }, own.report), so_far.in_range)
