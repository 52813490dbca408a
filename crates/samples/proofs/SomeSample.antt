-- A seed and a number of hops have a summary.
use Rattle.std.proofs.Common.{ℕ, zero, suc, false, inl, inr, List, [], ◌∷◌, None, length, refl}
use Rattle.std.specs.Prelude.{count_by}
use Rattle.std.specs.List.{AllZip, flat_map}
use Rattle.msg_body.specs.Messages.{Message, Spells, message_text}
use Rattle.signing.specs.Signed.{IsSignedMessage}
use Rattle.signing.proofs.SomeSigned.{signed_or_fault, verifiable_where_signed}
use Rattle.rewrite_script.specs.Scripts.{script_text}
use Rattle.hop_audit.specs.ChainValues.{Chain, Hop}
use Rattle.hop_audit.specs.Lines.{finds_fault}
use Rattle.hop_audit.specs.declared.line.AuditLine.{AuditLine}
use Rattle.hop_audit.proofs.SomeReport.{some_report}
use Rattle.samples.specs.Chains.{AreHopsFrom, IsUnsigned, sample_context}
use Rattle.samples.specs.Draws.{state_after}
use Rattle.samples.specs.Laws.{HasSomeSample}
use Rattle.samples.specs.Requests.{request_text, sample_configuration, sample_spec}
use Rattle.samples.specs.Scripts.{hop_draws, hop_steps, scripts_from}
use Rattle.samples.specs.Summary.{IsSample, is_kept_line, is_ok_line, is_permitted_line, last_from}
use Rattle.samples.specs.declared.hop.MadeHop.{MadeHop}
use Rattle.samples.specs.declared.summary.Summary.{Summary}
use Rattle.samples.specs.tools.Made.{AreMadeFrom, IsTextOf, SpellsSample}
use Rattle.samples.proofs.DrawnSteps.{goes_through}
use Rattle.samples.proofs.FirstReady.{first_ready}
use Rattle.samples.proofs.MadeChains.{chain_of, recorded_of, sample_is, values}
use Rattle.samples.proofs.Ready.{IsReady, message_is}
use Rattle.samples.proofs.Signable.{no_sign_fault}
use Rattle.samples.proofs.Unsigned.{unsigned_is}
use Rattle.samples.proofs.Valid.{spec_valid}

-- ---- the hops

-- hops, and the texts of them
some_hops : (count state : ℕ) (m : Message) → IsReady m → (hops : List Hop) × (made : List MadeHop) × AreHopsFrom m (scripts_from state count) hops × AllZip IsTextOf hops made
some_hops zero state m ready = ([], [], tt, tt)
some_hops (suc count) state m ready =
    let end = goes_through state m ready in
    let rest = some_hops count (state_after hop_draws state) end.after end.ready in
    let own : Spells false end.after (message_text end.after) = record { is = message_is end.after end.ready; text = refl } in (
      record { moment = None; script = hop_steps state; message = end.after } ∷ rest.0,
      record { script = script_text (hop_steps state); message = message_text end.after } ∷ rest.1,
      (refl, refl, end.lead, rest.2),
      (record { script = refl; message = own }, rest.3),
    )

-- ---- the summary

numbers_of : Chain → List AuditLine → ℕ → Summary
numbers_of chain lines last = record {
  hops = length chain.hops;
  steps = length (flat_map (λ (hop : Hop). hop.script) chain.hops);
  permitted = count_by is_permitted_line lines;
  kept = count_by is_kept_line lines;
  ok = count_by is_ok_line lines;
  last = last;
  finds_fault = finds_fault lines;
}

sample_of : (seed count : ℕ) (first : List ℕ) (own : SpellsSample seed first) (made : List MadeHop) → AreMadeFrom own.signed (scripts_from seed count) made → (summary : Summary) × IsSample seed count summary
unfolding numbers_of
sample_of seed count first own made are =
    let chain = chain_of seed count first own made are in
    let report = some_report sample_configuration (recorded_of first made) chain (values seed count first own made are) in
    let summary = numbers_of chain report.0 (length (message_text (last_from chain.message chain.hops))) in (
      summary,
      sample_is seed count first own made are report.0 summary report.1
          (record { hops = refl; steps = refl; permitted = refl; kept = refl; ok = refl; last = refl; faulty = refl }),
    )

signed_sample : (seed count : ℕ) (unsigned : Message) → IsUnsigned seed unsigned → (signed : Message) → IsSignedMessage (sample_context unsigned) sample_spec signed
    → (summary : Summary) × IsSample seed count summary
signed_sample seed count unsigned is signed signed_is =
    let spells =
    (verifiable_where_signed (sample_context unsigned) sample_spec (request_text seed) signed spec_valid is.spells signed_is (no_sign_fault seed unsigned is)).0 in
    let own : SpellsSample seed (message_text signed) = record {
      unsigned = unsigned;
      unsigned_is = is;
      signed = signed;
      signed_is = signed_is;
      spells = spells;
    } in
    let hops = some_hops count seed signed (first_ready seed unsigned signed is signed_is) in
    sample_of seed count (message_text signed) own hops.1 (record { hops = hops.0; are = hops.2; texts = hops.3 })

pub some_sample : HasSomeSample
some_sample seed count =
    let unsigned = unsigned_is seed in
    elim (signed_or_fault (sample_context unsigned.0) sample_spec) [
      | inl signed ↦ signed_sample seed count unsigned.0 unsigned.1 signed.0 signed.1
      | inr fault ↦ absurd (no_sign_fault seed unsigned.0 unsigned.1 fault.0 fault.1)
    ]
