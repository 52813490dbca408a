-- Each hop of a sample is permitted by the signature, and keeps it.
use Rattle.std.proofs.Common.{◌+◌, ℕ, Ok, None, List, [], ◌∷◌, replicate, codes, inl, inr, refl, sym, ap, subst, ◌∙◌}
use Rattle.std.specs.List.{All, join_by}
use Rattle.std.specs.Str.{byte}
use Rattle.std.proofs.lemmas.List.Elements.{All-nil, All-cons, All-head, All-tail}
use Rattle.sfv_text.specs.declared.pair.Pair.{Pair}
use Rattle.sfv_text.specs.declared.value.Member.{Member}
use Rattle.sfv_read.specs.Reads.{ReadsDict}
use Rattle.msg_head.specs.declared.error.Side.TheVariants.{Header}
use Rattle.msg_body.specs.Messages.{Message}
use Rattle.msg_body.specs.Views.{lines_on}
use Rattle.msg_body.specs.SameFields.{HasSameField, HasSameValues}
use Rattle.component_ids.specs.declared.params.SigParams.{SigParams}
use Rattle.component_ids.specs.declared.id.ComponentId.{ComponentId}
use Rattle.component_values.specs.Values.{HaveValues}
use Rattle.component_values.specs.Alike.{ComesToSame}
use Rattle.signatures.specs.Laws.{HaveSameFields}
use Rattle.signatures.specs.Signatures.{AreLabels, HasDict, HasSignature, input_name, signature_name}
use Rattle.signatures.proofs.Reading.{has_one_signature}
use Rattle.signatures.proofs.SameFields.{have_same_signature}
use Rattle.verdicts.specs.Verdicts.{Accepts}
use Rattle.verdicts.specs.Verification.{Verification, verification_for}
use Rattle.verdicts.specs.declared.outcome.Verdict.TheVariants.{Ok as Accepted}
use Rattle.rewrite_script.specs.declared.rewrite.LineRewrite.TheVariants.{Pad, Move}
use Rattle.rewrite_script.specs.declared.rewrite.Rewrite.TheVariants.{Lines, Whole}
use Rattle.rewrite_script.specs.declared.rewrite.WholeRewrite.TheVariants.{Rechunk}
use Rattle.rewrites.specs.Laws.{KeepsSignature}
use Rattle.rewrites.specs.Steps.{Step, Steps}
use Rattle.rewrites.proofs.Kept.{keeps_over_steps}
use Rattle.hop_audit.specs.Fates.{IsFate, HasKept}
use Rattle.hop_audit.specs.Hops.{IsPermitted}
use Rattle.hop_audit.specs.declared.line.Fate.TheVariants.{Kept}
use Rattle.samples.specs.Chains.{sample_context}
use Rattle.samples.specs.Draws.{draw}
use Rattle.samples.specs.Requests.{sample_configuration, sample_keyid, sample_params}
use Rattle.samples.specs.Scripts.{hop_steps, sizes_of}
use Rattle.samples.specs.declared.limits.TheConstants.{MOMENT}
use Rattle.samples.proofs.DrawnSteps.{GoesOn, first_step, second_step, third_step}
use Rattle.samples.proofs.HopSteps.{hop_writable}
use Rattle.samples.proofs.Ready.{IsReady}

-- ---- messages with the signature

abbrev pub label : List ℕ
label = codes "s"

abbrev pub judged : Message → Verification
judged m = verification_for sample_configuration MOMENT (sample_context m) label

-- the message has the signature, and no other, and it is accepted
pub record HoldsSignature (m : Message) : Type 0 where
  pub ready : IsReady m
  pub labels : AreLabels m (label ∷ [])
  pub tag : List ℕ
  pub signature : HasSignature m label sample_params tag
  pub accepted : Accepts (judged m) sample_keyid

-- ---- a hop

same_field : (m other : Message) → ((name : List ℕ) → HasSameValues m.head.lines other.head.lines name) → (name : List ℕ) → HasSameField (lines_on Header m) (lines_on Header other) name
same_field m other same name = record {
  there = (same name).there;
  combined = ap (λ (texts : List (List ℕ)). join_by (λ (text : List ℕ). text) (codes ", ") texts) (same name).same;
}

same_fields : (m other : Message) → ((name : List ℕ) → HasSameValues m.head.lines other.head.lines name) → HaveSameFields m other
same_fields m other same = record { input = same_field m other same input_name; signature = same_field m other same signature_name }

same_dict : (m other : Message) (name : List ℕ) (dict : List (Pair Member)) → HasSameField (lines_on Header m) (lines_on Header other) name → HasDict m name dict → HasDict other name dict
same_dict m other name dict same has = record {
  there = same.there ∙ has.there;
  reads = subst (λ (text : List ℕ). ReadsDict text dict) (sym same.combined) has.reads;
}

labels_stay : (m other : Message) (labels : List (List ℕ)) → HasSameField (lines_on Header m) (lines_on Header other) input_name → AreLabels m labels → AreLabels other labels
labels_stay m other labels same (inl has) = inl (has.0, same_dict m other input_name has.0 same has.1, has.2)
labels_stay m other labels same (inr none) = inr (
  λ dict has. none.0 dict (same_dict other m input_name dict (record { there = sym same.there; combined = sym same.combined }) has),
  none.1,
)

module _ (state : ℕ) (m : Message) (is : HoldsSignature m) where
  abbrev one : GoesOn m (Lines (Pad Header (draw state 1 6) (replicate (1 + draw state 2 3) (byte " ")) []))
  one = first_step state m is.ready

  abbrev two : GoesOn one.after (Lines (Move Header (draw state 3 6) (draw state 4 6)))
  two = second_step state m is.ready

  abbrev pub three : GoesOn two.after (Whole (Rechunk (sizes_of (1000 + draw state 5 9000))))
  three = third_step state m is.ready

  pub lead : Steps Step (sample_context m) (hop_steps state) three.after
  lead = (one.after, one.gives, (two.after, two.gives, (three.after, three.gives, refl)))

  signature_one : HasSignature one.after label sample_params is.tag
  signature_one = (have_same_signature m one.after label sample_params is.tag (same_fields m one.after one.same)).0 is.signature

  signature_two : HasSignature two.after label sample_params is.tag
  signature_two = (have_same_signature one.after two.after label sample_params is.tag (same_fields one.after two.after two.same)).0 signature_one

  pub permitted : IsPermitted label (sample_context m) (hop_steps state) three.after
  permitted = (
    one.after,
    record { gives = one.gives; params = sample_params; tag = is.tag; signature = is.signature; permits = one.permits label sample_params },
    (
      two.after,
      record { gives = two.gives; params = sample_params; tag = is.tag; signature = signature_one; permits = two.permits label sample_params },
      (three.after, record { gives = three.gives; params = sample_params; tag = is.tag; signature = signature_two; permits = three.permits label sample_params }, refl),
    ),
  )

  keeps : KeepsSignature (sample_context m) label sample_params is.tag three.after
  keeps =
      keeps_over_steps (sample_context m) (hop_steps state) label sample_params is.tag three.after (hop_writable state) (tt, (tt, (tt, tt))) is.signature permitted

  pub holds_after : HoldsSignature three.after
  holds_after = record {
    ready = three.ready;
    labels = labels_stay two.after three.after (label ∷ []) (same_field two.after three.after three.same input_name)
        (labels_stay one.after two.after (label ∷ []) (same_field one.after two.after two.same input_name)
        (labels_stay m one.after (label ∷ []) (same_field m one.after one.same input_name) is.labels));
    tag = is.tag;
    signature = keeps.signature;
    accepted = (keeps.verdict sample_configuration MOMENT None (Accepted sample_keyid)).0 is.accepted;
  }

  -- each component keeps its value
  each_kept : (ids : List ComponentId) (values : List (List ℕ)) → HaveValues (sample_context m) ids values
      → All (ComesToSame (sample_context m) three.after) ids → All (HasKept (sample_context m) three.after) ids
  each_kept [] [] have same = All-nil (HasKept (sample_context m) three.after)
  each_kept [] (value ∷ values) have same = absurd have
  each_kept (id ∷ ids) [] have same = absurd have
  each_kept (id ∷ ids) (value ∷ values) have same =
      let here = All-head (ComesToSame (sample_context m) three.after) id ids same in
      All-cons (HasKept (sample_context m) three.after) id ids (value, record { before = have.0; after = (here (Ok value)).0 have.0 })
      (each_kept ids values have.1 (All-tail (ComesToSame (sample_context m) three.after) id ids same))

  -- the signature is kept
  pub fate_is : IsFate (sample_context m) three.after label sample_params is.tag Kept
  fate_is =
      let a = is.accepted in
      let same = (has_one_signature m label a.params sample_params a.tag is.tag a.signature is.signature).0 in
      let have = subst (λ (p : SigParams). HaveValues (sample_context m) p.ids a.values) same a.have in
      (keeps.signature, each_kept sample_params.ids a.values have keeps.components)
