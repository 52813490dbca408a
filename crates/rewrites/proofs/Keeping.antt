-- A message that is the same for a signature keeps it, and so does one that is alike for its label.
use Rattle.std.proofs.Common.{◌≡◌, ◌↔◌, ◌<◌, ℕ, true, Option, List, length, get_or, sym, subst}
use Rattle.std.specs.List.{All}
use Rattle.msg_head.specs.declared.error.Side.TheVariants.{Header}
use Rattle.msg_body.specs.Messages.{Message}
use Rattle.msg_body.specs.Views.{lines_on}
use Rattle.component_ids.specs.declared.id.ComponentId.{ComponentId}
use Rattle.component_ids.specs.declared.params.SigParams.{SigParams}
use Rattle.component_values.specs.Alike.{AreAlikeFor, ComesToSame}
use Rattle.component_values.specs.Context.{MessageContext, context_with}
use Rattle.component_values.specs.Values.{side_of}
use Rattle.component_values.proofs.LineLaws.{depends_on_its_lines}
use Rattle.component_values.proofs.SameLists.{have_same_list}
use Rattle.nonces.specs.Books.{Book}
use Rattle.settings.specs.Configuration.{Configuration}
use Rattle.signatures.specs.Laws.{HaveSameFields}
use Rattle.signatures.specs.Signatures.{HasSignature}
use Rattle.signatures.proofs.Reading.{has_one_signature}
use Rattle.signatures.proofs.SameFields.{have_same_signature}
use Rattle.verdicts.specs.ContentDigest.{covers_digest, digest_name}
use Rattle.verdicts.specs.Laws.{AreAlikeForVerdict, AreAlikeWhereSigned}
use Rattle.verdicts.proofs.AlikeMessages.{depends_on_its_signature, depends_on_signature}
use Rattle.line_rewrites.specs.SameFor.{SameFor}
use Rattle.rewrites.specs.Laws.{IsAlikeForLabel, IsBaseOf, KeepsWhereAlike, KeepsWhereSame, verification_over}
use Rattle.rewrites.proofs.CoveredFields.{digest_is_covered, field_is_covered, lines_are_covered, same_in_form}

-- ---- the same components

module _ (context : MessageContext) (other : Message) (params : SigParams) where
  -- components that come to the same have one base
  base_kept : All (ComesToSame context other) params.ids → (base : List ℕ) → IsBaseOf context params base ↔ IsBaseOf (context_with context other) params base
  base_kept components base = (
    λ is. (is.0, (have_same_list context other params.ids is.0 components).0 is.1, is.2),
    λ is. (is.0, (have_same_list context other params.ids is.0 components).1 is.1, is.2),
  )

-- ---- the same for a signature

module _ (context : MessageContext) (other : Message) (params : SigParams) (same : SameFor params context.message other) where
  alike_at : (k : ℕ) (d : ComponentId) → k < length params.ids → AreAlikeFor (get_or params.ids k d) context.message other
  alike_at k d lt =
      let id = get_or params.ids k d in
      record {
        start = same.start;
        hosts = same.hosts.same;
        own = λ own.
            same_in_form (lines_on (side_of id.params) context.message) (lines_on (side_of id.params) other) id.name
            (same.fields (side_of id.params) id.name (field_is_covered params k d lt own)) id.params
            (λ wrapped. same.lines (side_of id.params) id.name (lines_are_covered params k d lt own wrapped));
      }

  come_to_same : All (ComesToSame context other) params.ids
  come_to_same k d lt = depends_on_its_lines context other (get_or params.ids k d) (alike_at k d lt)

  same_fields : HaveSameFields context.message other
  same_fields = record { input = same.input; signature = same.signature }

  module _ (label tag : List ℕ) (has : HasSignature context.message label params tag) where
    one : (own : SigParams) (bytes : List ℕ) → HasSignature context.message label own bytes → params ≡ own
    one own bytes its = (has_one_signature context.message label params own tag bytes has its).0

    alike_for : (conf : Configuration) (now : ℕ) (seen : Option Book) → AreAlikeForVerdict (verification_over context label conf now seen) other
    alike_for conf now seen = record {
      start = same.start;
      content = same.content;
      fields = same_fields;
      components = λ own bytes its. subst (λ (p : SigParams). All (ComesToSame context other) p.ids) (one own bytes its) come_to_same;
      digest = λ own bytes its covered.
          (same.fields Header digest_name (digest_is_covered params (subst (λ (p : SigParams). covers_digest p.ids ≡ true) (sym (one own bytes its)) covered))).combined;
    }

pub keeps_where_same : KeepsWhereSame
keeps_where_same context label params tag other has same =
    let components = come_to_same context other params same in
    record {
      signature = (have_same_signature context.message other label params tag (same_fields context other params same)).0 has;
      components = components;
      content = same.content;
      base = base_kept context other params components;
      verdict = λ conf now seen verdict. depends_on_its_signature (verification_over context label conf now seen) other verdict (alike_for context other params same label tag has conf now seen);
    }

-- ---- alike for a label

module _ (context : MessageContext) (label : List ℕ) (params : SigParams) (tag : List ℕ) (other : Message) (has : HasSignature context.message label params tag)
    (alike : IsAlikeForLabel context label params tag other) where
  alike_signed : (conf : Configuration) (now : ℕ) (seen : Option Book) → AreAlikeWhereSigned (verification_over context label conf now seen) params tag other
  alike_signed conf now seen = record {
    signature = has;
    other_signature = alike.signature;
    kind = alike.kind;
    content = alike.content;
    components = alike.components;
    digests = alike.digests;
  }

pub keeps_where_alike : KeepsWhereAlike
keeps_where_alike context label params tag other has alike = record {
  signature = alike.signature;
  components = alike.components;
  content = alike.content;
  base = base_kept context other params alike.components;
  verdict = λ conf now seen verdict.
      depends_on_signature (verification_over context label conf now seen) params tag other verdict (alike_signed context label params tag other has alike conf now seen);
}
