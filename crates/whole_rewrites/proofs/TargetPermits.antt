-- What a signature permits of targets and of `Host`: it does or not, by the messages and what is configured alone.
use Rattle.std.proofs.Common.{◌≡◌, ℕ, IsFalse, Option, List, [], ◌∷◌, codes, sym, subst}
use Rattle.component_ids.specs.declared.params.SigParams.{SigParams}
use Rattle.component_values.specs.Context.{MessageContext}
use Rattle.msg_body.specs.Messages.{Message}
use Rattle.msg_head.specs.declared.error.Side.TheVariants.{Header}
use Rattle.line_rewrites.specs.Covered.{covers_field}
use Rattle.rewrite_script.specs.declared.rewrite.WholeRewrite.{WholeRewrite}
use Rattle.rewrite_script.specs.declared.rewrite.WholeRewrite.TheVariants.{Absolute, Host, Origin, Query}
use Rattle.whole_rewrites.specs.Covered.{covers_one_of}
use Rattle.whole_rewrites.specs.Laws.{IsOfMessages, IsReadAs, IsPermittedOrNot}
use Rattle.whole_rewrites.specs.Permitted.{IsSameHost, MayChangeQuery, MayChangeTarget, NamesHost, PermitsWhole}
use Rattle.whole_rewrites.specs.Targets.{OfTarget}
use Rattle.whole_rewrites.proofs.TargetPermitHosts.{names_host_or_not, same_host_or_not}
use Rattle.whole_rewrites.proofs.TargetPermitQueries.{may_change_or_not}
use Rattle.whole_rewrites.proofs.TargetPermitTests.{both_or_not, false_or_not}

-- ---- it permits the rewriting or not

pub origin_decided : IsPermittedOrNot Origin
origin_decided context params =
    both_or_not (MayChangeTarget params) (OfTarget context.message (NamesHost context)) (false_or_not (covers_one_of (codes "@request-target" ∷ []) params)) (names_host_or_not context)

pub absolute_decided : IsPermittedOrNot Absolute
absolute_decided context params = false_or_not (covers_one_of (codes "@request-target" ∷ []) params)

pub query_decided : (text : Option (List ℕ)) → IsPermittedOrNot (Query text)
query_decided text context params = may_change_or_not context.message text params

pub host_decided : (text : List ℕ) → IsPermittedOrNot (Host text)
host_decided text context params =
    both_or_not (IsFalse (covers_field Header (codes "host") params)) (IsSameHost context text) (false_or_not (covers_field Header (codes "host") params)) (same_host_or_not context text)

-- ---- over another context that agrees

whole_same : (context other : MessageContext) → IsOfMessages context other → IsReadAs context other → context ≡ other
whole_same context other messages read = λ i. record {
  message = sym messages.0 i;
  related = sym messages.1 i;
  scheme = sym read.0 i;
  types = sym read.1 i;
}

carried : (step : WholeRewrite) (context other : MessageContext) → IsOfMessages context other → IsReadAs context other → (params : SigParams) → PermitsWhole context step params
    → PermitsWhole other step params
carried step context other messages read params = subst (λ (c : MessageContext). PermitsWhole c step params) (whole_same context other messages read)

pub origin_permits : (context other : MessageContext) → IsOfMessages context other → IsReadAs context other → (params : SigParams) → PermitsWhole context Origin params
    → PermitsWhole other Origin params
origin_permits = carried Origin

pub absolute_permits : (context other : MessageContext) → IsOfMessages context other → IsReadAs context other → (params : SigParams) → PermitsWhole context Absolute params
    → PermitsWhole other Absolute params
absolute_permits = carried Absolute

pub host_permits : (text : List ℕ) (context other : MessageContext) → IsOfMessages context other → IsReadAs context other → (params : SigParams) → PermitsWhole context (Host text) params
    → PermitsWhole other (Host text) params
host_permits text = carried (Host text)

pub query_permits : (text : Option (List ℕ)) (context other : MessageContext) → IsOfMessages context other → (params : SigParams) → PermitsWhole context (Query text) params
    → PermitsWhole other (Query text) params
query_permits text context other messages params = subst (λ (message : Message). MayChangeQuery message text params) (sym messages.0)
