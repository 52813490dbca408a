-- The record of a message that comes now.
use Rattle.std.proofs.Common.{◌≡◌, ◌+◌, ℕ, Option, Some, None, Ok, refl, sym, ap, subst, ◌∙◌}
use Rattle.settings.specs.declared.gateway_conf.GatewayConf.{GatewayConf}
use Rattle.gateway.specs.Arrivals.{Arrival}
use Rattle.gateway.specs.Records.{Answers, GatewayState}
use Rattle.gateway.specs.Streams.{RelatedRequest}
use Rattle.gateway.specs.declared.gateway_record.GatewayRecord.{GatewayRecord}
use Rattle.gateway.specs.tools.HeldStreams.{HeldStream, SaysAdded}

-- its record is added
added_now : (settings : GatewayConf) (old new : HeldStream) (arrival : Arrival) (answer : GatewayRecord) → new.conf ≡ old.conf → new.count ≡ old.count + 1 → new.moment ≡ old.moment
    → new.related ≡ None → Answers settings (record { conf = old.conf; seen = old.seen; count = old.count }) old.moment arrival answer new.seen
    → SaysAdded settings old new arrival (Ok (Some answer))
added_now settings old new arrival answer conf count same none answers = (
  conf,
  count,
  λ records size. record {
    record_ = answer;
    answers = subst (λ (n : ℕ). Answers settings (record { conf = old.conf; seen = old.seen; count = n }) old.moment arrival answer new.seen) (sym size) answers;
    records = refl;
    moment = same;
    related = none;
  },
)

-- the same, where the stream is that of a gateway
pub added_inside : (settings : GatewayConf) (old : HeldStream) (before after : GatewayState) (now : ℕ) (related : Option RelatedRequest) (arrival : Arrival) (answer : GatewayRecord)
    → ◌≡◌ {A = HeldStream} (record { conf = before.conf; moment = now; related = related; seen = before.seen; count = before.count }) old → old.related ≡ None → after.conf ≡ before.conf → after.count ≡ before.count + 1
    → Answers settings before now arrival answer after.seen
    → SaysAdded settings old (record { conf = after.conf; moment = now; related = related; seen = after.seen; count = after.count }) arrival (Ok (Some answer))
added_inside settings old before after now related arrival answer view none conf count answers =
    let free : related ≡ None = ap (λ (h : HeldStream). h.related) view ∙ none in
    let new : HeldStream = record { conf = after.conf; moment = now; related = related; seen = after.seen; count = after.count } in
    subst (λ (h : HeldStream). SaysAdded settings h new arrival (Ok (Some answer))) view
    (added_now settings (record { conf = before.conf; moment = now; related = related; seen = before.seen; count = before.count }) new arrival answer conf count refl free answers)
