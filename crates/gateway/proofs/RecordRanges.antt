-- What a record names can be written as a structured field.
use Rattle.std.proofs.Common.{◌≡◌, ◌≤◌, true, None, refl}
use Rattle.std.specs.List.{list_all}
use Rattle.std.proofs.lemmas.Bool.{and_parts}
use Rattle.byte_grammar.proofs.Indices.{all_at}
use Rattle.sfv_text.specs.Range.{are_params_in_range}
use Rattle.framing.specs.Framings.{is_request}
use Rattle.component_ids.specs.Identifiers.{is_id_in_range}
use Rattle.nonces.specs.Books.{Book}
use Rattle.nonces.specs.declared.limits.TheConstants.{MAX_MOMENT}
use Rattle.settings.specs.Valid.{IsValid}
use Rattle.settings.specs.declared.gateway_conf.GatewayConf.{GatewayConf}
use Rattle.signing.proofs.SomeSigned.{valid_where_asked}
use Rattle.verdicts.specs.declared.outcome.Verdict.TheVariants.{Ok as Accepted, Rule as Refused}
use Rattle.verdicts.proofs.Places.{place_in_range}
use Rattle.gateway.specs.Accepted.{verification_seen}
use Rattle.gateway.specs.Arrivals.{Arrival}
use Rattle.gateway.specs.Records.{GatewayState, IsRecordOf}
use Rattle.gateway.specs.RecordTexts.{is_record_in_range}
use Rattle.gateway.specs.declared.gateway_record.GatewayRecord.{GatewayRecord}
use Rattle.gateway.specs.declared.gateway_record.GatewayRecord.TheVariants.{Pass, Stop, Held, Bad}
use Rattle.gateway.specs.declared.gateway_record.HeldFault.TheVariants as held

pub record_in_range : (settings : GatewayConf) (state : GatewayState) (arrival : Arrival) (record_ : GatewayRecord) (after : Book) → IsValid state.conf → state.seen.moment ≤ MAX_MOMENT
    → IsRecordOf settings state arrival record_ after → is_record_in_range record_ ≡ true
record_in_range settings state arrival (Bad index fault) after valid early is = refl
record_in_range settings state arrival (Pass index label text) after valid early is = refl
record_in_range settings state arrival (Stop index label (Accepted keyid)) after valid early is = refl
record_in_range settings state arrival (Stop index label (Refused rule place)) after valid early is =
    place_in_range (verification_seen state.conf state.seen is.2 label) valid.policies.each rule place is.4.refusal.is.holds
record_in_range settings state arrival (Held index (held.Sign fault)) after valid early is = refl
record_in_range settings state arrival (Held index held.Covered) after valid early is = refl
record_in_range settings state arrival (Held index (held.Lacks lack id)) after valid early is =
    let on = is.4 in
    let spec = on.spec in
    let fits = valid_where_asked state.conf (is_request on.forwarded.head.start) state.seen.moment None spec valid early tt on.spec_is in
    let ids = and_parts (list_all is_id_in_range spec.params.ids) (are_params_in_range spec.params.params) fits.in_range in
    all_at is_id_in_range spec.params.ids on.outcome.0 id ids.0 on.outcome.2
