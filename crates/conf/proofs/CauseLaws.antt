-- The faults of a text: at most one is the first, and none has a cause where the text is a configuration.
use Rattle.std.proofs.Common.{◌≡◌, ℕ, Option, Some, None, List, codes, refl, sym, ap, ◌∙◌, arith}
use Rattle.std.specs.FinMap as map
use Rattle.byte_grammar.specs.tools.Determined.{AreDetermined}
use Rattle.byte_grammar.proofs.CauseLaws.{first_is_one}
use Rattle.toml.specs.Data.{Data, Members, string, table, get_member}
use Rattle.conf.specs.declared.fault.ConfFault.{ConfFault}
use Rattle.conf.specs.declared.fault.ConfFault.TheVariants.{Memory, NotToml, UnknownKey, WrongType, OutOfRange, BadKeyText, BadComponents, BadScript, Missing}
use Rattle.settings.specs.declared.gateway_conf.GatewayConf.{GatewayConf}
use Rattle.settings.specs.declared.sign_conf.SignConf.{SignConf}
use Rattle.conf_values.specs.declared.table.ValueRule.TheVariants as rule
use Rattle.conf.specs.Sections.{HasGateway, HasSign}
use Rattle.settings.specs.Configuration.{Configuration}
use Rattle.conf.specs.Meaning.{Configures, HasKey, IsConfiguration, IsDocument}
use Rattle.conf.specs.Refusals.{HasBadKeyText, HasBadStep, IsBadKeyText, IsBadList, IsConfCause, IsCauseIn, IsConfFault, fault_number}
use Rattle.conf.specs.Table.{HoldsOfValue, members_in, rows, version_in}
use Rattle.conf.specs.Paths.{HoldsOfNone}
use Rattle.conf.proofs.JudgedLaws.{known_clear, typed_clear, allowed_clear, keys_clear, lists_clear, steps_clear, complete_clear}
use Rattle.conf.proofs.LeastLaws.{least_once}
use Rattle.conf.proofs.ListLaws.{not_bad}
use Rattle.conf.proofs.RowFacts.{texts_fine, lists_fine, steps_fine}
use Rattle.conf.proofs.StepLaws.{steps_not_bad}
use Rattle.conf.proofs.VersionLaws.{policies_fine}

-- ---- one document

pub one_document : (text : List ℕ) (a b : Members) → IsDocument text a → IsDocument text b → a ≡ b
one_document text a b first second = inside a b (sym first.1 ∙ second.1) where
  inside : (a b : Members) → Some a ≡ Some b → a ≡ b
  inside a b same = cc

-- ---- one fault

paths_once : (text : List ℕ) (Holds : Members → List ℕ → Type 0) (first : (document : Members) (path other : List ℕ) → Holds document path → Holds document other → path ≡ other)
    (path other : List ℕ) → (document : Members) × IsDocument text document × Holds document path → (document : Members) × IsDocument text document × Holds document other → path ≡ other
paths_once text Holds first path other (a, is, h) (b, also, k) = first a path other h (rw (one_document text b a also is) at k)

determined : (text : List ℕ) → AreDetermined fault_number (IsConfCause text)
determined text NotToml NotToml e h k = refl
determined text (UnknownKey a) (UnknownKey b) e h k =
    ap (λ (path : List ℕ). UnknownKey path) (paths_once text (λ d path. IsCauseIn d (UnknownKey path)) (λ d path other one two. least_once _ path other one two) a b h k)
determined text (WrongType a) (WrongType b) e h k =
    ap (λ (path : List ℕ). WrongType path) (paths_once text (λ d path. IsCauseIn d (WrongType path)) (λ d path other one two. least_once _ path other one two) a b h k)
determined text (OutOfRange a) (OutOfRange b) e h k =
    ap (λ (path : List ℕ). OutOfRange path) (paths_once text (λ d path. IsCauseIn d (OutOfRange path)) (λ d path other one two. least_once _ path other one two) a b h k)
determined text (BadKeyText a) (BadKeyText b) e h k =
    ap (λ (path : List ℕ). BadKeyText path) (paths_once text (λ d path. IsCauseIn d (BadKeyText path)) (λ d path other one two. least_once _ path other one two) a b h k)
determined text (BadComponents a) (BadComponents b) e h k =
    ap (λ (path : List ℕ). BadComponents path) (paths_once text (λ d path. IsCauseIn d (BadComponents path)) (λ d path other one two. least_once _ path other one two) a b h k)
determined text (BadScript a) (BadScript b) e h k =
    ap (λ (path : List ℕ). BadScript path) (paths_once text (λ d path. IsCauseIn d (BadScript path)) (λ d path other one two. least_once _ path other one two) a b h k)
determined text (Missing a) (Missing b) e h k =
    ap (λ (path : List ℕ). Missing path) (paths_once text (λ d path. IsCauseIn d (Missing path)) (λ d path other one two. least_once _ path other one two) a b h k)
determined text Memory other e h k = absurd h.2
determined text fault Memory e h k = absurd k.2
determined text fault other e h k = absurd (omega (arith, e))

pub one_fault : (text : List ℕ) (fault other : ConfFault) → IsConfFault text fault → IsConfFault text other → fault ≡ other
one_fault text fault other first second = first_is_one fault_number (IsConfCause text) (determined text) fault other first second

-- ---- no fault of a configuration

bad_key : (value : Option Data) (key : Option (List ℕ)) → HasKey value key → IsBadKeyText value → ⊥
bad_key (Some (string text)) (Some key) has bad = bad key has
bad_key (Some (string text)) None has bad = has
bad_key value key has bad = bad

bad_keys : (value : Option Data) (keys : (keyid : List ℕ) → (key : Option (List ℕ)) × HasKey (get_member keyid (members_in value)) key) → HasBadKeyText rule.Keys value → ⊥
bad_keys (Some (table pairs)) keys bad = bad_key (get_member bad.0 pairs) (keys bad.0).0 (keys bad.0).1 bad.1
bad_keys value keys bad = bad

request_fine : (value : Option Data) (sign : Option SignConf) → HasSign value sign → IsBadList rule.Components (get_member (codes "components-request") (members_in value)) → ⊥
request_fine (Some (table pairs)) (Some sign) says bad = not_bad (get_member (codes "components-request") pairs) sign.components_request says.components_request bad
request_fine (Some (table pairs)) None says bad = says
request_fine value sign says bad = bad

response_fine : (value : Option Data) (sign : Option SignConf) → HasSign value sign → IsBadList rule.Components (get_member (codes "components-response") (members_in value)) → ⊥
response_fine (Some (table pairs)) (Some sign) says bad = not_bad (get_member (codes "components-response") pairs) sign.components_response says.components_response bad
response_fine (Some (table pairs)) None says bad = says
response_fine value sign says bad = bad

steps_fine_in : (value : Option Data) (gateway : Option GatewayConf) → HasGateway value gateway → HasBadStep rule.Steps (get_member (codes "steps") (members_in value)) → ⊥
steps_fine_in (Some (table pairs)) (Some gateway) says bad = steps_not_bad (get_member (codes "steps") pairs) gateway.steps says.steps bad
steps_fine_in (Some (table pairs)) None says bad = says
steps_fine_in value gateway says bad = bad

lists_read : (document : Members) (conf : Configuration) → IsConfiguration document conf → HoldsOfNone (λ row. HoldsOfValue (IsBadList row.rule) document row) rows
lists_read document conf is =
    lists_fine document (policies_fine document (version_in document) conf.policies refl is.known is.policies)
    (request_fine (get_member (codes "sign") document) conf.sign is.sign) (response_fine (get_member (codes "sign") document) conf.sign is.sign)

no_cause : (document : Members) (conf : Configuration) → IsConfiguration document conf → (fault : ConfFault) → ¬ IsCauseIn document fault
no_cause document conf is (UnknownKey path) h = known_clear document is.known (UnknownKey path) refl h
no_cause document conf is (WrongType path) h = typed_clear document is.typed (WrongType path) refl h
no_cause document conf is (OutOfRange path) h = allowed_clear document is.allowed (OutOfRange path) refl h
no_cause document conf is (BadKeyText path) h =
    keys_clear document (texts_fine document (bad_keys (get_member (codes "keys") document) (λ keyid. (map.get conf.keys keyid, is.keys keyid)))) (BadKeyText path) refl h
no_cause document conf is (BadComponents path) h =
    lists_clear document (lists_read document conf is) (BadComponents path) refl h
no_cause document conf is (BadScript path) h =
    steps_clear document (steps_fine document (steps_fine_in (get_member (codes "gateway") document) conf.gateway is.gateway)) (BadScript path) refl h
no_cause document conf is (Missing path) h = complete_clear document is.complete (Missing path) refl h
no_cause document conf is Memory h = h
no_cause document conf is NotToml h = h

-- a configuration has no cause
pub no_fault : (text : List ℕ) (conf : Configuration) → Configures text conf → (fault : ConfFault) → ¬ IsConfCause text fault
no_fault text conf (document, is, says) NotToml h = h document is
no_fault text conf (document, is, says) Memory h = h.2
no_fault text conf (document, is, says) (UnknownKey path) (other, also, h) = no_cause document conf says (UnknownKey path) (rw (one_document text document other is also) h)
no_fault text conf (document, is, says) (WrongType path) (other, also, h) = no_cause document conf says (WrongType path) (rw (one_document text document other is also) h)
no_fault text conf (document, is, says) (OutOfRange path) (other, also, h) = no_cause document conf says (OutOfRange path) (rw (one_document text document other is also) h)
no_fault text conf (document, is, says) (BadKeyText path) (other, also, h) = no_cause document conf says (BadKeyText path) (rw (one_document text document other is also) h)
no_fault text conf (document, is, says) (BadComponents path) (other, also, h) = no_cause document conf says (BadComponents path) (rw (one_document text document other is also) h)
no_fault text conf (document, is, says) (BadScript path) (other, also, h) = no_cause document conf says (BadScript path) (rw (one_document text document other is also) h)
no_fault text conf (document, is, says) (Missing path) (other, also, h) = no_cause document conf says (Missing path) (rw (one_document text document other is also) h)

pub not_both : (text : List ℕ) (conf : Configuration) (fault : ConfFault) → Configures text conf → ¬ IsConfFault text fault
not_both text conf fault is first = no_fault text conf is fault first.holds
