-- Faults of chains: which item is the first that is bad, and that items have one fault, or none.
use Rattle.std.proofs.Common.{◌≡◌, ◌⊎◌, ℕ, ◌+◌, ◌<◌, ◌≤◌, Option, Some, None, List, [], ◌∷◌, ◌++◌, length, drop, refl, sym, subst, ap, ◌∙◌, inl, inr, arith, append_assoc, length-append}
use Rattle.std.specs.Prelude.{⊤}
use Rattle.std.specs.List.{All, AllByRecursion, AllZip, flat_map, slice_get}
use Rattle.std.proofs.lemmas.Bool.{cases_lt}
use Rattle.std.proofs.lemmas.List.{append-nil}
use Rattle.std.proofs.lemmas.List.Elements.{All-head, All-tail}
use Rattle.std.proofs.lemmas.Option.{slice_get_within}
use Rattle.std.proofs.Math.Nat.{eq-or-lt_of_le}
use Rattle.byte_grammar.specs.tools.Determined.{AreDetermined}
use Rattle.byte_grammar.proofs.CauseLaws.{first_is_one}
use Rattle.msg_body.specs.Messages.{Message}
use Rattle.msg_body.specs.WholeTexts.{IsMessageFault, IsWhole}
use Rattle.msg_body.specs.declared.error.MessageFault.{MessageFault}
use Rattle.msg_body.proofs.WholeTexts.{is_whole_or_not, no_fault_of_whole, one_fault_of_text, one_whole}
use Rattle.rewrite_script.specs.Causes.{IsScriptFault}
use Rattle.rewrite_script.specs.declared.fault.ScriptFault.{ScriptFault}
use Rattle.rewrite_script.specs.declared.rewrite.Rewrite.{Rewrite}
use Rattle.rewrite_script.specs.declared.limits.TheConstants.{MAX_SCRIPT_BYTES}
use Rattle.rewrite_script.proofs.ScriptLaws.{has_script_or_fault, no_fault_of_script, one_script_fault}
use Rattle.recording.specs.declared.item.Role.{Role}
use Rattle.recording.specs.declared.item.Role.TheVariants.{Related}
use Rattle.recording.specs.Items.{Body, IsShort, moment, stored, message, script, PlacedItem}
use Rattle.recording.specs.Recordings.{bodies}
use Rattle.hop_audit.specs.declared.fault.ChainFault.{ChainFault}
use Rattle.hop_audit.specs.declared.fault.ChainFault.TheVariants.{Memory, Order, TooManyHops, Message as NoMessage, Script as NoScript, ScriptTooLong}
use Rattle.recording.specs.declared.limits.TheConstants.{MAX_HOPS}
use Rattle.recording.specs.Chains.{Subject, requests, responses, RecordedChain, RecordedHop, IsChain, IsOrderFault, chain_items, hop_items, message_item, moment_items, related_items, role_of, OfChain}
use Rattle.hop_audit.specs.ChainValues.{AnswersRequest, Chain, Hop, IsChainOf, IsHop, IsScriptItem, one_request, reading_of}
use Rattle.hop_audit.specs.ChainFaults.{IsBadMessage, IsBadScript, IsChainCause, IsChainFault, IsKnownRequest, IsLongScript, SaysAt, chain_order}
use Rattle.hop_audit.specs.Laws.{HaveNoFaultWhereAudited, HaveOneFault}
use Rattle.recording.specs.RecordedChains.{items_up_to, script_index}
use Rattle.recording.proofs.OneChain.{hop_items-length, items_around_hop, items_up_to-more, message_there, one_chain, script_there, slice_get_at}
use Rattle.recording.proofs.OrderFaults.{one_order_fault}
use Rattle.hop_audit.proofs.Reports.{some_is}

-- ---- lists

all_parts : {X : Type 0} (P : X → Type 0) (xs ys : List X) → AllByRecursion P (xs ++ ys) → AllByRecursion P xs × AllByRecursion P ys
all_parts P [] ys all = (tt, all)
all_parts P (x ∷ xs) ys all = let parts = all_parts P xs ys all.1 in ((all.0, parts.0), parts.1)

all_joined : {X : Type 0} (P : X → Type 0) (xs ys : List X) → AllByRecursion P xs → AllByRecursion P ys → AllByRecursion P (xs ++ ys)
all_joined P [] ys one two = two
all_joined P (x ∷ xs) ys one two = (one.0, all_joined P xs ys one.1 two)

-- ---- the request that is answered

pub one_known : (subject : Subject) (a b : Option Message) → IsKnownRequest subject a → IsKnownRequest subject b → a ≡ b
one_known subject None None a b = refl
one_known subject None (Some y) a b = absurd (a y b)
one_known subject (Some x) None a b = absurd (b x a)
one_known requests (Some x) (Some y) a b = absurd cc
one_known (responses None) (Some x) (Some y) a b = absurd cc
one_known (responses (Some text)) (Some x) (Some y) a b = ap Some (one_whole one_request text x y a b)

pub answers_known : (subject : Subject) (related : Option Message) → AnswersRequest subject related → IsKnownRequest subject related
answers_known subject (Some request) is = is
answers_known requests None is = λ request e. absurd cc
answers_known (responses None) None is = λ request e. absurd cc
answers_known (responses (Some text)) None is = absurd is

-- ---- items that are as they should be

-- the item is a moment, a message of its role or a script
abbrev pub IsGood : Option Message → Body → Type 0
IsGood related (moment seconds) = ⊤
IsGood related (stored (message role) text) = (m : Message) × IsWhole (reading_of related role) text m
IsGood related (stored script text) = (steps : List Rewrite) × IsScriptItem text steps

-- where the item of an index is good, no cause of it holds
module _ (chain : RecordedChain) (related : Option Message) (known : IsKnownRequest chain.subject related) (n : ℕ) (body : Body) (there : SaysAt chain n body) (good : IsGood related body) where
  good_as : (other : Body) → SaysAt chain n other → IsGood related other
  good_as other at = subst (λ (b : Body). IsGood related b) (some_is (sym there ∙ at)) good

  no_bad_message : (fault : MessageFault) → ¬ IsBadMessage chain n fault
  no_bad_message fault bad =
      let own = good_as (stored (message bad.role) bad.text) bad.there in
      let same = one_known chain.subject bad.related related bad.known known in
      no_fault_of_whole (reading_of related bad.role) bad.text own.0 fault own.1
      (subst (λ (r : Option Message). IsMessageFault (reading_of r bad.role) bad.text fault) same bad.is)

  no_bad_script : (fault : ScriptFault) → ¬ IsBadScript chain n fault
  no_bad_script fault bad =
      let own = good_as (stored script bad.text) bad.there in
      no_fault_of_script bad.text own.0 fault own.1.1 bad.is

  no_long_script : ¬ IsLongScript chain n
  no_long_script bad =
      let own = good_as (stored script bad.text) bad.there in
      absurd (omega (arith, own.1.0, bad.long))

-- ---- clean items

-- no cause that is judged before those of the item of this index holds
pub record IsClean (items : List PlacedItem) (chain : RecordedChain) (n : ℕ) : Type 0 where
  pub is : IsChain items chain
  pub few : length chain.hops ≤ MAX_HOPS
  pub none : (fault : ChainFault) → chain_order fault < 3 + n → ¬ IsChainCause items fault

-- what holds of the chain of the items holds of this one
of_chain : (items : List PlacedItem) (chain : RecordedChain) (Fact : RecordedChain → Type 0) → IsChain items chain → OfChain items Fact → Fact chain
of_chain items chain Fact is other = subst (λ (c : RecordedChain). Fact c) (one_chain items other.0 chain other.1 is) other.2

pub clean_begins : (items : List PlacedItem) (chain : RecordedChain) → IsChain items chain → length chain.hops ≤ MAX_HOPS → IsClean items chain 0
clean_begins items chain is few = record { is = is; few = few; none = none }
  where
    none : (fault : ChainFault) → chain_order fault < 3 + 0 → ¬ IsChainCause items fault
    none Memory less cause = cause
    none (Order offset) less cause = cause.none chain is
    none TooManyHops less cause =
        let more : MAX_HOPS < length chain.hops = of_chain items chain (λ c. MAX_HOPS < length c.hops) is cause in
        absurd (omega arith)
    none (NoMessage index fault) less cause = absurd (omega arith)
    none (NoScript index fault) less cause = absurd (omega arith)
    none (ScriptTooLong index) less cause = absurd (omega arith)

-- an index below the next one is below this one, or this one
below_or_at : (index n : ℕ) → 3 + index < 3 + (n + 1) → (index ≡ n) ⊎ (3 + index < 3 + n)
below_or_at index n less = elim (eq-or-lt_of_le (let within : index ≤ n = omega arith in within)) [
  | inl same ↦ inl same
  | inr below ↦ inr (omega arith)
]

pub clean_more : (items : List PlacedItem) (chain : RecordedChain) (related : Option Message) (n : ℕ) (body : Body)
    → IsClean items chain n → IsKnownRequest chain.subject related → SaysAt chain n body → IsGood related body → IsClean items chain (n + 1)
clean_more items chain related n body clean known there good = record { is = clean.is; few = clean.few; none = none }
  where
    none : (fault : ChainFault) → chain_order fault < 3 + (n + 1) → ¬ IsChainCause items fault
    none Memory less cause = cause
    none (Order offset) less cause = clean.none (Order offset) (omega arith) cause
    none TooManyHops less cause = clean.none TooManyHops (omega arith) cause
    none (NoMessage index fault) less cause = elim (below_or_at index n less) [
      | inl at ↦ no_bad_message chain related known n body there good fault
          (subst (λ (i : ℕ). IsBadMessage chain i fault) at (of_chain items chain (λ c. IsBadMessage c index fault) clean.is cause))
      | inr below ↦ clean.none (NoMessage index fault) below cause
    ]
    none (NoScript index fault) less cause = elim (below_or_at index n less) [
      | inl at ↦ no_bad_script chain related known n body there good fault
          (subst (λ (i : ℕ). IsBadScript chain i fault) at (of_chain items chain (λ c. IsBadScript c index fault) clean.is cause))
      | inr below ↦ clean.none (NoScript index fault) below cause
    ]
    none (ScriptTooLong index) less cause = elim (below_or_at index n less) [
      | inl at ↦ no_long_script chain related known n body there good
          (subst (λ (i : ℕ). IsLongScript chain i) at (of_chain items chain (λ c. IsLongScript c index) clean.is cause))
      | inr below ↦ clean.none (ScriptTooLong index) below cause
    ]

-- items that follow one another
clean_part : (items : List PlacedItem) (chain : RecordedChain) (related : Option Message) → IsKnownRequest chain.subject related
    → (part before rest : List Body) → chain_items chain ≡ before ++ (part ++ rest) → AllByRecursion (IsGood related) part
    → IsClean items chain (length before) → IsClean items chain (length before + length part)
clean_part items chain related known [] before rest cut good clean =
    let e : length before ≡ length before + 0 = omega arith in
    subst (λ (n : ℕ). IsClean items chain n) e clean
clean_part items chain related known (body ∷ part) before rest cut good clean =
    let there : SaysAt chain (length before) body =
    subst (λ (all : List Body). slice_get all (length before) ≡ Some body) (sym cut) (slice_get_at before body (part ++ rest)) in
    let next = clean_more items chain related (length before) body clean known there good.0 in
    let count = length-append before (body ∷ []) in
    let one : length before + 1 ≡ length (before ++ body ∷ []) = omega arith in
    let all : length (before ++ body ∷ []) + length part ≡ length before + length (body ∷ part) = omega arith in
    subst (λ (n : ℕ). IsClean items chain n) all (clean_part items chain related known part (before ++ body ∷ []) rest
    (cut ∙ sym (append_assoc before (body ∷ []) (part ++ rest))) good.1
    (subst (λ (n : ℕ). IsClean items chain n) one next))

-- ---- faults

pub fault_of_order : (items : List PlacedItem) (offset : ℕ) → IsOrderFault items offset → IsChainFault items (Order offset)
fault_of_order items offset is = record { holds = is; none_before = none }
  where
    none : (fault : ChainFault) → chain_order fault < 1 → ¬ IsChainCause items fault
    none Memory less cause = cause
    none (Order other) less cause = absurd (omega arith)
    none TooManyHops less cause = absurd (omega arith)
    none (NoMessage index fault) less cause = absurd (omega arith)
    none (NoScript index fault) less cause = absurd (omega arith)
    none (ScriptTooLong index) less cause = absurd (omega arith)

pub fault_of_number : (items : List PlacedItem) (chain : RecordedChain) → IsChain items chain → MAX_HOPS < length chain.hops → IsChainFault items TooManyHops
fault_of_number items chain is many = record { holds = (chain, is, many); none_before = none }
  where
    none : (fault : ChainFault) → chain_order fault < 2 → ¬ IsChainCause items fault
    none Memory less cause = cause
    none (Order other) less cause = cause.none chain is
    none TooManyHops less cause = absurd (omega arith)
    none (NoMessage index fault) less cause = absurd (omega arith)
    none (NoScript index fault) less cause = absurd (omega arith)
    none (ScriptTooLong index) less cause = absurd (omega arith)

pub fault_here_message : (items : List PlacedItem) (chain : RecordedChain) (related : Option Message) (n : ℕ) (role : Role) (text : List ℕ) (fault : MessageFault)
    → IsClean items chain n → IsKnownRequest chain.subject related → SaysAt chain n (stored (message role) text)
    → IsMessageFault (reading_of related role) text fault → IsChainFault items (NoMessage n fault)
fault_here_message items chain related n role text fault clean known there is = record {
  holds = (chain, clean.is, record { related = related; known = known; role = role; text = text; there = there; is = is });
  none_before = clean.none;
}

pub fault_here_script : (items : List PlacedItem) (chain : RecordedChain) (n : ℕ) (text : List ℕ) (fault : ScriptFault)
    → IsClean items chain n → SaysAt chain n (stored script text) → length text ≤ MAX_SCRIPT_BYTES → IsScriptFault text fault → IsChainFault items (NoScript n fault)
fault_here_script items chain n text fault clean there within is = record {
  holds = (chain, clean.is, record { text = text; there = there; within = within; is = is });
  none_before = clean.none;
}

pub long_here : (items : List PlacedItem) (chain : RecordedChain) (n : ℕ) (text : List ℕ)
    → IsClean items chain n → SaysAt chain n (stored script text) → MAX_SCRIPT_BYTES < length text → IsChainFault items (ScriptTooLong n)
long_here items chain n text clean there long = record {
  holds = (chain, clean.is, record { text = text; there = there; long = long });
  none_before = clean.none;
}

-- ---- one fault

-- at one index
module _ (chain : RecordedChain) (n : ℕ) where
  one_message_fault : (fault other : MessageFault) → IsBadMessage chain n fault → IsBadMessage chain n other → fault ≡ other
  one_message_fault fault other a b =
      let same : stored (message a.role) a.text ≡ stored (message b.role) b.text = some_is (sym a.there ∙ b.there) in
      let role : a.role ≡ b.role = cc in
      let text : a.text ≡ b.text = cc in
      let request = one_known chain.subject a.related b.related a.known b.known in
      let moved = subst (λ (t : List ℕ). IsMessageFault (reading_of b.related b.role) t fault) text
      (subst (λ (r : Role). IsMessageFault (reading_of b.related r) a.text fault) role
      (subst (λ (r : Option Message). IsMessageFault (reading_of r a.role) a.text fault) request a.is)) in
      one_fault_of_text (reading_of b.related b.role) b.text fault other moved b.is

  one_fault_of_script : (fault other : ScriptFault) → IsBadScript chain n fault → IsBadScript chain n other → fault ≡ other
  one_fault_of_script fault other a b =
      let same : stored script a.text ≡ stored script b.text = some_is (sym a.there ∙ b.there) in
      let text : a.text ≡ b.text = cc in
      one_script_fault b.text fault other (subst (λ (t : List ℕ). IsScriptFault t fault) text a.is) b.is

  message_or_script : (fault : MessageFault) (other : ScriptFault) → IsBadMessage chain n fault → IsBadScript chain n other → ⊥
  message_or_script fault other a b =
      let same : stored (message a.role) a.text ≡ stored script b.text = some_is (sym a.there ∙ b.there) in
      absurd cc

  message_or_long : (fault : MessageFault) → IsBadMessage chain n fault → IsLongScript chain n → ⊥
  message_or_long fault a b =
      let same : stored (message a.role) a.text ≡ stored script b.text = some_is (sym a.there ∙ b.there) in
      absurd cc

  script_or_long : (fault : ScriptFault) → IsBadScript chain n fault → IsLongScript chain n → ⊥
  script_or_long fault a b =
      let same : stored script a.text ≡ stored script b.text = some_is (sym a.there ∙ b.there) in
      let text : a.text ≡ b.text = cc in
      absurd (omega (arith, ap (λ (t : List ℕ). length t) text, a.within, b.long))

-- two facts of one index, both of the same chain
both_at : (items : List PlacedItem) (i j : ℕ) (P Q : RecordedChain → ℕ → Type 0) → 3 + i ≡ 3 + j → OfChain items (λ c. P c i) → OfChain items (λ c. Q c j)
    → (chain : RecordedChain) × P chain j × Q chain j
both_at items i j P Q same a b =
    let e : i ≡ j = omega arith in
    (b.0, subst (λ (k : ℕ). P b.0 k) e (of_chain items b.0 (λ c. P c i) b.1 a), b.2)

determined : (items : List PlacedItem) → AreDetermined chain_order (IsChainCause items)
determined items Memory other same a b = absurd a
determined items (Order o) Memory same a b = absurd b
determined items (Order o) (Order p) same a b = ap Order (one_order_fault items o p a b)
determined items (Order o) TooManyHops same a b = absurd (omega arith)
determined items (Order o) (NoMessage j g) same a b = absurd (omega arith)
determined items (Order o) (NoScript j g) same a b = absurd (omega arith)
determined items (Order o) (ScriptTooLong j) same a b = absurd (omega arith)
determined items TooManyHops Memory same a b = absurd b
determined items TooManyHops (Order p) same a b = absurd (omega arith)
determined items TooManyHops TooManyHops same a b = refl
determined items TooManyHops (NoMessage j g) same a b = absurd (omega arith)
determined items TooManyHops (NoScript j g) same a b = absurd (omega arith)
determined items TooManyHops (ScriptTooLong j) same a b = absurd (omega arith)
determined items (NoMessage i f) Memory same a b = absurd b
determined items (NoMessage i f) (Order p) same a b = absurd (omega arith)
determined items (NoMessage i f) TooManyHops same a b = absurd (omega arith)
determined items (NoMessage i f) (NoMessage j g) same a b =
    let both = both_at items i j (λ c k. IsBadMessage c k f) (λ c k. IsBadMessage c k g) same a b in
    let index : i ≡ j = omega arith in
    let fault : f ≡ g = one_message_fault both.0 j f g both.1 both.2 in
    λ t. NoMessage (index t) (fault t)
determined items (NoMessage i f) (NoScript j g) same a b =
    let both = both_at items i j (λ c k. IsBadMessage c k f) (λ c k. IsBadScript c k g) same a b in
    absurd (message_or_script both.0 j f g both.1 both.2)
determined items (NoMessage i f) (ScriptTooLong j) same a b =
    let both = both_at items i j (λ c k. IsBadMessage c k f) (λ c k. IsLongScript c k) same a b in
    absurd (message_or_long both.0 j f both.1 both.2)
determined items (NoScript i f) Memory same a b = absurd b
determined items (NoScript i f) (Order p) same a b = absurd (omega arith)
determined items (NoScript i f) TooManyHops same a b = absurd (omega arith)
determined items (NoScript i f) (NoMessage j g) same a b =
    let both = both_at items j i (λ c k. IsBadMessage c k g) (λ c k. IsBadScript c k f) (sym same) b a in
    absurd (message_or_script both.0 i g f both.1 both.2)
determined items (NoScript i f) (NoScript j g) same a b =
    let both = both_at items i j (λ c k. IsBadScript c k f) (λ c k. IsBadScript c k g) same a b in
    let index : i ≡ j = omega arith in
    let fault : f ≡ g = one_fault_of_script both.0 j f g both.1 both.2 in
    λ t. NoScript (index t) (fault t)
determined items (NoScript i f) (ScriptTooLong j) same a b =
    let both = both_at items i j (λ c k. IsBadScript c k f) (λ c k. IsLongScript c k) same a b in
    absurd (script_or_long both.0 j f both.1 both.2)
determined items (ScriptTooLong i) Memory same a b = absurd b
determined items (ScriptTooLong i) (Order p) same a b = absurd (omega arith)
determined items (ScriptTooLong i) TooManyHops same a b = absurd (omega arith)
determined items (ScriptTooLong i) (NoMessage j g) same a b =
    let both = both_at items j i (λ c k. IsBadMessage c k g) (λ c k. IsLongScript c k) (sym same) b a in
    absurd (message_or_long both.0 i g both.1 both.2)
determined items (ScriptTooLong i) (NoScript j g) same a b =
    let both = both_at items j i (λ c k. IsBadScript c k g) (λ c k. IsLongScript c k) (sym same) b a in
    absurd (script_or_long both.0 i g both.1 both.2)
determined items (ScriptTooLong i) (ScriptTooLong j) same a b = let index : i ≡ j = omega arith in ap ScriptTooLong index

pub one_fault : HaveOneFault
one_fault items fault other a b = first_is_one chain_order (IsChainCause items) (determined items) fault other a b

-- ---- no fault

-- where no item has a cause, none holds
pub no_fault : (items : List PlacedItem) (chain : RecordedChain) → IsClean items chain (length (chain_items chain)) → (fault : ChainFault) → ¬ IsChainCause items fault
no_fault items chain clean Memory cause = cause
no_fault items chain clean (Order offset) cause = cause.none chain clean.is
no_fault items chain clean TooManyHops cause = clean.none TooManyHops (omega arith) cause
no_fault items chain clean (NoMessage index fault) cause =
    let bad = of_chain items chain (λ c. IsBadMessage c index fault) clean.is cause in
    let within = slice_get_within (chain_items chain) index (stored (message bad.role) bad.text) bad.there in
    clean.none (NoMessage index fault) (omega arith) cause
no_fault items chain clean (NoScript index fault) cause =
    let bad = of_chain items chain (λ c. IsBadScript c index fault) clean.is cause in
    let within = slice_get_within (chain_items chain) index (stored script bad.text) bad.there in
    clean.none (NoScript index fault) (omega arith) cause
no_fault items chain clean (ScriptTooLong index) cause =
    let bad = of_chain items chain (λ c. IsLongScript c index) clean.is cause in
    let within = slice_get_within (chain_items chain) index (stored script bad.text) bad.there in
    clean.none (ScriptTooLong index) (omega arith) cause

-- ---- the parts of a chain with values are good

good_message : (related : Option Message) (subject : Subject) (text : List ℕ) (m : Message)
    → IsWhole (reading_of related (role_of subject)) text m → IsGood related (message_item subject text)
good_message related requests text m is = (m, is)
good_message related (responses answered) text m is = (m, is)

good_moment : (related : Option Message) (seconds : Option ℕ) → AllByRecursion (IsGood related) (moment_items seconds)
good_moment related None = tt
good_moment related (Some seconds) = (tt, tt)

good_related : (subject : Subject) (related : Option Message) → AnswersRequest subject related → AllByRecursion (IsGood related) (related_items subject)
good_related requests related is = tt
good_related (responses None) related is = tt
good_related (responses (Some text)) None is = absurd is
good_related (responses (Some text)) (Some request) is = ((request, is), tt)

good_hop : (related : Option Message) (subject : Subject) (hop : RecordedHop) (steps : List Rewrite) (m : Message) → IsScriptItem hop.script steps
    → IsWhole (reading_of related (role_of subject)) hop.message m → AllByRecursion (IsGood related) (hop_items subject hop)
good_hop related subject hop steps m reads is =
    all_joined (IsGood related) (moment_items hop.moment) (stored script hop.script ∷ message_item subject hop.message ∷ [])
    (good_moment related hop.moment) ((steps, reads), (good_message related subject hop.message m is, tt))

good_hops : (related : Option Message) (subject : Subject) (hops : List RecordedHop) (values : List Hop)
    → AllZip (IsHop (reading_of related (role_of subject))) hops values → AllByRecursion (IsGood related) (flat_map (hop_items subject) hops)
good_hops related subject [] [] are = tt
good_hops related subject (hop ∷ hops) [] are = absurd are
good_hops related subject [] (value ∷ values) are = tt
good_hops related subject (hop ∷ hops) (value ∷ values) are =
    all_joined (IsGood related) (hop_items subject hop) (flat_map (hop_items subject) hops)
    (good_hop related subject hop value.script value.message are.0.script are.0.message) (good_hops related subject hops values are.1)

good_items : (chain : RecordedChain) (values : Chain) → IsChainOf chain values → AllByRecursion (IsGood values.related) (chain_items chain)
good_items chain values are = (
  tt,
  all_joined (IsGood values.related) (related_items chain.subject) (message_item chain.subject chain.first ∷ flat_map (hop_items chain.subject) chain.hops)
      (good_related chain.subject values.related are.related)
      (good_message values.related chain.subject chain.first values.message are.message, good_hops values.related chain.subject chain.hops values.hops are.hops),
)

-- all items are clean
pub all_clean : (items : List PlacedItem) (chain : RecordedChain) (values : Chain) → IsChain items chain → length chain.hops ≤ MAX_HOPS → IsChainOf chain values
    → IsClean items chain (length (chain_items chain))
all_clean items chain values is few are =
    let e : 0 + length (chain_items chain) ≡ length (chain_items chain) = omega arith in
    subst (λ (n : ℕ). IsClean items chain n) e
    (clean_part items chain values.related (answers_known chain.subject values.related are.related) (chain_items chain) [] []
    (sym (append-nil (chain_items chain))) (good_items chain values are) (clean_begins items chain is few))

pub no_fault_where_audited : HaveNoFaultWhereAudited
no_fault_where_audited conf items lines fault audit is =
    no_fault items audit.1.recorded (all_clean items audit.1.recorded audit.0 audit.1.is audit.1.few audit.1.values) fault is.holds

-- ---- values, or a fault

answers_of : (subject : Subject) (related : Option Message) → IsKnownRequest subject related → AllByRecursion (IsGood related) (related_items subject) → AnswersRequest subject related
answers_of requests None known good = refl
answers_of requests (Some request) known good = known
answers_of (responses None) None known good = refl
answers_of (responses None) (Some request) known good = known
answers_of (responses (Some text)) None known good = absurd (known good.0.0 good.0.1)
answers_of (responses (Some text)) (Some request) known good = known

message_of_good : (related : Option Message) (subject : Subject) (text : List ℕ) → IsGood related (message_item subject text)
    → (m : Message) × IsWhole (reading_of related (role_of subject)) text m
message_of_good related requests text good = good
message_of_good related (responses answered) text good = good

hops_of_good : (related : Option Message) (subject : Subject) (hops : List RecordedHop) → AllByRecursion (IsGood related) (flat_map (hop_items subject) hops)
    → (values : List Hop) × AllZip (IsHop (reading_of related (role_of subject))) hops values
hops_of_good related subject [] good = ([], tt)
hops_of_good related subject (hop ∷ hops) good =
    let parts = all_parts (IsGood related) (hop_items subject hop) (flat_map (hop_items subject) hops) good in
    let own = all_parts (IsGood related) (moment_items hop.moment) (stored script hop.script ∷ message_item subject hop.message ∷ []) parts.0 in
    let came = message_of_good related subject hop.message own.1.1.0 in
    let more = hops_of_good related subject hops parts.1 in
    let value : Hop = record { moment = hop.moment; script = own.1.0.0; message = came.0 } in
    (value ∷ more.0, (record { moment = refl; script = own.1.0.1; message = came.1 }, more.1))

values_of_good : (chain : RecordedChain) (related : Option Message) → IsKnownRequest chain.subject related → AllByRecursion (IsGood related) (chain_items chain)
    → (values : Chain) × IsChainOf chain values
values_of_good chain related known good =
    let parts = all_parts (IsGood related) (related_items chain.subject) (message_item chain.subject chain.first ∷ flat_map (hop_items chain.subject) chain.hops) good.1 in
    let first = message_of_good related chain.subject chain.first parts.1.0 in
    let hops = hops_of_good related chain.subject chain.hops parts.1.1 in
    let values : Chain = record { moment = chain.moment; related = related; message = first.0; hops = hops.0 } in
    (values, record { moment = refl; related = answers_of chain.subject related known parts.0; message = first.1; hops = hops.1 })

-- the request is read, or can't be
known_request : (subject : Subject) (rest : List Body) → All IsShort (related_items subject ++ rest) → (related : Option Message) × IsKnownRequest subject related
known_request requests rest short = (None, λ request e. absurd cc)
known_request (responses None) rest short = (None, λ request e. absurd cc)
known_request (responses (Some text)) rest short = elim (is_whole_or_not one_request text (All-head IsShort (stored (message Related) text) rest short)) [
  | inl found ↦ (Some found.0, found.1)
  | inr bad ↦ (None, λ request is. no_fault_of_whole one_request text request bad.0 is bad.1)
]

-- the item is good, or its fault is the first
good_or_fault : (items : List PlacedItem) (chain : RecordedChain) (related : Option Message) (n : ℕ) (body : Body)
    → IsKnownRequest chain.subject related → IsClean items chain n → SaysAt chain n body → IsShort body
    → IsGood related body ⊎ ((fault : ChainFault) × IsChainFault items fault)
good_or_fault items chain related n (moment seconds) known clean there short = inl tt
good_or_fault items chain related n (stored (message role) text) known clean there short = elim (is_whole_or_not (reading_of related role) text short) [
  | inl found ↦ inl found
  | inr bad ↦ inr (NoMessage n bad.0, fault_here_message items chain related n role text bad.0 clean known there bad.1)
]
good_or_fault items chain related n (stored script text) known clean there short = elim (cases_lt MAX_SCRIPT_BYTES (length text)) [
  | inl long ↦ inr (ScriptTooLong n, long_here items chain n text clean there long)
  | inr within ↦ elim (has_script_or_fault text) [
    | inl found ↦ inl (found.0, (within, found.1))
    | inr bad ↦ inr (NoScript n bad.0, fault_here_script items chain n text bad.0 clean there within bad.1)
  ]
]

part_or_fault : (items : List PlacedItem) (chain : RecordedChain) (related : Option Message) → IsKnownRequest chain.subject related
    → (part before : List Body) → chain_items chain ≡ before ++ part → All IsShort part → IsClean items chain (length before)
    → AllByRecursion (IsGood related) part ⊎ ((fault : ChainFault) × IsChainFault items fault)
part_or_fault items chain related known [] before cut short clean = inl tt
part_or_fault items chain related known (body ∷ part) before cut short clean =
    go (λ next. part_or_fault items chain related known part (before ++ body ∷ []) (cut ∙ sym (append_assoc before (body ∷ []) part)) (All-tail IsShort body part short) next)
    (good_or_fault items chain related (length before) body known clean there (All-head IsShort body part short))
  where
    there : SaysAt chain (length before) body
    there = subst (λ (all : List Body). slice_get all (length before) ≡ Some body) (sym cut) (slice_get_at before body part)

    next_clean : IsGood related body → IsClean items chain (length (before ++ body ∷ []))
    next_clean good =
        let count = length-append before (body ∷ []) in
        let one : length before + 1 ≡ length (before ++ body ∷ []) = omega arith in
        subst (λ (n : ℕ). IsClean items chain n) one (clean_more items chain related (length before) body clean known there good)

    go : (IsClean items chain (length (before ++ body ∷ [])) → AllByRecursion (IsGood related) part ⊎ ((fault : ChainFault) × IsChainFault items fault))
        → IsGood related body ⊎ ((fault : ChainFault) × IsChainFault items fault) → AllByRecursion (IsGood related) (body ∷ part) ⊎ ((fault : ChainFault) × IsChainFault items fault)
    go rest (inr bad) = inr bad
    go rest (inl good) = elim (rest (next_clean good)) [
      | inl more ↦ inl (good, more)
      | inr bad ↦ inr bad
    ]

-- a chain of short items has values, or a fault
pub values_or_fault : (items : List PlacedItem) (chain : RecordedChain) → IsChain items chain → length chain.hops ≤ MAX_HOPS → All IsShort (bodies items)
    → ((values : Chain) × IsChainOf chain values) ⊎ ((fault : ChainFault) × IsChainFault items fault)
values_or_fault items chain is few short =
    elim (part_or_fault items chain request.0 request.1 (chain_items chain) [] refl all (clean_begins items chain is few)) [
      | inl good ↦ inl (values_of_good chain request.0 request.1 good)
      | inr bad ↦ inr bad
    ]
  where
    all : All IsShort (chain_items chain)
    all = subst (λ (said : List Body). All IsShort said) is short

    request : (related : Option Message) × IsKnownRequest chain.subject related
    request = known_request chain.subject (message_item chain.subject chain.first ∷ flat_map (hop_items chain.subject) chain.hops)
        (All-tail IsShort (moment chain.moment) (related_items chain.subject ++ (message_item chain.subject chain.first ∷ flat_map (hop_items chain.subject) chain.hops)) all)

-- ---- the messages before the hops

first_said : (chain : RecordedChain) → SaysAt chain (1 + length (related_items chain.subject)) (message_item chain.subject chain.first)
first_said chain =
    let count : length (moment chain.moment ∷ related_items chain.subject) ≡ 1 + length (related_items chain.subject) = omega arith in
    subst (λ (n : ℕ). SaysAt chain n (message_item chain.subject chain.first)) count
    (slice_get_at (moment chain.moment ∷ related_items chain.subject) (message_item chain.subject chain.first) (flat_map (hop_items chain.subject) chain.hops))

pub clean_first : (items : List PlacedItem) (chain : RecordedChain) (related : Option Message) → IsChain items chain → length chain.hops ≤ MAX_HOPS
    → AnswersRequest chain.subject related → IsClean items chain (1 + length (related_items chain.subject))
clean_first items chain related is few answers =
    let count : 0 + length (moment chain.moment ∷ related_items chain.subject) ≡ 1 + length (related_items chain.subject) = omega arith in
    subst (λ (n : ℕ). IsClean items chain n) count
    (clean_part items chain related (answers_known chain.subject related answers) (moment chain.moment ∷ related_items chain.subject) []
    (message_item chain.subject chain.first ∷ flat_map (hop_items chain.subject) chain.hops) refl
    (tt, good_related chain.subject related answers) (clean_begins items chain is few))

pub clean_hops : (items : List PlacedItem) (chain : RecordedChain) (related : Option Message) (m : Message)
    → IsClean items chain (1 + length (related_items chain.subject)) → AnswersRequest chain.subject related
    → IsWhole (reading_of related (role_of chain.subject)) chain.first m → IsClean items chain (length (items_up_to chain 0))
clean_hops items chain related m clean answers is =
    let count = length-append (related_items chain.subject) (message_item chain.subject chain.first ∷ []) in
    let e : 1 + length (related_items chain.subject) + 1 ≡ length (items_up_to chain 0) = omega arith in
    subst (λ (n : ℕ). IsClean items chain n) e
    (clean_more items chain related (1 + length (related_items chain.subject)) (message_item chain.subject chain.first) clean
    (answers_known chain.subject related answers) (first_said chain) (good_message related chain.subject chain.first m is))

-- the request isn't read
pub fault_of_related : (items : List PlacedItem) (chain : RecordedChain) (text : List ℕ) (fault : MessageFault) → IsChain items chain → length chain.hops ≤ MAX_HOPS
    → chain.subject ≡ responses (Some text) → IsMessageFault one_request text fault → IsChainFault items (NoMessage 1 fault)
fault_of_related items chain text fault is few subject bad =
    fault_here_message items chain None 1 Related text fault
    (clean_more items chain None 0 (moment chain.moment) (clean_begins items chain is few) known refl tt)
    known (subst (λ (s : Subject). slice_get (moment chain.moment ∷ (related_items s ++ (message_item chain.subject chain.first ∷ flat_map (hop_items chain.subject) chain.hops))) 1 ≡ Some (stored (message Related) text)) (sym subject) refl)
    bad
  where
    known : IsKnownRequest chain.subject None
    known = subst (λ (s : Subject). IsKnownRequest s None) (sym subject) (λ request whole. no_fault_of_whole one_request text request fault whole bad)

-- the item of a message of the chain has its role
role_item : (subject : Subject) (text : List ℕ) → message_item subject text ≡ stored (message (role_of subject)) text
role_item requests text = refl
role_item (responses related) text = refl

-- message 0 isn't read
pub fault_of_first : (items : List PlacedItem) (chain : RecordedChain) (related : Option Message) (fault : MessageFault)
    → IsClean items chain (1 + length (related_items chain.subject)) → AnswersRequest chain.subject related
    → IsMessageFault (reading_of related (role_of chain.subject)) chain.first fault → IsChainFault items (NoMessage (1 + length (related_items chain.subject)) fault)
fault_of_first items chain related fault clean answers bad =
    fault_here_message items chain related (1 + length (related_items chain.subject)) (role_of chain.subject) chain.first fault clean
    (answers_known chain.subject related answers)
    (subst (λ (b : Body). SaysAt chain (1 + length (related_items chain.subject)) b) (role_item chain.subject chain.first) (first_said chain)) bad

-- ---- a hop

-- the script of a hop comes after its moment
script_cut : (chain : RecordedChain) (k : ℕ) (hop : RecordedHop) → slice_get chain.hops k ≡ Some hop
    → chain_items chain ≡ items_up_to chain k ++ (moment_items hop.moment
    ++ (stored script hop.script ∷ message_item chain.subject hop.message ∷ flat_map (hop_items chain.subject) (drop (k + 1) chain.hops)))
script_cut chain k hop there =
    let rest = flat_map (hop_items chain.subject) (drop (k + 1) chain.hops) in
    let own : List Body = stored script hop.script ∷ message_item chain.subject hop.message ∷ [] in
    items_around_hop chain k hop there ∙ ap (λ all. items_up_to chain k ++ all) (append_assoc (moment_items hop.moment) own rest)

-- the items before the script of a hop are clean
pub clean_script : (items : List PlacedItem) (chain : RecordedChain) (related : Option Message) (k : ℕ) (hop : RecordedHop)
    → IsClean items chain (length (items_up_to chain k)) → AnswersRequest chain.subject related → slice_get chain.hops k ≡ Some hop
    → IsClean items chain (length (items_up_to chain k) + length (moment_items hop.moment))
clean_script items chain related k hop clean answers there =
    clean_part items chain related (answers_known chain.subject related answers) (moment_items hop.moment) (items_up_to chain k)
    (stored script hop.script ∷ message_item chain.subject hop.message ∷ flat_map (hop_items chain.subject) (drop (k + 1) chain.hops))
    (script_cut chain k hop there) (good_moment related hop.moment) clean

-- so are those before its message, where the script is one
pub clean_message : (items : List PlacedItem) (chain : RecordedChain) (related : Option Message) (k : ℕ) (hop : RecordedHop) (steps : List Rewrite)
    → IsClean items chain (length (items_up_to chain k)) → AnswersRequest chain.subject related → slice_get chain.hops k ≡ Some hop → IsScriptItem hop.script steps
    → IsClean items chain (length (items_up_to chain k) + length (moment_items hop.moment) + 1)
clean_message items chain related k hop steps clean answers there reads =
    clean_more items chain related (script_index chain k hop) (stored script hop.script) (clean_script items chain related k hop clean answers there)
    (answers_known chain.subject related answers) (script_there chain k hop there) (steps, reads)

-- and those before the next hop, where the message is one
pub clean_hop : (items : List PlacedItem) (chain : RecordedChain) (related : Option Message) (k : ℕ) (hop : RecordedHop) (steps : List Rewrite) (m : Message)
    → IsClean items chain (length (items_up_to chain k)) → AnswersRequest chain.subject related → slice_get chain.hops k ≡ Some hop → IsScriptItem hop.script steps
    → IsWhole (reading_of related (role_of chain.subject)) hop.message m → IsClean items chain (length (items_up_to chain (k + 1)))
clean_hop items chain related k hop steps m clean answers there reads is =
    let next = items_up_to-more chain k hop there in
    let own = hop_items-length chain.subject hop in
    let count : length (items_up_to chain k) + length (hop_items chain.subject hop) ≡ length (items_up_to chain (k + 1)) = omega arith in
    subst (λ (n : ℕ). IsClean items chain n) count
    (clean_part items chain related (answers_known chain.subject related answers) (hop_items chain.subject hop) (items_up_to chain k)
    (flat_map (hop_items chain.subject) (drop (k + 1) chain.hops)) (items_around_hop chain k hop there) (good_hop related chain.subject hop steps m reads is) clean)

-- the script isn't read
pub fault_of_script : (items : List PlacedItem) (chain : RecordedChain) (related : Option Message) (k : ℕ) (hop : RecordedHop) (fault : ScriptFault)
    → IsClean items chain (length (items_up_to chain k)) → AnswersRequest chain.subject related → slice_get chain.hops k ≡ Some hop
    → length hop.script ≤ MAX_SCRIPT_BYTES → IsScriptFault hop.script fault
    → IsChainFault items (NoScript (length (items_up_to chain k) + length (moment_items hop.moment)) fault)
fault_of_script items chain related k hop fault clean answers there within bad =
    fault_here_script items chain (script_index chain k hop) hop.script fault (clean_script items chain related k hop clean answers there) (script_there chain k hop there) within bad

-- the script is too long
pub long_script : (items : List PlacedItem) (chain : RecordedChain) (related : Option Message) (k : ℕ) (hop : RecordedHop)
    → IsClean items chain (length (items_up_to chain k)) → AnswersRequest chain.subject related → slice_get chain.hops k ≡ Some hop
    → MAX_SCRIPT_BYTES < length hop.script
    → IsChainFault items (ScriptTooLong (length (items_up_to chain k) + length (moment_items hop.moment)))
long_script items chain related k hop clean answers there long =
    long_here items chain (script_index chain k hop) hop.script (clean_script items chain related k hop clean answers there) (script_there chain k hop there) long

-- the message isn't read
pub fault_of_message : (items : List PlacedItem) (chain : RecordedChain) (related : Option Message) (k : ℕ) (hop : RecordedHop) (steps : List Rewrite) (fault : MessageFault)
    → IsClean items chain (length (items_up_to chain k)) → AnswersRequest chain.subject related → slice_get chain.hops k ≡ Some hop → IsScriptItem hop.script steps
    → IsMessageFault (reading_of related (role_of chain.subject)) hop.message fault
    → IsChainFault items (NoMessage (length (items_up_to chain k) + length (moment_items hop.moment) + 1) fault)
fault_of_message items chain related k hop steps fault clean answers there reads bad =
    fault_here_message items chain related (script_index chain k hop + 1) (role_of chain.subject) hop.message fault
    (clean_message items chain related k hop steps clean answers there reads) (answers_known chain.subject related answers)
    (subst (λ (b : Body). SaysAt chain (script_index chain k hop + 1) b) (role_item chain.subject hop.message) (message_there chain k hop there)) bad
