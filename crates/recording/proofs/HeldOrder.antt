-- What the code takes of the items one by one, and what it answers for their order.
use Rattle.std.proofs.Common.{◌≡◌, ◌≢◌, ◌<◌, ◌≤◌, ◌+◌, ◌-◌, min, ℕ, Bool, true, false, not, Bor, Option, Some, None, option_map, List, [], ◌∷◌, ◌++◌, length, take, drop, map, Ok, Err, refl, sym, ap, subst, ◌∙◌, inl, inr, arith, rules}
use denote.Enum.Bare.{sameb, same_false, same_true}
use Rattle.std.specs.Prelude.{IfNone, IfSome, slice_get}
use Rattle.std.specs.List.{flat_map}
use Rattle.std.proofs.lemmas.Bool.{cases_lt}
use Rattle.std.proofs.lemmas.List.{append_assoc, append-nil, length-append, length-map, length-take, length-drop, take_all, take_at, take-append-le, drop_all, map_push}
use Rattle.std.proofs.lemmas.Option.{slice_get_within, slice_get-map, same_Some}
use Rattle.recording.specs.declared.item.Role.TheVariants.{Request, Response, Related}
use Rattle.recording.specs.declared.item.Role.{Role}
use Rattle.recording.specs.contracts.item.Role.{the_type}
use Rattle.recording.specs.declared.item.ItemBody.{ItemBody}
use Rattle.recording.specs.declared.item.ItemBody.TheVariants.{At, Message, Script}
use Rattle.recording.specs.Items.{Body, moment, stored, message, script, PlacedItem, body_of}
use Rattle.recording.specs.Recordings.{bodies}
use Rattle.recording.specs.declared.chain.OrderFault.{OrderFault}
use Rattle.recording.specs.declared.chain.OrderFault.TheVariants.{Memory, Order, TooManyHops}
use Rattle.recording.specs.declared.limits.TheConstants.{MAX_HOPS}
use Rattle.recording.specs.declared.chain.RecordedHop.{RecordedHop as HeldHop}
use Rattle.recording.specs.declared.chain.Subject.{Subject as HeldSubject}
use Rattle.recording.specs.declared.chain.RecordedChain.{RecordedChain as HeldChain}
use Rattle.recording.specs.Chains.{Subject, RecordedHop, RecordedChain, role_of, moment_items, related_items, message_item, hop_items, chain_items}
use Rattle.recording.specs.RecordedChains.{chain_meant, hop_meant, script_index, subject_meant}
use Rattle.recording.specs.tools.Ordered.{AreAfterMoment, AreChain, AreHops, AreHopsOf, HasKind, HeldItems, IsAfter, IsMoment, IsNextHop, LacksNext, SaysHops, SaysOrder, Stops, StopsAt, Takes, TakesFirst, TakesNone, bodies_left}
use Rattle.recording.proofs.AheadLaws.{past_of}
use Rattle.recording.proofs.OneChain.{drop_some, slice_get_at, slice_get-append_left, hop_items-length, hops_items-append}
use Rattle.recording.proofs.Stopping.{chain_down, chain_up, head_same, message_script, moment_stored, same_message_role, some_list_none, stored_kind, stored_moment, first_down, first_missing, first_up, head_items, hops_down, hops_up, message_missing, nil_cons, script_missing, some_none, stops_after}
use Rattle.recording.proofs.OrderFaults.{order_fault}

-- ---- the next item

said : (items : List PlacedItem) (n : ℕ) (item : PlacedItem) → slice_get items n ≡ Some item → slice_get (bodies items) n ≡ Some item.body
said items n item there =
    slice_get-map (λ (i : PlacedItem). i.body) items n ∙ ap (λ (o : Option PlacedItem). option_map (λ (i : PlacedItem). i.body) o) there

-- what is left from an item on
pub left_some : (items : List PlacedItem) (n : ℕ) (item : PlacedItem) → slice_get items n ≡ Some item
    → drop n (bodies items) ≡ item.body ∷ drop (n + 1) (bodies items)
left_some items n item there = drop_some (bodies items) n item.body (said items n item there)

bodies-length : (items : List PlacedItem) → length (bodies items) ≡ length items
bodies-length items = length-map items (λ (i : PlacedItem). i.body)

-- nothing is left after the last item
pub left_none : (items : List PlacedItem) (n : ℕ) → length items ≤ n → drop n (bodies items) ≡ []
left_none items n past = drop_all n (bodies items) (omega (arith, bodies-length items))

pub left_of : (items : List PlacedItem) (n : ℕ) → n < length items → drop n (bodies items) ≢ []
left_of items n within e =
    omega (arith, length-drop n (bodies items), bodies-length items, ap (λ (x : List Body). length x) e)

pub take_one : (was : HeldItems) (item : PlacedItem) (body : Body) → slice_get was.items was.taken ≡ Some item → item.body ≡ body
    → Takes body was (record { items = was.items; taken = was.taken + 1 })
take_one was item body there is = record {
  items = refl;
  taken = refl;
  next = left_some was.items was.taken item there ∙ ap (λ (b : Body). b ∷ drop (was.taken + 1) (bodies was.items)) is;
}

pub take_none : (IsSuch : Body → Type 0) (was : HeldItems) (item : PlacedItem) → slice_get was.items was.taken ≡ Some item → ¬ IsSuch item.body
    → TakesNone IsSuch was was
take_none IsSuch was item there not = record {
  same = refl;
  lacks = λ body others e is.
      let same : body ≡ item.body = head_same body item.body others (drop (was.taken + 1) (bodies was.items)) (sym e ∙ left_some was.items was.taken item there) in
      not (subst IsSuch same is);
}

pub take_past : (IsSuch : Body → Type 0) (was : HeldItems) → slice_get was.items was.taken ≡ None → TakesNone IsSuch was was
take_past IsSuch was none = record {
  same = refl;
  lacks = λ body others e is. nil_cons body others (sym (left_none was.items was.taken (past_of was.items was.taken none)) ∙ e);
}

pub not_moment : (said : ItemBody) → ((seconds : ℕ) → said ≡ At seconds → ⊥) → ¬ IsMoment (body_of said)
not_moment (At seconds) not is = not seconds refl
not_moment (Message role text) not is = stored_moment (message role) text.now (stored (message role) text.now) is.0 refl is.1
not_moment (Script text) not is = stored_moment script text.now (stored script text.now) is.0 refl is.1

pub not_script_item : (said : ItemBody) → ((text : Bor (List ℕ)) → said ≡ Script text → ⊥) → ¬ HasKind script (body_of said)
not_script_item (At seconds) not is = moment_stored seconds (moment seconds) script is.0 refl is.1
not_script_item (Message role text) not is = message_script role (stored_kind (message role) script text.now is.0 is.1)
not_script_item (Script text) not is = not text refl

pub not_message_item : (role : Role) (said : ItemBody) → ((own : Role) (text : Bor (List ℕ)) → said ≡ Message own text → ⊥) → ¬ HasKind (message role) (body_of said)
not_message_item role (At seconds) not is = moment_stored seconds (moment seconds) (message role) is.0 refl is.1
not_message_item role (Message own text) not is = not own text refl
not_message_item role (Script text) not is = message_script role (sym (stored_kind script (message role) text.now is.0 is.1))

pub not_of_role : (role own : Role) (text : Bor (List ℕ)) (said : ItemBody) → said ≡ Message own text → ¬ (own ≡ role) → ¬ HasKind (message role) (body_of said)
not_of_role role own text said e apart is =
    apart (same_message_role own role (stored_kind (message own) (message role) text.now is.0 (sym (ap body_of e) ∙ is.1)))

true_false : ¬ (true ≡ false)
true_false e = absurd cc

not_true : (b : Bool) → not b ≡ true → b ≡ false
not_true true e = absurd cc
not_true false e = refl

not_false : (b : Bool) → not b ≡ false → b ≡ true
not_false true e = refl
not_false false e = absurd cc

pub role_apart : (own role : Role) (ne : Bool) → ne ≡ not (sameb the_type own role) → ne ≡ true → ¬ (own ≡ role)
role_apart own role ne is set = same_false the_type own role (not_true (sameb the_type own role) (sym is ∙ set))

pub role_same : (own role : Role) (ne : Bool) → ne ≡ not (sameb the_type own role) → ne ≡ false → own ≡ role
role_same own role ne is unset = same_true the_type (search rules) own role (not_false (sameb the_type own role) (sym is ∙ unset))

-- ---- the first message

-- the item of the request that is answered was taken, or there is none
pub record TakesRelated (found : Option (Bor (List ℕ))) (was now : HeldItems) : Type 0 where
  pub some : IfSome found (λ text. Takes (stored (message Related) text.now) was now)
  pub none : IfNone found (TakesNone (HasKind (message Related)) was now)

first_stops : (was mid : HeldItems) (related : Option (Bor (List ℕ))) → TakesNone (HasKind (message Request)) was was → TakesRelated related was mid
    → TakesNone (HasKind (message Response)) mid mid → StopsAt AreAfterMoment was mid
first_stops was mid None no_request related no_response = record {
  items = ap (λ (h : HeldItems). h.items) related.none.same;
  stops = first_missing None (bodies_left was) (bodies_left mid) (sym (ap bodies_left related.none.same)) no_request.lacks (λ e. related.none.lacks) no_response.lacks;
}
first_stops was mid (Some text) no_request related no_response = record {
  items = related.some.items;
  stops = first_missing (Some text.now) (bodies_left was) (bodies_left mid) related.some.next no_request.lacks (λ e. absurd (some_list_none text.now e)) no_response.lacks;
}

-- nothing is taken where nothing is there, so what was and what is are the same
stays : (IsSuch : Body → Type 0) (was now : HeldItems) → TakesNone IsSuch was now → TakesNone IsSuch was was
stays IsSuch was now none = record { same = refl; lacks = none.lacks }

pub first_fails : (was first mid late : HeldItems) (related : Option (Bor (List ℕ))) → TakesNone (HasKind (message Request)) was first → TakesRelated related first mid
    → TakesNone (HasKind (message Response)) mid late → StopsAt AreAfterMoment was late
first_fails was first mid late related no_request taken no_response =
    subst (λ (h : HeldItems). StopsAt AreAfterMoment was h) (sym no_response.same)
    (first_stops was mid related (stays (HasKind (message Request)) was first no_request) (subst (λ (h : HeldItems). TakesRelated related h mid) no_request.same taken) (stays (HasKind (message Response)) mid late no_response))

-- ---- the next hop

-- the moment was taken, or there is none
pub record TakesMoment (found : Option ℕ) (was now : HeldItems) : Type 0 where
  pub some : IfSome found (λ seconds. Takes (moment seconds) was now)
  pub none : IfNone found (TakesNone IsMoment was now)

-- what is taken of the moment of a hop
record OfMoment (m : Option ℕ) (was mid : HeldItems) : Type 0 where
  items : mid.items ≡ was.items
  joined : bodies_left was ≡ moment_items m ++ bodies_left mid
  no_moment : m ≡ None → LacksNext IsMoment (bodies_left mid)

of_moment : (m : Option ℕ) (was mid : HeldItems) → TakesMoment m was mid → OfMoment m was mid
of_moment None was mid t = record {
  items = ap (λ (h : HeldItems). h.items) t.none.same;
  joined = sym (ap bodies_left t.none.same);
  no_moment = λ e. subst (LacksNext IsMoment) (sym (ap bodies_left t.none.same)) t.none.lacks;
}
of_moment (Some seconds) was mid t = record {
  items = t.some.items;
  joined = t.some.next;
  no_moment = λ e. absurd (some_none seconds e);
}

pub no_script : (subject : Subject) (m : Option ℕ) (was mid late : HeldItems) → was.taken < length was.items → TakesMoment m was mid
    → TakesNone (HasKind script) mid late → StopsAt (AreHops subject) was late
no_script subject m was mid late within t none =
    let of = of_moment m was mid t in
    subst (λ (h : HeldItems). StopsAt (AreHops subject) was h) (sym none.same) record {
      items = of.items;
      stops = script_missing subject m (bodies_left was) (bodies_left mid) of.joined of.no_moment none.lacks (left_of was.items was.taken within);
    }

pub no_message : (subject : Subject) (m : Option ℕ) (text : List ℕ) (role : Role) (was mid last late : HeldItems) → TakesMoment m was mid
    → Takes (stored script text) mid last → role ≡ role_of subject → TakesNone (HasKind (message role)) last late → StopsAt (AreHops subject) was late
no_message subject m text role was mid last late t own is none =
    let of = of_moment m was mid t in
    subst (λ (h : HeldItems). StopsAt (AreHops subject) was h) (sym none.same) record {
      items = own.items ∙ of.items;
      stops = message_missing subject m text (bodies_left was) (bodies_left last) (of.joined ∙ ap (λ (x : List Body). moment_items m ++ x) own.next)
          (subst (λ (r : Role). LacksNext (HasKind (message r)) (bodies_left last)) is none.lacks);
    }

-- ---- hops so far

module _ (subject : Subject) (was : HeldItems) where
  abbrev H : List RecordedHop → List Body
  H hops = flat_map (hop_items subject) hops

  module _ (hops : List HeldHop) (is_long : Bool) (mid now : HeldItems) (hop : HeldHop) (so : AreHopsOf subject hops is_long was mid) (next : IsNextHop subject hop mid now) where
    abbrev all : List RecordedHop
    all = so.all ++ (hop_meant hop ∷ [])

    more_are : bodies_left was ≡ H all ++ bodies_left now
    more_are =
        so.are ∙ ap (λ (x : List Body). H so.all ++ x) next.first
        ∙ sym (append_assoc (H so.all) (hop_items subject (hop_meant hop)) (bodies_left now))
        ∙ ap (λ (x : List Body). (H so.all ++ x) ++ bodies_left now) (sym (append-nil (hop_items subject (hop_meant hop))))
        ∙ ap (λ (x : List Body). x ++ bodies_left now) (sym (hops_items-append subject so.all (hop_meant hop ∷ [])))

    more_length : length (H all) ≡ length (H so.all) + length (moment_items hop.moment) + 2
    more_length = omega (
      arith,
      ap (λ (x : List Body). length x) (hops_items-append subject so.all (hop_meant hop ∷ [])),
      length-append (H so.all) (H (hop_meant hop ∷ [])),
      ap (λ (x : List Body). length x) (append-nil (hop_items subject (hop_meant hop))),
      hop_items-length subject (hop_meant hop),
    )

    more_taken : now.taken ≡ was.taken + length (H all)
    more_taken = omega (arith, more_length, next.taken, next.item, so.taken)

    kept_length : length hops ≡ min MAX_HOPS (length so.all)
    kept_length = sym (length-map hops hop_meant) ∙ ap (λ (x : List RecordedHop). length x) so.kept ∙ length-take MAX_HOPS so.all

    place_before : (index : ℕ) (own : HeldHop) → slice_get hops index ≡ Some own
        → own.item ≡ was.taken + length (H (take index all)) + length (moment_items own.moment)
    place_before index own there =
        let within = slice_get_within hops index own there in
        let same : take index all ≡ take index so.all = take-append-le index so.all (hop_meant hop ∷ []) (omega (arith, kept_length)) in
        so.places index own there ∙ ap (λ (x : List RecordedHop). was.taken + length (H x) + length (moment_items own.moment)) (sym same)

    pub long_hop : MAX_HOPS ≤ length hops → AreHopsOf subject hops true was now
    long_hop full = record {
      items = next.items ∙ so.items;
      all = all;
      are = more_are;
      taken = more_taken;
      kept = so.kept ∙ sym (take-append-le MAX_HOPS so.all (hop_meant hop ∷ []) (omega (arith, kept_length)));
      places = place_before;
      long = λ e. omega (arith, kept_length, length-append so.all (hop_meant hop ∷ []));
      few = λ e. absurd (true_false e);
    }

    few_so : length hops < MAX_HOPS → length so.all ≡ length hops
    few_so less = omega (arith, kept_length)

    place_here : (index : ℕ) (own : HeldHop) → length hops < MAX_HOPS → slice_get (hops ++ (hop ∷ [])) index ≡ Some own
        → own.item ≡ was.taken + length (H (take index all)) + length (moment_items own.moment)
    place_here index own less there = elim (cases_lt index (length hops)) [
      | inl before ↦ place_before index own (sym (slice_get-append_left hops (hop ∷ []) index before) ∙ there)
      | inr past ↦
          let within = slice_get_within (hops ++ (hop ∷ [])) index own there in
          let last : index ≡ length hops = omega (arith, length-append hops (hop ∷ [])) in
          let found : Some hop ≡ Some own = sym (slice_get_at hops hop []) ∙ ap (λ (n : ℕ). slice_get (hops ++ (hop ∷ [])) n) (sym last) ∙ there in
          let same : hop ≡ own = same_Some hop own found in
          let first : take index all ≡ so.all = take_at so.all (hop_meant hop ∷ []) index (few_so less ∙ sym last) in
          let place : hop.item ≡ was.taken + length (H so.all) + length (moment_items hop.moment) = omega (arith, next.item, so.taken) in
          subst (λ (h : HeldHop). h.item ≡ was.taken + length (H (take index all)) + length (moment_items h.moment)) same
          (place ∙ ap (λ (x : List RecordedHop). was.taken + length (H x) + length (moment_items hop.moment)) (sym first))
    ]

    pub more_hop : length hops < MAX_HOPS → AreHopsOf subject (hops ++ (hop ∷ [])) is_long was now
    more_hop less = record {
      items = next.items ∙ so.items;
      all = all;
      are = more_are;
      taken = more_taken;
      kept = map_push hop_meant hops hop
          ∙ ap (λ (x : List RecordedHop). x ++ (hop_meant hop ∷ [])) (so.kept ∙ take_all MAX_HOPS so.all (omega (arith, few_so less)))
          ∙ sym (take_all MAX_HOPS all (omega (arith, few_so less, length-append so.all (hop_meant hop ∷ []))));
      places = λ index own there. place_here index own less there;
      long = λ e. absurd (omega (arith, few_so less, so.long e));
      few = λ e. omega (arith, few_so less, length-append so.all (hop_meant hop ∷ []));
    }

  -- hops that aren't in order after some that are
  pub hops_fail : (hops : List HeldHop) (is_long : Bool) (mid now : HeldItems) → AreHopsOf subject hops is_long was mid → StopsAt (AreHops subject) mid now → StopsAt (AreHops subject) was now
  hops_fail hops is_long mid now so fail = record {
    items = fail.items ∙ so.items;
    stops = stops_after (AreHops subject) (AreHops subject) (H so.all) (bodies_left was) (bodies_left mid) (bodies_left now) so.are (hops_down subject so.all) (hops_up subject so.all) fail.stops;
  }

-- what is answered for them
pub says_fault : (subject : Subject) (was now : HeldItems) (fault : OrderFault) → StopsAt (AreHops subject) was now → IsAfter now fault → SaysHops subject was now (Err fault)
says_fault subject was now Memory fail after = tt
says_fault subject was now (Order offset) fail after = (fail, after)
says_fault subject was now TooManyHops fail after = (fail, after)

-- ---- the chain

-- items that are of no chain where they stop
chain_fault : (left : HeldItems) (fault : OrderFault) → Stops AreChain (bodies left.items) (bodies_left left) → IsAfter left fault
    → SaysOrder left.items (Err fault)
chain_fault left fault s after =
    subst (λ (f : OrderFault). SaysOrder left.items (Err f)) (sym after.fault_is)
    (order_fault left.items left.taken s after.index after.item after.there after.next after.last)

-- a chain of which the moment was taken
module _ (start a : HeldItems) (seconds : ℕ) (at_start : start.taken ≡ 0) (own : Takes (moment seconds) start a) where
  abbrev items : List PlacedItem
  items = start.items

  all_left : bodies items ≡ bodies_left start
  all_left = ap (λ (n : ℕ). drop n (bodies items)) (sym at_start)

  pub first_answer : (b : HeldItems) (fault : OrderFault) → StopsAt AreAfterMoment a b → IsAfter b fault → SaysOrder items (Err fault)
  first_answer b fault fail after =
      let same : b.items ≡ start.items = fail.items ∙ own.items in
      let s : Stops AreChain (bodies items) (bodies_left b) = stops_after AreChain AreAfterMoment (moment seconds ∷ []) (bodies items) (bodies_left a) (bodies_left b) (all_left ∙ own.next) (chain_down seconds) (chain_up seconds) fail.stops in
      subst (λ (x : List PlacedItem). SaysOrder x (Err fault)) same
      (chain_fault b fault (subst (λ (x : List PlacedItem). Stops AreChain (bodies x) (bodies_left b)) (sym same) s) after)

  -- and the first message
  module _ (subject : HeldSubject) (text : Bor (List ℕ)) (b : HeldItems) (first : TakesFirst (subject_meant subject) text.now a b) where
    abbrev meant : Subject
    meant = subject_meant subject

    hops_stop : (d : HeldItems) (fault : OrderFault) → StopsAt (AreHops meant) b d → IsAfter d fault → SaysOrder items (Err fault)
    hops_stop d fault fail after =
        first_answer d fault record {
          items = fail.items ∙ first.items;
          stops = stops_after AreAfterMoment (AreHops meant) (head_items meant text.now) (bodies_left a) (bodies_left b) (bodies_left d)
              (first.first ∙ sym (append_assoc (related_items meant) (message_item meant text.now ∷ []) (bodies_left b))) (first_down meant text.now) (first_up meant text.now) fail.stops;
        } after

    pub hops_answer : (d : HeldItems) (fault : OrderFault) → SaysHops meant b d (Err fault) → SaysOrder items (Err fault)
    hops_answer d Memory says = tt
    hops_answer d (Order offset) says = hops_stop d (Order offset) says.0 says.1
    hops_answer d TooManyHops says = hops_stop d TooManyHops says.0 says.1

    -- and all hops
    module _ (d : HeldItems) (hops : List HeldHop) (is_long : Bool) (so : AreHopsOf meant hops is_long b d) (none : bodies_left d ≡ []) where
      abbrev whole : RecordedChain
      whole = record { moment = seconds; subject = meant; first = text.now; hops = so.all }

      are_whole : bodies items ≡ chain_items whole
      are_whole =
          all_left ∙ own.next
          ∙ ap (λ (x : List Body). moment seconds ∷ x) (first.first
          ∙ ap (λ (x : List Body). related_items meant ++ (message_item meant text.now ∷ x)) (so.are ∙ ap (λ (x : List Body). flat_map (hop_items meant) so.all ++ x) none ∙ append-nil (flat_map (hop_items meant) so.all)))

      pub long_answer : is_long ≡ true → SaysOrder items (Err TooManyHops)
      long_answer long = (whole, are_whole, so.long long)

      module _ (few : is_long ≡ false) where
        abbrev held : HeldChain
        held = record { moment = seconds; subject = subject; item = b.taken - 1; first = text; hops = hops }

        all_kept : so.all ≡ map hop_meant hops
        all_kept = sym (so.kept ∙ take_all MAX_HOPS so.all (so.few few))

        item_is : b.taken - 1 ≡ length (related_items meant) + 1
        item_is = omega (arith, first.taken, own.taken, at_start)

        hop_is : (index : ℕ) (hop : HeldHop) → slice_get hops index ≡ Some hop → hop.item ≡ script_index (chain_meant held) index (hop_meant hop)
        hop_is index hop there =
            let e : hop.item ≡ b.taken + length (flat_map (hop_items meant) (take index (map hop_meant hops))) + length (moment_items hop.moment) =
            so.places index hop there ∙ ap (λ (x : List RecordedHop). b.taken + length (flat_map (hop_items meant) (take index x)) + length (moment_items hop.moment)) all_kept in
            omega (arith, e, first.taken, own.taken, at_start, length-append (related_items meant) (message_item meant text.now ∷ flat_map (hop_items meant) (take index (map hop_meant hops))))

        pub held_answer : SaysOrder items (Ok held)
        held_answer = record {
          is = are_whole ∙ ap (λ (x : List RecordedHop). chain_items record { moment = seconds; subject = meant; first = text.now; hops = x }) all_kept;
          few = omega (arith, so.few few, ap (λ (x : List RecordedHop). length x) all_kept);
          first_is = item_is;
          hops_are = hop_is;
        }
