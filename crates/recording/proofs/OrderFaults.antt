-- Items are a chain, or not in its order at one item.
use Rattle.std.proofs.Common.{◌≡◌, ◌≢◌, ◌⊎◌, ◌<◌, ◌≤◌, ◌+◌, ◌-◌, ℕ, zero, suc, Option, Some, None, option_map, List, [], ◌∷◌, ◌++◌, length, take, drop, refl, sym, ap, subst, ◌∙◌, inl, inr, arith}
use Rattle.std.specs.Prelude.{slice_get}
use Rattle.std.specs.List.{flat_map}
use Rattle.std.proofs.lemmas.Bool.{cases_lt, cases_order}
use Rattle.std.proofs.lemmas.List.{append_assoc, append-nil, append_cancel_right, length-append, map-append, take-append-drop, take-map, take-take, take_more, drop_at}
use Rattle.std.proofs.lemmas.Option.{get_or_from_slice_get, slice_get_within, slice_get-map}
use Rattle.recording.specs.declared.item.Role.{Role}
use Rattle.recording.specs.declared.item.Role.TheVariants.{Request, Response, Related}
use Rattle.recording.specs.Items.{Body, Kind, moment, stored, message, script, PlacedItem}
use Rattle.recording.specs.Recordings.{BeginWithMoment, bodies}
use Rattle.recording.specs.Chains.{Subject, requests, responses, RecordedHop, moment_items, related_items, message_item, hop_items, chain_items, BeginsChain, IsOrderFault}
use Rattle.recording.specs.Chains.{role_of}
use Rattle.recording.specs.ChainLaws.{AreChainOrNot, HaveOneOrderFault}
use Rattle.recording.specs.tools.Ordered.{AreHops, AreAfterMoment, AreChain, Stops, IsMoment, HasKind, LacksNext}
use Rattle.recording.proofs.OneChain.{drop_some, hop_items-length}
use Rattle.recording.proofs.Stopping.{cons_nil, nil_cons, head_same, some_none, some_list_none, stored_moment, moment_stored, stored_kind, stops_after, hops_down, hops_up, head_items, first_down, first_up, chain_down, chain_up, script_missing, message_missing, first_missing, item_role}

-- ---- items that begin a chain

-- where some items begin a chain so do the first of them
pub first_begin : (items others : List PlacedItem) → BeginsChain (items ++ others) → BeginsChain items
first_begin items others begins = (
  bodies others ++ begins.0,
  begins.1,
  sym (append_assoc (bodies items) (bodies others) begins.0)
      ∙ ap (λ (x : List Body). x ++ begins.0) (sym (map-append (λ (item : PlacedItem). item.body) items others))
      ∙ begins.2,
)

pub fewer_begin : (items : List PlacedItem) (few many : ℕ) → few ≤ many → BeginsChain (take many items) → BeginsChain (take few items)
fewer_begin items few many less begins =
    let cut : take few (take many items) ≡ take few items = take-take few many items less in
    subst BeginsChain cut (first_begin (take few (take many items)) (drop few (take many items)) (subst BeginsChain (sym (take-append-drop few (take many items))) begins))

not_earlier : (items : List PlacedItem) (offset other : ℕ) (a : IsOrderFault items offset) (b : IsOrderFault items other) → a.index < b.index → ⊥
not_earlier items offset other a b less =
    let last = a.last (fewer_begin items (a.index + 1) b.index (omega arith) b.begins) in
    let within = slice_get_within items b.index b.item b.there in
    omega arith

pub one_order_fault : HaveOneOrderFault
one_order_fault items offset other a b = elim (cases_order a.index b.index) [
  | inl same ↦
      let e : Some a.item ≡ Some b.item = sym a.there ∙ ap (slice_get items) same ∙ b.there in
      let item : a.item ≡ b.item = cc in
      a.place ∙ ap (λ (i : PlacedItem). i.offset) item ∙ sym b.place
  | inr apart ↦ elim apart [
    | inl less ↦ absurd (not_earlier items offset other a b less)
    | inr more ↦ absurd (not_earlier items other offset b a more)
  ]
]

-- ---- where items stop there is a fault

bodies-take : (items : List PlacedItem) (n : ℕ) → bodies (take n items) ≡ take n (bodies items)
bodies-take items n = sym (take-map (λ (item : PlacedItem). item.body) n items)

-- items that stop are those of no chain
stopped_none : (items : List Body) (left : List Body) → Stops AreChain items left → ¬ AreChain items
stopped_none items [] s may = s.end refl (subst AreChain (s.joined ∙ append-nil s.taken) may)
stopped_none items (body ∷ others) s may = s.next body others others refl (subst AreChain s.joined may)

module _ (items : List PlacedItem) (n : ℕ) (s : Stops AreChain (bodies items) (drop n (bodies items))) where
  taken_are : s.taken ≡ take n (bodies items)
  taken_are = append_cancel_right s.taken (take n (bodies items)) (drop n (bodies items)) (sym s.joined ∙ sym (take-append-drop n (bodies items)))

  begun : BeginsChain (take n items)
  begun = (s.more, s.begins.0, ap (λ (x : List Body). x ++ s.more) (bodies-take items n ∙ sym taken_are) ∙ s.begins.1)

  stops_here : (item : PlacedItem) → slice_get items n ≡ Some item → ¬ BeginsChain (take (n + 1) items)
  stops_here item there begins =
      let body = item.body in
      let said : slice_get (bodies items) n ≡ Some body = slice_get-map (λ (i : PlacedItem). i.body) items n ∙ ap (λ o. option_map (λ (i : PlacedItem). i.body) o) there in
      let left = drop_some (bodies items) n body said in
      let more : take (n + 1) (bodies items) ≡ take n (bodies items) ++ (body ∷ []) =
      take_more (bodies items) n body (slice_get_within (bodies items) n body said) ∙ ap (λ (b : Body). take n (bodies items) ++ (b ∷ [])) (get_or_from_slice_get (bodies items) n body body said) in
      let whole : s.taken ++ (body ∷ begins.0) ≡ chain_items begins.1 =
      sym (append_assoc s.taken (body ∷ []) begins.0)
      ∙ ap (λ (x : List Body). (x ++ (body ∷ [])) ++ begins.0) taken_are
      ∙ ap (λ (x : List Body). x ++ begins.0) (sym (bodies-take items (n + 1) ∙ more))
      ∙ begins.2 in
      s.next body (drop (n + 1) (bodies items)) begins.0 left (begins.1, whole)

  pub order_fault : (index : ℕ) (item : PlacedItem) → slice_get items index ≡ Some item → (n < length items → index ≡ n) → (length items ≤ n → index + 1 ≡ length items)
      → IsOrderFault items item.offset
  order_fault index item there next last = record {
    none = λ chain is. stopped_none (bodies items) (drop n (bodies items)) s (chain, is);
    index = index;
    item = item;
    there = there;
    place = refl;
    begins = elim (cases_lt n (length items)) [
      | inr past ↦ let e = last past in fewer_begin items index n (omega arith) begun
      | inl within ↦ subst (λ (i : ℕ). BeginsChain (take i items)) (sym (next within)) begun
    ];
    last = λ begins. elim (cases_lt n (length items)) [
      | inr past ↦ last past
      | inl within ↦
          let e = next within in
          absurd (stops_here item (subst (λ (i : ℕ). slice_get items i ≡ Some item) e there) (subst (λ (i : ℕ). BeginsChain (take (i + 1) items)) e begins))
    ];
  }

-- ---- a chain, or where it stops

take_moment : (items : List Body) → (m : Option ℕ) × (left : List Body) × (items ≡ moment_items m ++ left) × (m ≡ None → LacksNext IsMoment left)
take_moment [] = (None, [], refl, λ none body others e is. nil_cons body others e)
take_moment (moment seconds ∷ items) = (Some seconds, items, refl, λ none. absurd (some_none seconds none))
take_moment (stored kind text ∷ items) = (None, stored kind text ∷ items, refl, λ none body others e is. stored_moment kind text body is.0 (head_same (stored kind text) body items others e) is.1)

same_role : (a b : Role) → (a ≡ b) ⊎ ¬ (a ≡ b)
same_role Request Request = inl refl
same_role Request Response = inr (λ e. absurd cc)
same_role Request Related = inr (λ e. absurd cc)
same_role Response Request = inr (λ e. absurd cc)
same_role Response Response = inl refl
same_role Response Related = inr (λ e. absurd cc)
same_role Related Request = inr (λ e. absurd cc)
same_role Related Response = inr (λ e. absurd cc)
same_role Related Related = inl refl

same_kind : (a b : Kind) → (a ≡ b) ⊎ ¬ (a ≡ b)
same_kind (message a) (message b) = elim (same_role a b) [
  | inl same ↦ inl (ap (λ (r : Role). message r) same)
  | inr apart ↦ inr (λ e. let same : a ≡ b = cc in apart same)
]
same_kind (message a) script = inr (λ e. absurd cc)
same_kind script (message b) = inr (λ e. absurd cc)
same_kind script script = inl refl

take_kind : (kind : Kind) (items : List Body) → ((text : List ℕ) × (left : List Body) × (items ≡ stored kind text ∷ left)) ⊎ LacksNext (HasKind kind) items
take_kind kind [] = inr (λ body others e is. nil_cons body others e)
take_kind kind (moment seconds ∷ items) = inr (λ body others e is. moment_stored seconds body kind is.0 (head_same (moment seconds) body items others e) is.1)
take_kind kind (stored own text ∷ items) = elim (same_kind own kind) [
  | inl same ↦ inl (text, items, ap (λ (k : Kind). stored k text ∷ items) same)
  | inr apart ↦ inr (λ body others e is. let same : own ≡ kind = stored_kind own kind text is.0 (head_same (stored own text) body items others e ∙ is.1) in apart same)
]

hop_or_stops : (subject : Subject) (items : List Body) → items ≢ []
    → ((hop : RecordedHop) × (left : List Body) × (items ≡ hop_items subject hop ++ left)) ⊎ ((left : List Body) × Stops (AreHops subject) items left)
hop_or_stops subject items some =
    let m = take_moment items in
    elim (take_kind script m.1) [
      | inr no_script ↦ inr (m.1, script_missing subject m.0 items m.1 m.2 m.3 no_script some)
      | inl own ↦
          let e : items ≡ moment_items m.0 ++ (stored script own.0 ∷ own.1) = m.2 ∙ ap (λ (x : List Body). moment_items m.0 ++ x) own.2 in
          elim (take_kind (message (role_of subject)) own.1) [
            | inr no_message ↦ inr (own.1, message_missing subject m.0 own.0 items own.1 e no_message)
            | inl text ↦
                let item : own.1 ≡ message_item subject text.0 ∷ text.1 = text.2 ∙ ap (λ (b : Body). b ∷ text.1) (sym (item_role subject text.0)) in
                inl (
                  record { moment = m.0; script = own.0; message = text.0 },
                  text.1,
                  e ∙ ap (λ (x : List Body). moment_items m.0 ++ (stored script own.0 ∷ x)) item
                      ∙ sym (append_assoc (moment_items m.0) (stored script own.0 ∷ message_item subject text.0 ∷ []) text.1),
                )
          ]
    ]

hop_shorter : (subject : Subject) (hop : RecordedHop) (items left : List Body) (n : ℕ) → items ≡ hop_items subject hop ++ left → length items ≤ suc n → length left ≤ n
hop_shorter subject hop items left n e short =
    omega (arith, ap (λ (x : List Body). length x) e, length-append (hop_items subject hop) left, hop_items-length subject hop)

hops_or_stops : (n : ℕ) (subject : Subject) (items : List Body) → length items ≤ n → AreHops subject items ⊎ ((left : List Body) × Stops (AreHops subject) items left)
hops_or_stops n subject [] short = inl ([], refl)
hops_or_stops zero subject (body ∷ items) short = absurd (omega arith)
hops_or_stops (suc n) subject (body ∷ items) short = elim (hop_or_stops subject (body ∷ items) (cons_nil body items)) [
  | inr stop ↦ inr stop
  | inl own ↦ elim (hops_or_stops n subject own.1 (hop_shorter subject own.0 (body ∷ items) own.1 n own.2 short)) [
    | inl hops ↦ inl (own.0 ∷ hops.0, own.2 ∙ ap (λ (x : List Body). hop_items subject own.0 ++ x) hops.1)
    | inr stop ↦
        let one : flat_map (hop_items subject) (own.0 ∷ []) ≡ hop_items subject own.0 = append-nil (hop_items subject own.0) in
        inr (
          stop.0,
          stops_after (AreHops subject) (AreHops subject) (flat_map (hop_items subject) (own.0 ∷ [])) (body ∷ items) own.1 stop.0
              (own.2 ∙ ap (λ (x : List Body). x ++ own.1) (sym one)) (hops_down subject (own.0 ∷ [])) (hops_up subject (own.0 ∷ [])) stop.1,
        )
  ]
]

-- what the messages are and the first one, and the items after it
abbrev HasFirst : List Body → Type 0
HasFirst items = (subject : Subject) × (text : List ℕ) × (left : List Body) × (items ≡ related_items subject ++ (message_item subject text ∷ left))

first_or_stops : (items : List Body) → HasFirst items ⊎ ((left : List Body) × Stops AreAfterMoment items left)
first_or_stops items = elim (take_kind (message Request) items) [
  | inl own ↦ inl (requests, own.0, own.1, own.2)
  | inr no_request ↦ elim (take_kind (message Related) items) [
    | inr no_related ↦ elim (take_kind (message Response) items) [
      | inl own ↦ inl (responses None, own.0, own.1, own.2)
      | inr lacks ↦ inr (items, first_missing None items items refl no_request (λ none. no_related) lacks)
    ]
    | inl related ↦ elim (take_kind (message Response) related.1) [
      | inl own ↦ inl (responses (Some related.0), own.0, own.1, related.2 ∙ ap (λ (x : List Body). stored (message Related) related.0 ∷ x) own.2)
      | inr lacks ↦ inr (related.1, first_missing (Some related.0) items related.1 related.2 no_request (λ none. absurd (some_list_none related.0 none)) lacks)
    ]
  ]
]

chain_or_stops : (items : List Body) → BeginWithMoment items → AreChain items ⊎ ((left : List Body) × Stops AreChain items left)
chain_or_stops [] begins = absurd begins
chain_or_stops (stored kind text ∷ items) begins = absurd begins
chain_or_stops (moment seconds ∷ items) begins = elim (first_or_stops items) [
  | inr stop ↦ inr (stop.0, stops_after AreChain AreAfterMoment (moment seconds ∷ []) (moment seconds ∷ items) items stop.0 refl (chain_down seconds) (chain_up seconds) stop.1)
  | inl own ↦ elim (hops_or_stops (length own.2) own.0 own.2 (omega arith)) [
    | inl hops ↦ inl (chain_up seconds items (own.0, own.1, hops.0, own.3 ∙ ap (λ (x : List Body). related_items own.0 ++ (message_item own.0 own.1 ∷ x)) hops.1))
    | inr stop ↦
        let first : Stops AreAfterMoment items stop.0 = stops_after AreAfterMoment (AreHops own.0) (head_items own.0 own.1) items own.2 stop.0
        (own.3 ∙ sym (append_assoc (related_items own.0) (message_item own.0 own.1 ∷ []) own.2)) (first_down own.0 own.1) (first_up own.0 own.1) stop.1 in
        inr (stop.0, stops_after AreChain AreAfterMoment (moment seconds ∷ []) (moment seconds ∷ items) items stop.0 refl (chain_down seconds) (chain_up seconds) first)
  ]
]

some_item : (items : List PlacedItem) (n : ℕ) → n < length items → (item : PlacedItem) × (slice_get items n ≡ Some item)
some_item [] n within = absurd (omega arith)
some_item (item ∷ items) zero within = (item, refl)
some_item (item ∷ items) (suc n) within = some_item items n (omega arith)

begun_some : (items : List PlacedItem) → BeginWithMoment (bodies items) → 0 < length items
begun_some [] begins = absurd begins
begun_some (item ∷ items) begins = omega arith

fault_of : (items : List PlacedItem) → BeginWithMoment (bodies items) → (left : List Body) → Stops AreChain (bodies items) left → (offset : ℕ) × IsOrderFault items offset
fault_of items begins left s =
    let n = length s.taken in
    let e : left ≡ drop n (bodies items) = sym (ap (λ (x : List Body). drop n x) s.joined ∙ drop_at s.taken left n refl) in
    let stops : Stops AreChain (bodies items) (drop n (bodies items)) = subst (λ (x : List Body). Stops AreChain (bodies items) x) e s in
    let some = begun_some items begins in
    elim (cases_lt n (length items)) [
      | inl within ↦
          let item = some_item items n within in
          (item.0.offset, order_fault items n stops n item.0 item.1 (λ w. refl) (λ past. absurd (omega arith)))
      | inr past ↦
          let item = some_item items (length items - 1) (omega arith) in
          (item.0.offset, order_fault items n stops (length items - 1) item.0 item.1 (λ w. absurd (omega arith)) (λ p. omega arith))
    ]

pub chain_or_not : AreChainOrNot
chain_or_not items begins = elim (chain_or_stops (bodies items) begins) [
  | inl chain ↦ inl (chain.0, chain.1)
  | inr stop ↦ inr (fault_of items begins stop.0 stop.1)
]
