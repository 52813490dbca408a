-- Where items stop to come in order.
use Rattle.std.proofs.Common.{◌≡◌, ◌≢◌, ℕ, Option, Some, None, List, [], ◌∷◌, ◌++◌, refl, sym, ap, subst, ◌∙◌}
use Rattle.std.specs.List.{flat_map}
use Rattle.std.proofs.lemmas.List.{append_assoc, append-nil}
use Rattle.recording.specs.declared.item.Role.{Role}
use Rattle.recording.specs.declared.item.Role.TheVariants.{Request, Response, Related}
use Rattle.recording.specs.Items.{Body, Kind, moment, stored, message, script}
use Rattle.recording.specs.Chains.{Subject, requests, responses, RecordedHop, moment_items, related_items, message_item, hop_items}
use Rattle.recording.specs.Chains.{role_of}
use Rattle.recording.specs.tools.Ordered.{AreHops, AreAfterMoment, AreChain, Stops, IsMoment, HasKind, LacksNext}
use Rattle.recording.proofs.OneChain.{hops_first, hops_items-append, same_first}

-- ---- heads of lists

pub cons_nil : {X : Type 0} (x : X) (xs : List X) → ¬ (x ∷ xs ≡ [])
cons_nil x xs e = cc

pub nil_cons : {X : Type 0} (x : X) (xs : List X) → ¬ ([] ≡ x ∷ xs)
nil_cons x xs e = cc

pub head_same : {X : Type 0} (x y : X) (xs ys : List X) → x ∷ xs ≡ y ∷ ys → x ≡ y
head_same x y xs ys e = cc

pub some_none : (n : ℕ) → ¬ (◌≡◌ {A = Option ℕ} (Some n) None)
some_none n e = absurd cc

pub some_list_none : (text : List ℕ) → ¬ (◌≡◌ {A = Option (List ℕ)} (Some text) None)
some_list_none text e = absurd cc

pub stored_moment : (kind : Kind) (text : List ℕ) (body : Body) (seconds : ℕ) → stored kind text ≡ body → ¬ (body ≡ moment seconds)
stored_moment kind text body seconds e is = cc

pub moment_stored : (seconds : ℕ) (body : Body) (kind : Kind) (text : List ℕ) → moment seconds ≡ body → ¬ (body ≡ stored kind text)
moment_stored seconds body kind text e is = cc

pub message_script : (role : Role) → ¬ (message role ≡ script)
message_script role e = cc

pub same_message_role : (own role : Role) → message own ≡ message role → own ≡ role
same_message_role own role e = cc

pub stored_kind : (own kind : Kind) (text other : List ℕ) → stored own text ≡ stored kind other → own ≡ kind
stored_kind own kind text other e = cc

pub item_role : (subject : Subject) (text : List ℕ) → message_item subject text ≡ stored (message (role_of subject)) text
item_role requests text = refl
item_role (responses related) text = refl

-- ---- after items that are in order

-- Items stop where those after the first of them do, if these come in order exactly where all do.
pub stops_after : (All Rest : List Body → Type 0) (before items middle left : List Body) → items ≡ before ++ middle
    → ((x : List Body) → All (before ++ x) → Rest x) → ((x : List Body) → Rest x → All (before ++ x))
    → Stops Rest middle left → Stops All items left
stops_after All Rest before items middle left e down up s = record {
  taken = before ++ s.taken;
  joined = e ∙ ap (λ (x : List Body). before ++ x) s.joined ∙ sym (append_assoc before s.taken left);
  more = s.more;
  begins = subst All (sym (append_assoc before s.taken s.more)) (up (s.taken ++ s.more) s.begins);
  next = λ body others rest here may. s.next body others rest here (down (s.taken ++ (body ∷ rest)) (subst All (append_assoc before s.taken (body ∷ rest)) may));
  end = λ none may. s.end none (down s.taken may);
}

pub hops_down : (subject : Subject) (done : List RecordedHop) (x : List Body) → AreHops subject (flat_map (hop_items subject) done ++ x) → AreHops subject x
hops_down subject done x may = let p = hops_first subject done x may.0 may.1 in (p.0, p.2)

pub hops_up : (subject : Subject) (done : List RecordedHop) (x : List Body) → AreHops subject x → AreHops subject (flat_map (hop_items subject) done ++ x)
hops_up subject done x may =
    (done ++ may.0, ap (λ (y : List Body). flat_map (hop_items subject) done ++ y) may.1 ∙ sym (hops_items-append subject done may.0))

-- the items of the request that is answered, and of the first message
abbrev pub head_items : Subject → List ℕ → List Body
head_items subject text = related_items subject ++ (message_item subject text ∷ [])

head_joined : (subject : Subject) (text : List ℕ) (x : List Body) → head_items subject text ++ x ≡ related_items subject ++ (message_item subject text ∷ x)
head_joined subject text x = append_assoc (related_items subject) (message_item subject text ∷ []) x

pub first_down : (subject : Subject) (text : List ℕ) (x : List Body) → AreAfterMoment (head_items subject text ++ x) → AreHops subject x
first_down subject text x may =
    let own = may.0 in
    let p = same_first subject own text may.1 x (flat_map (hop_items own) may.2) (sym (head_joined subject text x) ∙ may.3) in
    (may.2, p.2 ∙ ap (λ (s : Subject). flat_map (hop_items s) may.2) (sym p.0))

pub first_up : (subject : Subject) (text : List ℕ) (x : List Body) → AreHops subject x → AreAfterMoment (head_items subject text ++ x)
first_up subject text x may =
    (subject, text, may.0, head_joined subject text x ∙ ap (λ (y : List Body). related_items subject ++ (message_item subject text ∷ y)) may.1)

pub chain_down : (seconds : ℕ) (x : List Body) → AreChain (moment seconds ∷ x) → AreAfterMoment x
chain_down seconds x may =
    let chain = may.0 in
    let e : x ≡ related_items chain.subject ++ (message_item chain.subject chain.first ∷ flat_map (hop_items chain.subject) chain.hops) = cc may.1 in
    (chain.subject, chain.first, chain.hops, e)

pub chain_up : (seconds : ℕ) (x : List Body) → AreAfterMoment x → AreChain (moment seconds ∷ x)
chain_up seconds x may =
    (record { moment = seconds; subject = may.0; first = may.1; hops = may.2 }, ap (λ (y : List Body). moment seconds ∷ y) may.3)

-- ---- a hop

-- items after the moment of a hop, if it has one
record AreOfHop (m : Option ℕ) (tail : List Body) : Type 0 where
  no_moment : m ≡ None → LacksNext IsMoment tail
  some : m ≡ None → tail ≢ []

-- what comes after the moment of a hop
record BeginsHop (subject : Subject) (tail : List Body) : Type 0 where
  text : List ℕ
  content : List ℕ
  rest : List Body
  is : tail ≡ stored script text ∷ message_item subject content ∷ rest

hop_tail : (subject : Subject) (m : Option ℕ) (tail : List Body) (hops : List RecordedHop) → AreOfHop m tail
    → moment_items m ++ tail ≡ flat_map (hop_items subject) hops → BeginsHop subject tail
hop_tail subject None tail [] of e = absurd (of.some refl e)
hop_tail subject (Some seconds) tail [] of e = absurd (cc)
hop_tail subject m tail (hop ∷ hops) of e = by_moment m hop.moment hop.script hop.message (flat_map (hop_items subject) hops) of e
  where
    by_moment : (m own : Option ℕ) (t a : List ℕ) (y : List Body) → AreOfHop m tail
        → moment_items m ++ tail ≡ (moment_items own ++ (stored script t ∷ message_item subject a ∷ [])) ++ y → BeginsHop subject tail
    by_moment None None t a y of e = record { text = t; content = a; rest = y; is = e }
    by_moment None (Some n) t a y of e = absurd (of.no_moment refl (moment n) (stored script t ∷ message_item subject a ∷ y) e (n, refl))
    by_moment (Some s) None t a y of e = absurd (cc)
    by_moment (Some s) (Some n) t a y of e = record { text = t; content = a; rest = y; is = cc }

-- an item that lacks what it should be does so whatever comes after it
lacks_before : (IsSuch : Body → Type 0) (left others rest : List Body) (body : Body) → left ≡ body ∷ others → LacksNext IsSuch left → LacksNext IsSuch (body ∷ rest)
lacks_before IsSuch left others rest body here lacks own more e is =
    let same : body ≡ own = cc in
    lacks body others here (subst IsSuch (sym same) is)

-- no script comes after the moment of a hop
not_script : (subject : Subject) (m : Option ℕ) (left others rest : List Body) (body : Body) → left ≡ body ∷ others
    → (m ≡ None → LacksNext IsMoment left) → LacksNext (HasKind script) left → ¬ AreHops subject (moment_items m ++ (body ∷ rest))
not_script subject m left others rest body here no_moment no_script may =
    let of : AreOfHop m (body ∷ rest) = record {
      no_moment = λ none. lacks_before IsMoment left others rest body here (no_moment none);
      some = λ none e. absurd (cons_nil body rest e);
    } in
    let b = hop_tail subject m (body ∷ rest) may.0 of may.1 in
    let e = b.is in
    let is : body ≡ stored script b.text = cc in
    no_script body others here (b.text, is)

moment_ends : (subject : Subject) (seconds : ℕ) → ¬ AreHops subject (moment seconds ∷ [])
moment_ends subject seconds may =
    let of : AreOfHop (Some seconds) [] = record { no_moment = λ e. absurd (some_none seconds e); some = λ e. absurd (some_none seconds e) } in
    let b = hop_tail subject (Some seconds) [] may.0 of may.1 in
    nil_cons _ _ b.is

pub script_missing : (subject : Subject) (m : Option ℕ) (items left : List Body) → items ≡ moment_items m ++ left
    → (m ≡ None → LacksNext IsMoment left) → LacksNext (HasKind script) left → items ≢ [] → Stops (AreHops subject) items left
script_missing subject m items left e no_moment no_script some = record {
  taken = moment_items m;
  joined = e;
  more = stored script [] ∷ message_item subject [] ∷ [];
  begins = (record { moment = m; script = []; message = [] } ∷ [], sym (append-nil (moment_items m ++ (stored script [] ∷ message_item subject [] ∷ []))));
  next = λ body others rest here. not_script subject m left others rest body here no_moment no_script;
  end = ends m e;
}
  where
    ends : (m : Option ℕ) → items ≡ moment_items m ++ left → left ≡ [] → ¬ AreHops subject (moment_items m)
    ends None e none = absurd (some (e ∙ none))
    ends (Some seconds) e none = moment_ends subject seconds

-- ---- a hop without its message

not_message : (subject : Subject) (m : Option ℕ) (text : List ℕ) (tail : List Body)
    → AreHops subject (moment_items m ++ (stored script text ∷ tail)) → (content : List ℕ) × (rest : List Body) × (tail ≡ message_item subject content ∷ rest)
not_message subject m text tail may =
    let of : AreOfHop m (stored script text ∷ tail) = record {
      no_moment = λ none own more e is. stored_moment script text own is.0 (head_same _ _ _ _ e) is.1;
      some = λ none e. absurd (cons_nil _ _ e);
    } in
    let b = hop_tail subject m (stored script text ∷ tail) may.0 of may.1 in
    let e = b.is in
    (b.content, b.rest, cc)

pub message_missing : (subject : Subject) (m : Option ℕ) (text : List ℕ) (items left : List Body) → items ≡ moment_items m ++ (stored script text ∷ left)
    → LacksNext (HasKind (message (role_of subject))) left → Stops (AreHops subject) items left
message_missing subject m text items left e lacks = record {
  taken = moment_items m ++ (stored script text ∷ []);
  joined = e ∙ sym (append_assoc (moment_items m) (stored script text ∷ []) left);
  more = message_item subject [] ∷ [];
  begins = (record { moment = m; script = text; message = [] } ∷ [], append_assoc (moment_items m) (stored script text ∷ []) (message_item subject [] ∷ []) ∙ sym (append-nil (moment_items m ++ (stored script text ∷ message_item subject [] ∷ []))));
  next = λ body others rest here may.
      let n = not_message subject m text (body ∷ rest) (subst (AreHops subject) (append_assoc (moment_items m) (stored script text ∷ []) (body ∷ rest)) may) in
      lacks body others here (n.0, head_same _ _ _ _ n.2 ∙ item_role subject n.0);
  end = λ none may. let n = not_message subject m text [] may in nil_cons _ _ n.2;
}

-- ---- the first message

pub first_missing : (related : Option (List ℕ)) (items left : List Body) → items ≡ related_items (responses related) ++ left
    → LacksNext (HasKind (message Request)) items → (related ≡ None → LacksNext (HasKind (message Related)) items)
    → LacksNext (HasKind (message Response)) left → Stops AreAfterMoment items left
first_missing related items left e no_request no_related no_response = record {
  taken = related_items (responses related);
  joined = e;
  more = stored (message Response) [] ∷ [];
  begins = (responses related, [], [], refl);
  next = λ body others rest here may. nexts related e no_related body others rest here may.0 may.1 (flat_map (hop_items may.0) may.2) may.3;
  end = λ none may. ends related may.0 may.1 (flat_map (hop_items may.0) may.2) may.3;
}
  where
    nexts : (related : Option (List ℕ)) → items ≡ related_items (responses related) ++ left → (related ≡ None → LacksNext (HasKind (message Related)) items)
        → (body : Body) (others rest : List Body) → left ≡ body ∷ others → (subject : Subject) (text : List ℕ) (y : List Body)
        → related_items (responses related) ++ (body ∷ rest) ≡ related_items subject ++ (message_item subject text ∷ y) → ⊥
    nexts None e no_related body others rest here requests text y is = no_request body others (e ∙ here) (text, head_same _ _ _ _ is)
    nexts None e no_related body others rest here (responses None) text y is = no_response body others here (text, head_same _ _ _ _ is)
    nexts None e no_related body others rest here (responses (Some own)) text y is = no_related refl body others (e ∙ here) (own, head_same _ _ _ _ is)
    nexts (Some own) e no_related body others rest here requests text y is = absurd (cc)
    nexts (Some own) e no_related body others rest here (responses None) text y is = absurd (cc)
    nexts (Some own) e no_related body others rest here (responses (Some other)) text y is = let same : body ≡ stored (message Response) text = cc in no_response body others here (text, same)

    ends : (related : Option (List ℕ)) (subject : Subject) (text : List ℕ) (y : List Body) → related_items (responses related) ≡ related_items subject ++ (message_item subject text ∷ y) → ⊥
    ends None requests text y is = cc
    ends None (responses None) text y is = cc
    ends None (responses (Some other)) text y is = cc
    ends (Some own) requests text y is = cc
    ends (Some own) (responses None) text y is = cc
    ends (Some own) (responses (Some other)) text y is = cc
