-- The lines of a hop: whether it is explained, and what is judged of the labels before it.
use Rattle.std.proofs.Common.{◌≡◌, ◌<◌, ◌≤◌, ◌+◌, ℕ, Bool, true, false, ◌&&◌, Bor, Option, Some, None, List, [], ◌∷◌, ◌++◌, length, get_or, take, refl, sym, subst, ap, ◌∙◌, append_assoc, arith}
use Rattle.std.specs.Prelude.{◌↔◌, Result, Ok, Err, OnOk, IfSome, IsTrue, IsSomeAnd, MatchOption, is_some, slice_get}
use Rattle.std.specs.List.{All, AllZip}
use Rattle.std.proofs.lemmas.Bool.{false≢true}
use Rattle.std.proofs.lemmas.List.Elements.{All-cons, All-head, All-nil, All-tail}
use Rattle.std.proofs.lemmas.List.{append-nil, take_all, take_more}
use Rattle.std.proofs.lemmas.Option.{get_or_from_slice_get, slice_get-get_or, slice_get_within}
use Rattle.std.proofs.lemmas.Slice.Zip.{AllZip-long, AllZip-right}
use Rattle.byte_grammar.proofs.Indices.{some_and_parts}
use Rattle.msg_body.specs.Messages.{Message, Spells, message_text}
use Rattle.msg_body.proofs.OneMessages.{one_message_law}
use Rattle.component_ids.specs.SignatureParams.{are_sig_params_in_range}
use Rattle.component_ids.specs.declared.params.SigParams.{SigParams}
use Rattle.component_values.specs.Context.{MessageContext, answers_head}
use Rattle.rewrite_script.specs.declared.rewrite.Rewrite.{Rewrite}
use Rattle.rewrites.specs.Steps.{Step, Steps}
use Rattle.signatures.specs.Signatures.{AreLabels, HasSignature}
use Rattle.signatures.specs.declared.label.LabelRead.{LabelRead}
use Rattle.signatures.proofs.InRange.{is_signature_in_range}
use Rattle.hop_audit.specs.declared.line.AuditLine.{AuditLine}
use Rattle.hop_audit.specs.declared.line.AuditLine.TheVariants.{Hop as HopLine, Label as LabelLine}
use Rattle.hop_audit.specs.declared.line.Fate.{Fate}
use Rattle.hop_audit.specs.declared.walk.Mark.{Mark}
use Rattle.hop_audit.specs.declared.walk.Walked.{Walked}
use Rattle.hop_audit.specs.declared.walk.Walked.TheVariants.{To, Stopped}
use Rattle.hop_audit.specs.Fates.{IsFate}
use Rattle.hop_audit.specs.Hops.{IsExplanation, IsPermission, IsPermitted, IsStoppedAt, PlacedHop}
use Rattle.hop_audit.specs.Report.{IsLabelLine}
use Rattle.hop_audit.specs.tools.HopLines.{AreAddedSoFar, AreJudged, IsJudged, SaysExplained}
use Rattle.hop_audit.specs.tools.Walked.{AreMarksOf, HoldSignatures, HoldsSignature, IsMarkInRange, IsMarkOf, IsMarkRead, IsMarkedAfter, IsSameMark, SaysWalked}
use Rattle.hop_audit.specs.tools.Written.{AddsHopLines, IsHopBetween}
use Rattle.hop_audit.proofs.StepLists.{one_explanation, permitted_leads}

-- ---- lists

-- what holds over the lists between
zip_through : {A B C : Type 0} (R : A → B → Type 0) (S : B → C → Type 0) (T : A → C → Type 0) → ((a : A) (b : B) (c : C) → R a b → S b c → T a c)
    → (xs : List A) (ys : List B) (zs : List C) → AllZip R xs ys → AllZip S ys zs → AllZip T xs zs
zip_through R S T both [] [] [] first second = first
zip_through R S T both [] [] (z ∷ zs) first second = second
zip_through R S T both [] (y ∷ ys) zs first second = absurd first
zip_through R S T both (x ∷ xs) [] zs first second = absurd first
zip_through R S T both (x ∷ xs) (y ∷ ys) [] first second = absurd second
zip_through R S T both (x ∷ xs) (y ∷ ys) (z ∷ zs) first second = (both x y z first.0 second.0, zip_through R S T both xs ys zs first.1 second.1)

-- one more in each list
pub zip_push : {A B : Type 0} (R : A → B → Type 0) (xs : List A) (ys : List B) (x : A) (y : B) → AllZip R xs ys → R x y → AllZip R (xs ++ x ∷ []) (ys ++ y ∷ [])
zip_push R [] [] x y all one = (one, all)
zip_push R [] (b ∷ ys) x y all one = absurd all
zip_push R (a ∷ xs) [] x y all one = absurd all
zip_push R (a ∷ xs) (b ∷ ys) x y all one = (all.0, zip_push R xs ys x y all.1 one)

-- ---- explained

module _ (context : MessageContext) (script : List Rewrite) where
  abbrev to_head : Bool
  to_head = answers_head context.related

  -- what says so of the texts says so of the messages
  pub says_explanation : (was now : List Mark) (walked : Walked) (after : Message) (bytes : List ℕ) (explained : Bool) (stopped : Option ℕ) → Spells to_head after bytes
      → SaysWalked context script was now walked → SaysExplained walked bytes explained stopped → IsExplanation context script after explained stopped
  says_explanation was now (To text) after bytes true None spells leads says =
      let same = one_message_law to_head bytes leads.0 after (subst (λ (t : List ℕ). Spells to_head leads.0 t) says leads.1) spells in
      subst (λ (m : Message). Steps Step context script m) same leads.2
  says_explanation was now (To text) after bytes false None spells leads says = record {
    other = leads.0;
    lead = leads.2;
    differs = λ same. says (leads.1.text ∙ ap message_text same ∙ sym spells.text);
  }
  says_explanation was now (To text) after bytes true (Some stopped) spells leads says = absurd says
  says_explanation was now (To text) after bytes false (Some stopped) spells leads says = absurd says
  says_explanation was now (Stopped index) after bytes false (Some stopped) spells leads says = subst (λ (i : ℕ). IsStoppedAt context script i) (sym says) leads.0
  says_explanation was now (Stopped index) after bytes false None spells leads says = absurd says
  says_explanation was now (Stopped index) after bytes true None spells leads says = absurd says
  says_explanation was now (Stopped index) after bytes true (Some stopped) spells leads says = absurd says

  -- ---- permitted

  -- what isn't explained isn't permitted
  unexplained : (label : List ℕ) (after : Message) (stopped : Option ℕ) → IsExplanation context script after false stopped → ¬ IsPermitted label context script after
  unexplained label after stopped is permitted =
      false≢true (one_explanation context script after false true stopped None is (permitted_leads label script context after permitted)).0

  permission_by : (label : List ℕ) (after : Message) (permitted : Bool) → IsTrue permitted ↔ IsPermitted label context script after → IsPermission label context script after permitted
  permission_by label after true both = both.0 refl
  permission_by label after false both = λ is. false≢true (both.1 is)

  module _ (hop : PlacedHop) (index : ℕ) (after : Message) (between : IsHopBetween context index script after hop) where
    -- the label and what was judged of it
    abbrev pub IsLabelJudged : Bool → List ℕ → Mark → Type 0
    IsLabelJudged explained label mark = (mark.label.now ≡ label) × IsJudged context hop after index explained mark

    -- what is known of the signature that was read
    abbrev IsReadJudged : List ℕ → Option (Bor LabelRead) → Bool → Type 0
    IsReadJudged label read permitted = MatchOption read
        ((params : SigParams) (tag : List ℕ) → ¬ HasSignature context.message label params tag)
        (λ read. HasSignature context.message label read.now.params read.now.tag × IsPermission label context hop.script after permitted)

    read_judged : (label : List ℕ) (read : Option (Bor LabelRead)) (permitted : Bool)
        → MatchOption read ((params : SigParams) (tag : List ℕ) → ¬ HasSignature context.message label params tag) (λ read. HasSignature context.message label read.now.params read.now.tag)
        → IsTrue permitted ↔ (IsTrue (is_some read) × IsPermitted label context script after) → IsReadJudged label read permitted
    read_judged label None permitted is both = is
    read_judged label (Some read) permitted is both =
        let own = permission_by label after permitted (λ yes. (both.0 yes).1, λ is. both.1 (refl, is)) in
        (is, subst (λ (s : List Rewrite). IsPermission label context s after permitted) (sym between.script_is) own)

    -- the label's mark, its signature being judged so
    mark_judged : (explained : Bool) (label : List ℕ) (was now : Mark) → IsMarkOf context.message label was → IsSameMark was now
        → IsTrue (explained && now.permitted) ↔ (IsTrue was.permitted × IsPermitted was.label.now context script after) → IsLabelJudged explained label now
    mark_judged explained label was now of same both =
        let named : now.label.now ≡ label = same.label ∙ of.label_is in
        let own = subst (λ (l : List ℕ). IsTrue (explained && now.permitted) ↔ (IsTrue was.permitted × IsPermitted l context script after)) of.label_is both in
        let by_read = subst (λ (p : Bool). IsTrue (explained && now.permitted) ↔ (IsTrue p × IsPermitted label context script after)) of.permitted own in
        let judged = read_judged label was.read (explained && now.permitted) of.read by_read in
        let moved = subst (λ (r : Option (Bor LabelRead)). IsReadJudged label r (explained && now.permitted)) (sym same.read) judged in (
          named,
          record {
            index_is = between.index_is;
            after_is = between.after_is;
            read = subst (λ (l : List ℕ). IsReadJudged l now.read (explained && now.permitted)) (sym named) moved;
          },
        )

    -- where the hop isn't explained, none permits it
    unexplained_mark : (stopped : Option ℕ) → IsExplanation context script after false stopped → (label : List ℕ) (was now : Mark) → IsMarkOf context.message label was → IsSameMark was now
        → IsLabelJudged false label now
    unexplained_mark stopped is label was now of same =
        mark_judged false label was now of same (λ yes. absurd (false≢true yes), λ both. absurd (unexplained was.label.now after stopped is both.1))

    pub all_judged : (labels : List (List ℕ)) (was now : List Mark) (walked : Walked) (bytes : List ℕ) (explained : Bool) (stopped : Option ℕ) → Spells to_head after bytes
        → AllZip (IsMarkOf context.message) labels was → SaysWalked context script was now walked → SaysExplained walked bytes explained stopped → AllZip (IsLabelJudged explained) labels now
    all_judged labels was now (To text) bytes true None spells marks leads says =
        let same = one_message_law to_head bytes leads.0 after (subst (λ (t : List ℕ). Spells to_head leads.0 t) says leads.1) spells in
        let here = subst (λ (m : Message). AllZip (IsMarkedAfter context script m) was now) same leads.3 in
        zip_through (IsMarkOf context.message) (IsMarkedAfter context script after) (IsLabelJudged true)
        (λ label own next of marked. mark_judged true label own next of marked.same marked.permitted) labels was now marks here
    all_judged labels was now (To text) bytes false None spells marks leads says =
        let is = says_explanation was now (To text) after bytes false None spells leads says in
        zip_through (IsMarkOf context.message) (IsMarkedAfter context script leads.0) (IsLabelJudged false)
        (λ label own next of marked. unexplained_mark None is label own next of marked.same) labels was now marks leads.3
    all_judged labels was now (To text) bytes true (Some stopped) spells marks leads says = absurd says
    all_judged labels was now (To text) bytes false (Some stopped) spells marks leads says = absurd says
    all_judged labels was now (Stopped index) bytes false (Some stopped) spells marks leads says =
        let is = says_explanation was now (Stopped index) after bytes false (Some stopped) spells leads says in
        zip_through (IsMarkOf context.message) IsSameMark (IsLabelJudged false)
        (λ label own next of same. unexplained_mark (Some stopped) is label own next of same) labels was now marks leads.1
    all_judged labels was now (Stopped index) bytes false None spells marks leads says = absurd says
    all_judged labels was now (Stopped index) bytes true None spells marks leads says = absurd says
    all_judged labels was now (Stopped index) bytes true (Some stopped) spells marks leads says = absurd says

-- ---- the line of a label

module _ (context : MessageContext) (hop : PlacedHop) (index : ℕ) (after : Message) (explained : Bool) (mark : Mark) (judged : IsJudged context hop after index explained mark) where
  abbrev IsReadSo : Option (Bor LabelRead) → Type 0
  IsReadSo read = MatchOption read
      ((params : SigParams) (tag : List ℕ) → ¬ HasSignature context.message mark.label.now params tag)
      (λ read. HasSignature context.message mark.label.now read.now.params read.now.tag × IsPermission mark.label.now context hop.script after (explained && mark.permitted))

  pub judged_line : (named : List ℕ) (read : Bor LabelRead) (permitted : Bool) (fate : Fate) → named ≡ mark.label.now → mark.read ≡ Some read → permitted ≡ (explained && mark.permitted)
      → IsFate context after mark.label.now read.now.params read.now.tag fate → IsLabelLine context hop mark.label.now (LabelLine index named permitted fate)
  judged_line named read permitted fate label_is read_is permitted_is fate_is =
      let is = subst IsReadSo read_is judged.read in (
        sym judged.index_is,
        label_is,
        record {
          params = read.now.params;
          tag = read.now.tag;
          signature = is.0;
          permission = subst (λ (p : Bool). IsPermission mark.label.now context hop.script hop.after p) (sym permitted_is)
              (subst (λ (m : Message). IsPermission mark.label.now context hop.script m (explained && mark.permitted)) (sym judged.after_is) is.1);
          fate_is = subst (λ (m : Message). IsFate context m mark.label.now read.now.params read.now.tag fate) (sym judged.after_is) fate_is;
        },
      )

-- ---- one after another

-- so many, and the next
take_next : {X : Type 0} (xs : List X) (n : ℕ) (x : X) → slice_get xs n ≡ Some x → take (n + 1) xs ≡ take n xs ++ x ∷ []
take_next {X} xs n x there =
    take_more xs n x (slice_get_within xs n x there) ∙ ap (λ (y : X). take n xs ++ y ∷ []) (get_or_from_slice_get xs n x x there)

zip_next : {A B : Type 0} (R : A → B → Type 0) (xs : List A) (ys : List B) (n : ℕ) (x : A) (y : B) → slice_get xs n ≡ Some x → AllZip R (take n xs) ys → R x y → AllZip R (take (n + 1) xs) (ys ++ y ∷ [])
zip_next {A} {B} R xs ys n x y there all one =
    subst (λ (l : List A). AllZip R l (ys ++ y ∷ [])) (sym (take_next xs n x there)) (zip_push R (take n xs) ys x y all one)

-- the element of the first list in this place
pub zip_here : {A B : Type 0} (R : A → B → Type 0) (xs : List A) (ys : List B) (n : ℕ) (y : B) → AllZip R xs ys → slice_get ys n ≡ Some y → (x : A) × (slice_get xs n ≡ Some x) × R x y
zip_here {A} {B} R xs ys n y all there =
    some_and_parts (λ x. R x y) (slice_get xs n)
    (subst (λ (o : Option B). MatchOption o (Unit {0}) (λ z. IsSomeAnd (slice_get xs n) (λ x. R x z))) there (AllZip-right R xs ys all n))

pub mark_of : (message : Message) (label : List ℕ) (mark : Mark) → mark.label.now ≡ label → IsMarkRead message mark.label.now mark.read → mark.permitted ≡ is_some mark.read → IsMarkOf message label mark
mark_of message label mark named read permitted = record {
  label_is = named;
  read = subst (λ (l : List ℕ). IsMarkRead message l mark.read) named read;
  permitted = permitted;
}

pub all_marks : (message : Message) (labels own : List (List ℕ)) (n : ℕ) (marks : List Mark) → length own ≤ n → own ≡ labels → AreMarksOf message (take n own) marks → AreMarksOf message labels marks
all_marks message labels own n marks end same all = subst (λ (l : List (List ℕ)). AreMarksOf message l marks) (take_all n own end ∙ same) all

-- where each step so far is permitted, the message has the signature
pub hold_signatures : (message : Message) (labels : List (List ℕ)) (marks : List Mark) → AreMarksOf message labels marks → HoldSignatures message marks
hold_signatures message [] [] are = All-nil (HoldsSignature message)
hold_signatures message [] (mark ∷ marks) are = absurd are
hold_signatures message (label ∷ labels) [] are = absurd are
hold_signatures message (label ∷ labels) (mark ∷ marks) are =
    All-cons (HoldsSignature message) mark marks (holds mark.read (subst (λ (l : List ℕ). IsMarkRead message l mark.read) (sym are.0.label_is) are.0.read) are.0.permitted) (hold_signatures message labels marks are.1)
  where
    holds : (read : Option (Bor LabelRead)) → IsMarkRead message mark.label.now read → mark.permitted ≡ is_some read → IsTrue mark.permitted
        → IsSomeAnd read (λ read. HasSignature message mark.label.now read.now.params read.now.tag)
    holds None none same is = absurd (false≢true (sym same ∙ is))
    holds (Some read) has same is = has

-- what is read of the labels is in range
pub marks_in_range : (message : Message) (labels : List (List ℕ)) (marks : List Mark) → AreMarksOf message labels marks → All IsMarkInRange marks
marks_in_range message [] [] are = All-nil IsMarkInRange
marks_in_range message [] (mark ∷ marks) are = absurd are
marks_in_range message (label ∷ labels) [] are = absurd are
marks_in_range message (label ∷ labels) (mark ∷ marks) are =
    All-cons IsMarkInRange mark marks (fits mark.read are.0.read) (marks_in_range message labels marks are.1)
  where
    fits : (read : Option (Bor LabelRead)) → IsMarkRead message label read → IfSome read (λ read. IsTrue (are_sig_params_in_range read.now.params))
    fits None none = tt
    fits (Some read) has = is_signature_in_range message label read.now.params read.now.tag has

still_in_range : (R : Mark → Mark → Type 0) → ((was now : Mark) → R was now → IsSameMark was now) → (was now : List Mark) → AllZip R was now → All IsMarkInRange was → All IsMarkInRange now
still_in_range R same [] [] each fits = All-nil IsMarkInRange
still_in_range R same [] (n ∷ now) each fits = absurd each
still_in_range R same (w ∷ was) [] each fits = absurd each
still_in_range R same (w ∷ was) (n ∷ now) each fits =
    let read = (same w n each.0).read in
    let here = subst (λ (r : Option (Bor LabelRead)). IfSome r (λ read. IsTrue (are_sig_params_in_range read.now.params))) (sym read) (All-head IsMarkInRange w was fits) in
    All-cons IsMarkInRange n now here (still_in_range R same was now each.1 (All-tail IsMarkInRange w was fits))

-- so it is after the walk
pub walked_in_range : (context : MessageContext) (script : List Rewrite) (was now : List Mark) (walked : Walked) → SaysWalked context script was now walked → All IsMarkInRange was → All IsMarkInRange now
walked_in_range context script was now (To text) leads fits =
    still_in_range (IsMarkedAfter context script leads.0) (λ w n marked. marked.same) was now leads.3 fits
walked_in_range context script was now (Stopped index) leads fits = still_in_range IsSameMark (λ w n same. same) was now leads.1 fits

pub more_marks : (message : Message) (labels : List (List ℕ)) (n : ℕ) (label : List ℕ) (marks : List Mark) (mark : Mark) → n < length labels → label ≡ get_or labels n label
    → AreMarksOf message (take n labels) marks → IsMarkOf message label mark → AreMarksOf message (take (n + 1) labels) (marks ++ mark ∷ [])
more_marks message labels n label marks mark lt is all one =
    zip_next (IsMarkOf message) labels marks n label mark (slice_get-get_or labels n label lt ∙ ap Some (sym is)) all one

module _ (context : MessageContext) (index : ℕ) (script : List Rewrite) (after : Message) (labels : List (List ℕ)) (marks : List Mark) (explained : Bool) where
  pub no_lines : (was : List AuditLine) → AreAddedSoFar context index script after labels 0 was was
  no_lines was hop between = ([], tt, sym (append-nil was))

  module _ (judged : AreJudged context index script after labels marks explained) (n : ℕ) (was now : List AuditLine) (so_far : AreAddedSoFar context index script after labels n was now) where
    pub more_lines : (mark : Mark) (line : AuditLine) → n < length marks → mark ≡ get_or marks n mark
        → ((hop : PlacedHop) → IsJudged context hop after index explained mark → IsLabelLine context hop mark.label.now line)
        → AreAddedSoFar context index script after labels (n + 1) was (now ++ line ∷ [])
    more_lines mark line lt is line_is hop between =
        let own = so_far hop between in
        let here = zip_here (λ label mark. (mark.label.now ≡ label) × IsJudged context hop after index explained mark) labels marks n mark (judged hop between)
        (slice_get-get_or marks n mark lt ∙ ap Some (sym is)) in
        let said = subst (λ (l : List ℕ). IsLabelLine context hop l line) here.2.0 (line_is hop here.2.1) in (
          own.0 ++ line ∷ [],
          zip_next (IsLabelLine context hop) labels own.0 n here.0 line here.1 own.1 said,
          ap (λ (l : List AuditLine). l ++ line ∷ []) own.2 ∙ append_assoc was own.0 (line ∷ []),
        )

    pub all_lines : length marks ≤ n → (hop : PlacedHop) → IsHopBetween context index script after hop
        → (own : List AuditLine) × AllZip (IsLabelLine context hop) labels own × (now ≡ was ++ own)
    all_lines end hop between =
        let own = so_far hop between in
        let long = AllZip-long (λ label mark. (mark.label.now ≡ label) × IsJudged context hop after index explained mark) labels marks (judged hop between) in
        (own.0, subst (λ (l : List (List ℕ)). AllZip (IsLabelLine context hop) l own.0) (take_all n labels (omega (arith, long, end))) own.1, own.2)

-- the line of the hop, and those of the labels before it
pub hop_added : (context : MessageContext) (index : ℕ) (script : List Rewrite) (after : Message) (labels : List (List ℕ)) (explained : Bool) (stopped : Option ℕ) (was first now : List AuditLine)
    → AreLabels context.message labels → IsExplanation context script after explained stopped → first ≡ was ++ HopLine index explained stopped ∷ []
    → ((hop : PlacedHop) → IsHopBetween context index script after hop → (own : List AuditLine) × AllZip (IsLabelLine context hop) labels own × (now ≡ first ++ own))
    → AddsHopLines context index script after was now
hop_added context index script after labels explained stopped was first now labels_are is begins all hop between =
    let own = all hop between in
    let line = HopLine index explained stopped in
    record {
      line = line;
      is = (
        sym between.index_is,
        subst (λ (m : Message). IsExplanation context hop.script m explained stopped) (sym between.after_is)
            (subst (λ (s : List Rewrite). IsExplanation context s after explained stopped) (sym between.script_is) is),
      );
      labels = labels;
      labels_are = labels_are;
      own = own.0;
      each = own.1;
      added = own.2 ∙ ap (λ (l : List AuditLine). l ++ own.0) begins ∙ append_assoc was (line ∷ []) own.0;
    }

-- what holds in a context and of another message holds in the same ones
pub in_same : (Holds : MessageContext → Message → Type 0) (was now : MessageContext) (before after : Message) → Holds was before → was ≡ now → before ≡ after → Holds now after
in_same Holds was now before after holds w b = subst (λ (m : MessageContext). Holds m after) w (subst (λ (o : Message). Holds was o) b holds)

pub on_ok : {T E P Q : Type 0} (result : Result T E) → (P → Q) → OnOk result P → OnOk result Q
on_ok (Ok value) both is = both is
on_ok (Err error) both is = tt
