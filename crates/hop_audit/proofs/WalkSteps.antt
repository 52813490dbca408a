-- Steps one by one, each label marked by whether its signature permits them.
use Rattle.std.proofs.Common.{◌≡◌, ◌<◌, ◌≤◌, ◌+◌, ℕ, true, Bor, Option, Some, None, List, [], ◌∷◌, ◌++◌, length, get_or, set, take, drop, length-drop, Ok, refl, sym, ap, subst, ◌∙◌, arith}
use Rattle.std.specs.Prelude.{IsTrue, IsSomeAnd}
use Rattle.std.specs.List.{AllZip, list_all}
use Rattle.std.proofs.lemmas.Bool.{and_parts}
use Rattle.std.proofs.lemmas.Fn.{FoldsTo-push, chained_keeps}
use Rattle.std.proofs.lemmas.List.{drop-set-lt, drop_more, take_all, take_more, take_more_set}
use Rattle.std.proofs.lemmas.List.Folds.{list_all-append}
use Rattle.std.proofs.lemmas.List.Elements.{All-cons, All-head, All-nil, All-tail, AllZip-push}
use Rattle.msg_body.specs.Messages.{Message}
use Rattle.component_ids.specs.declared.params.SigParams.{SigParams}
use Rattle.component_values.specs.Context.{MessageContext, context_with}
use Rattle.signatures.specs.Signatures.{HasSignature}
use Rattle.signatures.specs.declared.label.LabelRead.{LabelRead}
use Rattle.signatures.proofs.Reading.{has_one_signature}
use Rattle.rewrite_script.specs.Lines.{HasValues, is_writable}
use Rattle.rewrite_script.specs.Scripts.{HaveValues}
use Rattle.rewrite_script.specs.declared.rewrite.Rewrite.{Rewrite}
use Rattle.rewrites.specs.Laws.{IsPermittedStep}
use Rattle.rewrites.specs.Permitted.{Permits}
use Rattle.rewrites.specs.Steps.{Step, Steps}
use Rattle.rewrites.specs.Walks.{EndsAt, IsInapplicableStep, IsWatchedStep, ReportsWalk, Walks}
use Rattle.rewrites.proofs.Kept.{keeps_where_permitted}
use Rattle.rewrites.proofs.KeptSteps.{values_parts}
use Rattle.hop_audit.specs.Hops.{IsPermitted}
use Rattle.hop_audit.specs.declared.walk.Mark.{Mark}
use Rattle.hop_audit.specs.declared.walk.Marks.{Marks}
use Rattle.hop_audit.specs.tools.Walked.{AreMarkedBy, AreMarkedSoFar, HoldSignatures, HoldsSignature, IsMarkedAfter, IsMarkedBy, IsSameMark, SaysWalked}
use Rattle.hop_audit.specs.declared.walk.Walked.TheVariants.{To, Stopped}
use Rattle.hop_audit.proofs.StepLists.{one_end, permitted_leads}

pub same_mark : (mark : Mark) → IsSameMark mark mark
same_mark mark = record { label = refl; read = refl }

pub same_marks : (marks : List Mark) → AllZip IsSameMark marks marks
same_marks [] = tt
same_marks (mark ∷ marks) = (same_mark mark, same_marks marks)

-- ---- the marks one by one

module _ (was now : List Mark) (index : ℕ) (mark : Mark) (others : drop index now ≡ drop index was) (within : index < length now) (is : mark ≡ get_or now index mark) where
  within_was : index < length was
  within_was = let e = ap length others in omega (arith, length-drop index now, length-drop index was, e)

  parts : get_or now index mark ∷ drop (index + 1) now ≡ get_or was index mark ∷ drop (index + 1) was
  parts = sym (drop_more now index mark within) ∙ others ∙ drop_more was index mark within_was

  mark_was : mark ≡ get_or was index mark
  mark_was = let heads : get_or now index mark ≡ get_or was index mark = cc (parts) in is ∙ heads

  -- it is marked
  pub marked_here : (context : MessageContext) (step : Rewrite) (new : Mark) → AllZip (IsMarkedBy context step) (take index was) (take index now) → IsMarkedBy context step mark new
      → AreMarkedSoFar context step was (set now index new) (index + 1)
  marked_here context step new marked by =
      let first : take (index + 1) was ≡ take index was ++ mark ∷ [] = take_more was index mark within_was ∙ ap (λ (m : Mark). take index was ++ m ∷ []) (sym mark_was) in
      let tails : drop (index + 1) now ≡ drop (index + 1) was = cc (parts) in record {
        marked = subst (λ (ms : List Mark). AllZip (IsMarkedBy context step) ms (take (index + 1) (set now index new))) (sym first)
            (subst (λ (ms : List Mark). AllZip (IsMarkedBy context step) (take index was ++ mark ∷ []) ms) (sym (take_more_set now index new within))
            (AllZip-push (IsMarkedBy context step) (take index was) (take index now) mark new marked by));
        others = drop-set-lt (index + 1) now index new (omega arith) ∙ tails;
      }

-- all are marked
pub all_marked : (context : MessageContext) (step : Rewrite) (was now : List Mark) (count : ℕ) → AreMarkedSoFar context step was now count → length now ≡ length was → length was ≤ count
    → AllZip (IsMarkedBy context step) was now
all_marked context step was now count so_far long past =
    subst (λ (ms : List Mark). AllZip (IsMarkedBy context step) ms now) (take_all count was past)
    (subst (λ (ms : List Mark). AllZip (IsMarkedBy context step) (take count was) ms) (take_all count now (omega arith)) so_far.marked)

-- ---- one step more

-- steps that lead one step further come apart
steps_parts : (label : List ℕ) (done : List Rewrite) (context : MessageContext) (step : Rewrite) (after : Message) → IsPermitted label context (done ++ step ∷ []) after
    → (met : Message) × IsPermitted label context done met × IsPermittedStep label (context_with context met) step after
steps_parts label [] context step after permitted =
    (context.message, refl, subst (λ (m : Message). IsPermittedStep label context step m) permitted.2 permitted.1)
steps_parts label (first ∷ done) context step after permitted =
    let rest = steps_parts label done (context_with context permitted.0) step after permitted.2 in
    (rest.0, (permitted.0, permitted.1, rest.1), rest.2)

module _ (context : MessageContext) (done : List Rewrite) (message : Message) (step : Rewrite) (after : Message) (lead : Steps Step context done message)
    (gives : Step (context_with context message) step after) where
  pub lead_further : Steps Step context (done ++ step ∷ []) after
  lead_further = FoldsTo-push (λ m s next. Step (context_with context m) s next) context.message done message step after lead gives

  -- a label's mark after one step more
  module _ (was now new : Mark) (marked : IsMarkedAfter context done message was now) (holds : HoldsSignature message now) (by : IsMarkedBy (context_with context message) step now new) where
    label_is : new.label.now ≡ was.label.now
    label_is = by.same.label ∙ marked.same.label

    -- where all was permitted, the message has the signature that was read
    to_permitted : (read : Option (Bor LabelRead)) → IsTrue now.permitted → IsPermitted was.label.now context done message
        → IsSomeAnd read (λ r. HasSignature message now.label.now r.now.params r.now.tag)
        → IsSomeAnd read (λ r. Permits (context_with context message) step now.label.now r.now.params)
        → IsPermitted was.label.now context (done ++ step ∷ []) after
    to_permitted None allowed permitted has permits = absurd has
    to_permitted (Some read) allowed permitted has permits =
        let has_was = subst (λ (l : List ℕ). HasSignature message l read.now.params read.now.tag) marked.same.label has in
        let permits_was = subst (λ (l : List ℕ). Permits (context_with context message) step l read.now.params) marked.same.label permits in
        FoldsTo-push (λ m s next. IsPermittedStep was.label.now (context_with context m) s next) context.message done message step after permitted
        (record { gives = gives; params = read.now.params; tag = read.now.tag; signature = has_was; permits = permits_was })

    from_permitted : (read : Option (Bor LabelRead)) → IsSomeAnd read (λ r. HasSignature message now.label.now r.now.params r.now.tag)
        → IsPermittedStep was.label.now (context_with context message) step after
        → IsSomeAnd read (λ r. Permits (context_with context message) step now.label.now r.now.params)
    from_permitted None has permitted = has
    from_permitted (Some read) has permitted =
        let has_was = subst (λ (l : List ℕ). HasSignature message l read.now.params read.now.tag) marked.same.label has in
        let one = has_one_signature message was.label.now permitted.params read.now.params permitted.tag read.now.tag permitted.signature has_was in
        subst (λ (l : List ℕ). Permits (context_with context message) step l read.now.params) (sym marked.same.label)
        (subst (λ (p : SigParams). Permits (context_with context message) step was.label.now p) one.0 permitted.permits)

    pub mark_more : IsMarkedAfter context (done ++ step ∷ []) after was new
    mark_more = record {
      same = record { label = label_is; read = by.same.read ∙ marked.same.read };
      permitted = (
        λ allowed. let here = by.permitted.0 allowed in let so_far = marked.permitted.0 here.0 in (so_far.0, to_permitted now.read here.0 so_far.1 (holds here.0) here.1),
        λ both.
            let parts = steps_parts was.label.now done context step after both.1 in
            let same = one_end context done parts.0 message (permitted_leads was.label.now done context parts.0 parts.1) lead in
            let done_permitted = subst (λ (m : Message). IsPermitted was.label.now context done m) same parts.1 in
            let last = subst (λ (m : Message). IsPermittedStep was.label.now (context_with context m) step after) same parts.2 in
            let here = marked.permitted.1 (both.0, done_permitted) in
            by.permitted.1 (here, from_permitted now.read (holds here) last),
      );
    }

    keeps_read : (writable : IsTrue (is_writable step)) (values : HasValues step) (read : Option (Bor LabelRead))
        → IsSomeAnd read (λ r. HasSignature message now.label.now r.now.params r.now.tag)
        → IsSomeAnd read (λ r. Permits (context_with context message) step now.label.now r.now.params)
        → IsSomeAnd read (λ r. HasSignature after now.label.now r.now.params r.now.tag)
    keeps_read writable values None has permits = has
    keeps_read writable values (Some read) has permits =
        (keeps_where_permitted (context_with context message) step now.label.now read.now.params read.now.tag after writable values has gives permits).signature

    -- it keeps its signature where all was permitted
    pub holds_more : IsTrue (is_writable step) → HasValues step → HoldsSignature after new
    holds_more writable values allowed =
        let here = by.permitted.0 allowed in
        let kept = keeps_read writable values now.read (holds here.0) here.1 in
        subst (λ (l : List ℕ). IsSomeAnd new.read (λ r. HasSignature after l r.now.params r.now.tag)) (sym by.same.label)
        (subst (λ (o : Option (Bor LabelRead)). IsSomeAnd o (λ r. HasSignature after now.label.now r.now.params r.now.tag)) (sym by.same.read) kept)

  -- each label's mark after one step more
  pub marks_more : (was now new : List Mark) → IsTrue (is_writable step) → HasValues step → AllZip (IsMarkedAfter context done message) was now → HoldSignatures message now
      → AllZip (IsMarkedBy (context_with context message) step) now new → AllZip (IsMarkedAfter context (done ++ step ∷ []) after) was new × HoldSignatures after new
  marks_more [] [] [] writable values marked holds by = (tt, All-nil (HoldsSignature after))
  marks_more [] [] (n ∷ new) writable values marked holds by = absurd by
  marks_more [] (m ∷ now) new writable values marked holds by = absurd marked
  marks_more (w ∷ was) [] new writable values marked holds by = absurd marked
  marks_more (w ∷ was) (m ∷ now) [] writable values marked holds by = absurd by
  marks_more (w ∷ was) (m ∷ now) (n ∷ new) writable values marked holds by =
      let here = All-head (HoldsSignature message) m now holds in
      let rest = marks_more was now new writable values marked.1 (All-tail (HoldsSignature message) m now holds) by.1 in (
        (mark_more w m n marked.0 here by.0, rest.0),
        All-cons (HoldsSignature after) n new (holds_more w m n marked.0 here by.0 writable values) rest.1,
      )

-- before any step
pub marks_begun : (context : MessageContext) (marks : List Mark) → AllZip (IsMarkedAfter context [] context.message) marks marks
marks_begun context [] = tt
marks_begun context (mark ∷ marks) = (record { same = same_mark mark; permitted = (λ allowed. (allowed, refl), λ both. both.0) }, marks_begun context marks)

-- what is marked on is the same label still
same_still : (was now new : List Mark) → AllZip IsSameMark was now → AllZip IsSameMark now new → AllZip IsSameMark was new
same_still [] [] [] first second = tt
same_still [] [] (n ∷ new) first second = absurd second
same_still [] (m ∷ now) new first second = absurd first
same_still (w ∷ was) [] new first second = absurd first
same_still (w ∷ was) (m ∷ now) [] first second = absurd second
same_still (w ∷ was) (m ∷ now) (n ∷ new) first second =
    (record { label = second.0.label ∙ first.0.label; read = second.0.read ∙ first.0.read }, same_still was now new first.1 second.1)

marked_same : (context : MessageContext) (step : Rewrite) (now new : List Mark) → AllZip (IsMarkedBy context step) now new → AllZip IsSameMark now new
marked_same context step [] [] by = tt
marked_same context step [] (n ∷ new) by = absurd by
marked_same context step (m ∷ now) [] by = absurd by
marked_same context step (m ∷ now) (n ∷ new) by = (by.0.same, marked_same context step now new by.1)

-- ---- walks

module _ (context : MessageContext) (was : Marks) (holds : HoldSignatures context.message was.marks.items) where
  -- where steps lead, and how the labels are marked then
  record IsWalked (done : List Rewrite) (at : Message × Marks) : Type 0 where
    pub lead : Steps Step context done at.0
    pub same : AllZip IsSameMark was.marks.items at.1.marks.items
    pub marked : list_all is_writable done ≡ true → HaveValues done
        → AllZip (IsMarkedAfter context done at.0) was.marks.items at.1.marks.items × HoldSignatures at.0 at.1.marks.items

  begun : IsWalked [] (context.message, was)
  begun = record {
    lead = refl;
    same = same_marks was.marks.items;
    marked = λ writable values. (marks_begun context was.marks.items, holds);
  }

  one_more : (done : List Rewrite) (at : Message × Marks) (step : Rewrite) (next : Message × Marks) → IsWalked done at
      → IsWatchedStep AreMarkedBy (context_with context at.0) at.1 step next.0 next.1 → IsWalked (done ++ step ∷ []) next
  one_more done at step next so_far taken = record {
    lead = lead_further context done at.0 step next.0 so_far.lead taken.gives;
    same = same_still was.marks.items at.1.marks.items next.1.marks.items so_far.same
        (marked_same (context_with context at.0) step at.1.marks.items next.1.marks.items taken.judged.0);
    marked = λ writable values.
        let parts = and_parts (list_all is_writable done) (list_all is_writable (step ∷ [])) (sym (list_all-append is_writable done (step ∷ [])) ∙ writable) in
        let one = and_parts (is_writable step) true parts.1 in
        let both = values_parts done step values in
        let before = so_far.marked parts.0 both.0 in
        marks_more context done at.0 step next.0 so_far.lead taken.gives was.marks.items at.1.marks.items next.1.marks.items one.0 both.1 before.0 before.1 taken.judged.0;
  }

  walked : (steps : List Rewrite) (after : Message) (now : Marks) → Walks AreMarkedBy context was steps after now → IsWalked steps (after, now)
  walked steps after now leads =
      chained_keeps (λ (at : Message × Marks) step (next : Message × Marks). IsWatchedStep AreMarkedBy (context_with context at.0) at.1 step next.0 next.1) IsWalked one_more steps
      (context.message, was) (after, now) begun leads

  -- what the walk reports is said of the marks
  pub walk_done : (steps : List Rewrite) (now : Marks) (text : List ℕ) → list_all is_writable steps ≡ true → HaveValues steps → ReportsWalk AreMarkedBy context was steps now (Ok text)
      → SaysWalked context steps was.marks.items now.marks.items (To text)
  walk_done steps now text writable values report =
      let all = walked steps report.0 now report.1 in
      (report.0, report.2, all.lead, (all.marked writable values).0)

  pub walk_stopped : (steps : List Rewrite) (now : Marks) (index : ℕ) → EndsAt AreMarkedBy context was steps index now IsInapplicableStep
      → SaysWalked context steps was.marks.items now.marks.items (Stopped index)
  walk_stopped steps now index ends =
      let all = walked (take index steps) ends.message ends.watcher ends.lead in (
        record {
          met = ends.message;
          before = all.lead;
          step = ends.step;
          there = ends.there;
          stops = ends.why.1;
        },
        same_still was.marks.items ends.watcher.marks.items now.marks.items all.same
            (marked_same (context_with context ends.message) ends.step ends.watcher.marks.items now.marks.items ends.judged.0),
      )
