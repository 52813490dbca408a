-- A message whose content is sent in another way is the same for a signature that permits it.
use Rattle.std.proofs.Common.{◌≡◌, ℕ, Bool, true, false, ◌&&◌, ◌||◌, List, [], ◌∷◌, ◌++◌, refl, sym, ap, subst, ◌∙◌, inl, inr, codes}
use Rattle.std.specs.List.{join_by, list_any}
use Rattle.std.specs.Str.{bytes_eq}
use Rattle.std.proofs.lemmas.Bool.{and_parts, both_ways, false_from_ne_true, false≢true, or_cases, or_left, or_right}
use Rattle.std.proofs.lemmas.Slice.Eq.{bytes_eq-Decides}
use Rattle.msg_head.specs.Lines.{FieldLine}
use Rattle.msg_head.specs.Names.{has_name}
use Rattle.msg_head.specs.declared.error.Side.{Side}
use Rattle.msg_head.specs.declared.error.Side.TheVariants.{Header, Trailer}
use Rattle.framing.specs.Chunks.{content_of}
use Rattle.msg_body.specs.Bodies.{Body, plain, chunked, trailers_in}
use Rattle.msg_body.specs.Messages.{Message}
use Rattle.msg_body.specs.Views.{lines_on, message_content}
use Rattle.msg_body.specs.SameFields.{HasSameField, HasSameValues}
use Rattle.msg_body.proofs.LineLists.{keeps_other_names_around}
use Rattle.component_ids.specs.Table.{has_param}
use Rattle.component_ids.specs.declared.id.ComponentId.{ComponentId}
use Rattle.component_ids.specs.declared.params.SigParams.{SigParams}
use Rattle.component_values.specs.Context.{MessageContext}
use Rattle.signatures.specs.Signatures.{input_name, signature_name}
use Rattle.rewrite_script.specs.declared.rewrite.WholeRewrite.TheVariants.{AddLabel, Rechunk, Chunk, Dechunk, Origin, Absolute, Host, Query, Resf}
use Rattle.line_rewrites.specs.Covered.{covers_field, covers_lines, is_field_on}
use Rattle.line_rewrites.specs.SameFor.{SameFor}
use Rattle.whole_rewrites.specs.Content.{IsSentAs, coding_line, length_line}
use Rattle.whole_rewrites.specs.Laws.{IsSameWhereContentPermitted}
use Rattle.whole_rewrites.specs.Lines.{IsLineFor}
use Rattle.whole_rewrites.specs.Permitted.{MayFrameAnew, PermitsWhole}
use Rattle.whole_rewrites.specs.Steps.{GivesWhole}
use Rattle.whole_rewrites.proofs.ContentKinds.{chunk_exact, dechunk_exact, rechunk_exact}

-- ---- values of one list and another

itself : (lines : List FieldLine) (name : List ℕ) → HasSameValues lines lines name
itself lines name = record { there = refl; same = refl }

then : (lines others more : List FieldLine) (name : List ℕ) → HasSameValues lines others name → HasSameValues others more name → HasSameValues lines more name
then lines others more name a b = record { there = b.there ∙ a.there; same = b.same ∙ a.same }

turned : (lines others : List FieldLine) (name : List ℕ) → HasSameValues lines others name → HasSameValues others lines name
turned lines others name a = record { there = sym a.there; same = sym a.same }

field_of_values : (lines others : List FieldLine) (name : List ℕ) → HasSameValues lines others name → HasSameField lines others name
field_of_values lines others name same = record {
  there = same.there;
  combined = ap (λ (texts : List (List ℕ)). join_by (λ (text : List ℕ). text) (codes ", ") texts) same.same;
}

-- ---- what is covered

any_weaker : (test more : ComponentId → Bool) (ids : List ComponentId) → list_any (λ id. test id && more id) ids ≡ true → list_any test ids ≡ true
any_weaker test more [] any = any
any_weaker test more (id ∷ ids) any = elim (or_cases (test id && more id) (list_any (λ id. test id && more id) ids) any) [
  | inl first ↦ or_left (test id) (list_any test ids) (and_parts (test id) (more id) first).0
  | inr rest ↦ or_right (test id) (list_any test ids) (any_weaker test more ids rest)
]

-- what is covered line by line is covered
lines_covered : (side : Side) (name : List ℕ) (params : SigParams) → covers_lines side name params ≡ true → covers_field side name params ≡ true
lines_covered side name params covered = any_weaker (is_field_on side name) (λ id. has_param id.params (codes "bs")) params.ids covered

-- a name that a test fails isn't one that passes it
not_same : (test : List ℕ → Bool) (name other : List ℕ) → test other ≡ false → test name ≡ true → bytes_eq other name ≡ false
not_same test name other fails passes =
    false_from_ne_true (bytes_eq other name) (λ is. both_ways (test name) (sym (ap test ((bytes_eq-Decides other name).0 is)) ∙ fails) passes)

-- the name is of neither field that frames
pub record IsOther (name : List ℕ) : Type 0 where
  pub length : bytes_eq (codes "content-length") name ≡ false
  pub coding : bytes_eq (codes "transfer-encoding") name ≡ false

covered_other : (params : SigParams) (name : List ℕ) → MayFrameAnew params → covers_field Header name params ≡ true → IsOther name
covered_other params name may covered =
    let test : List ℕ → Bool = λ n. covers_field Header n params in
    let second : (test (codes "transfer-encoding") || false) ≡ false = second_false (test (codes "content-length")) _ may in
    record {
      length = not_same test name (codes "content-length") (first_false (test (codes "content-length")) _ may) covered;
      coding = not_same test name (codes "transfer-encoding") (first_false (test (codes "transfer-encoding")) false second) covered;
    }
  where
    first_false : (a b : Bool) → (a || b) ≡ false → a ≡ false
    first_false true b e = absurd (false≢true (sym e))
    first_false false b e = refl

    second_false : (a b : Bool) → (a || b) ≡ false → b ≡ false
    second_false true b e = absurd (false≢true (sym e))
    second_false false b e = e

-- ---- the same for a signature

-- the messages have one start line, one content, the same lines in the trailer section, and in the header the same of each name that doesn't frame
pub record IsSentAnew (message other : Message) : Type 0 where
  pub start : other.head.start ≡ message.head.start
  pub content : message_content other ≡ message_content message
  pub trailers : lines_on Trailer other ≡ lines_on Trailer message
  pub header : (name : List ℕ) → IsOther name → HasSameValues (lines_on Header message) (lines_on Header other) name

pub same_sent : (params : SigParams) (message other : Message) → MayFrameAnew params → IsSentAnew message other → SameFor params message other
same_sent params message other may is = record {
  start = is.start;
  content = is.content;
  fields = λ side name covered. field_of_values (lines_on side message) (lines_on side other) name (kept side name covered);
  lines = λ side name covered. kept side name (lines_covered side name params covered);
  hosts = is.header (codes "host") (record { length = refl; coding = refl });
  input = field_of_values (lines_on Header message) (lines_on Header other) input_name (is.header input_name (record { length = refl; coding = refl }));
  signature = field_of_values (lines_on Header message) (lines_on Header other) signature_name (is.header signature_name (record { length = refl; coding = refl }));
}
  where
    kept : (side : Side) (name : List ℕ) → covers_field side name params ≡ true → HasSameValues (lines_on side message) (lines_on side other) name
    kept Header name covered = is.header name (covered_other params name may covered)
    kept Trailer name covered = subst (λ (ls : List FieldLine). HasSameValues (lines_on Trailer message) ls name) (sym is.trailers) (itself (lines_on Trailer message) name)

-- another line in place of one changes nothing of a name that neither has
pub others_kept : (own : List ℕ) (new : FieldLine) (lines replaced : List FieldLine) → IsLineFor own new lines replaced → (name : List ℕ) → bytes_eq own name ≡ false → has_name name new ≡ false
    → HasSameValues lines replaced name
others_kept own new lines replaced is name other other_new =
    let was : has_name name is.line ≡ false = ap (λ (n : List ℕ). bytes_eq n name) is.named ∙ other in
    let now : has_name name is.other ≡ false = ap (has_name name) is.becomes ∙ other_new in
    let one = is.before ++ is.line ∷ is.after in
    let two = is.before ++ is.other ∷ is.after in
    let same = then one (is.before ++ is.after) two name
    (turned (is.before ++ is.after) one name (keeps_other_names_around is.before is.after is.line name was))
    (keeps_other_names_around is.before is.after is.other name now) in
    subst (λ (ls : List FieldLine). HasSameValues lines ls name) (sym is.replaced_are) (subst (λ (ls : List FieldLine). HasSameValues ls two name) (sym is.lines_are) same)

sent_anew : (context : MessageContext) (own : List ℕ) (new : FieldLine) (body : Body) (after : Message) → IsSentAs context own new body after → message_content after ≡ message_content context.message
    → trailers_in body ≡ lines_on Trailer context.message → ((name : List ℕ) → IsOther name → bytes_eq own name ≡ false) → ((name : List ℕ) → IsOther name → has_name name new ≡ false)
    → IsSentAnew context.message after
sent_anew context own new body after is content trailers other other_new = record {
  start = ap (λ (m : Message). m.head.start) is.made_is;
  content = content;
  trailers = ap (λ (m : Message). lines_on Trailer m) is.made_is ∙ trailers;
  header = λ name not.
      subst (λ (ls : List FieldLine). HasSameValues context.message.head.lines ls name) (sym (ap (λ (m : Message). m.head.lines) is.made_is))
      (others_kept own new context.message.head.lines is.lines is.line name (other name not) (other_new name not));
}

pub chunk_same : (sizes : List ℕ) (context : MessageContext) (params : SigParams) (after : Message) → GivesWhole context (Chunk sizes) after → PermitsWhole context (Chunk sizes) params
    → SameFor params context.message after
chunk_same sizes context params after gives permits =
    let is = gives.makes in
    same_sent params context.message after permits
    (sent_anew context (codes "content-length") coding_line (chunked is.chunks []) after is.sent ((chunk_exact sizes).content context after is) (sym (ap trailers_in is.body_is))
    (λ name other. other.length) (λ name other. other.coding))

pub dechunk_same : (context : MessageContext) (params : SigParams) (after : Message) → GivesWhole context Dechunk after → PermitsWhole context Dechunk params → SameFor params context.message after
dechunk_same context params after gives permits =
    let is = gives.makes in
    same_sent params context.message after permits
    (sent_anew context (codes "transfer-encoding") (length_line _) (plain (content_of is.chunks)) after is.sent (dechunk_exact.content context after is) (sym (ap trailers_in is.body_is))
    (λ name other. other.coding) (λ name other. other.length))

-- the same lines on both sides
lines_same : (params : SigParams) (message other : Message) → other.head.start ≡ message.head.start → message_content other ≡ message_content message
    → ((side : Side) → lines_on side other ≡ lines_on side message) → SameFor params message other
lines_same params message other start content lines =
    let same : (side : Side) (name : List ℕ) → HasSameValues (lines_on side message) (lines_on side other) name =
    λ side name. subst (λ (ls : List FieldLine). HasSameValues (lines_on side message) ls name) (sym (lines side)) (itself (lines_on side message) name) in
    let field : (side : Side) (name : List ℕ) → HasSameField (lines_on side message) (lines_on side other) name =
    λ side name. field_of_values (lines_on side message) (lines_on side other) name (same side name) in
    record {
      start = start;
      content = content;
      fields = λ side name covered. field side name;
      lines = λ side name covered. same side name;
      hosts = same Header (codes "host");
      input = field Header input_name;
      signature = field Header signature_name;
    }

pub rechunk_same : (sizes : List ℕ) (context : MessageContext) (params : SigParams) (after : Message) → GivesWhole context (Rechunk sizes) after → PermitsWhole context (Rechunk sizes) params
    → SameFor params context.message after
rechunk_same sizes context params after gives permits =
    let is = gives.makes in
    lines_same params context.message after (ap (λ (m : Message). m.head.start) is.made_is) ((rechunk_exact sizes).content context after is) on
  where
    on : (side : Side) → lines_on side after ≡ lines_on side context.message
    on Header = ap (λ (m : Message). m.head.lines) gives.makes.made_is
    on Trailer = ap (λ (m : Message). trailers_in m.body) gives.makes.made_is ∙ sym (ap trailers_in gives.makes.body_is)

pub same_where_permitted : IsSameWhereContentPermitted
same_where_permitted context (Rechunk sizes) params after is gives permits = rechunk_same sizes context params after gives permits
same_where_permitted context (Chunk sizes) params after is gives permits = chunk_same sizes context params after gives permits
same_where_permitted context Dechunk params after is gives permits = dechunk_same context params after gives permits
same_where_permitted context (AddLabel added tag text) params after is gives permits = absurd (false≢true is)
same_where_permitted context Origin params after is gives permits = absurd (false≢true is)
same_where_permitted context Absolute params after is gives permits = absurd (false≢true is)
same_where_permitted context (Host text) params after is gives permits = absurd (false≢true is)
same_where_permitted context (Query text) params after is gives permits = absurd (false≢true is)
same_where_permitted context (Resf side name) params after is gives permits = absurd (false≢true is)
