-- The text of a message, part by part.
use Rattle.std.proofs.Common.{◌≡◌, ◌==◌, ℕ, ◌+◌, Bool, true, false, Result, Ok, Err, OnOk, List, [], ◌∷◌, ◌++◌, length, map, refl, sym, ap, ◌∙◌, arith, append_assoc, codes}
use Rattle.std.specs.Prelude.{nat_lt, if◌then◌else◌}
use Rattle.std.specs.List.{flat_map, sum}
use Rattle.std.proofs.lemmas.Bool.{eq-eqb}
use Rattle.std.proofs.lemmas.Grind.{flat_map-append}
use Rattle.std.proofs.lemmas.List.{append-nil, take_all}
use Rattle.std.proofs.lemmas.List.Sums.{sum_by-cons}
use Rattle.framing.specs.Chunks.{Chunks, chunks_text}
use Rattle.framing.specs.Sizes.{add_up_to, chunk_of, sized_chunks}
use Rattle.msg_head.specs.Heads.{head_text}
use Rattle.msg_head.specs.Lines.{line_of, line_text}
use Rattle.msg_head.specs.Starts.{start_text}
use Rattle.msg_body.specs.Bodies.{body_text}
use Rattle.msg_body.specs.Messages.{message_text}
use Rattle.list_texts.specs.declared.list.Field.{Field}
use Rattle.list_texts.specs.declared.list.FieldList.{FieldList}
use Rattle.field_lists.specs.Controls.{Control, RequestControl, request, response}
use Rattle.field_lists.specs.ToMessages.{body_with, coding_lines, head_lines, head_with, host_lines, is_in_chunks, line_of_field, message_with, one_chunk, start_of}
use Rattle.field_lists.specs.tools.Sizes.{sizes_of}
use Rattle.field_lists.proofs.MessageRows.{none_in}

pub on_ok : {T E P Q : Type 0} (result : Result T E) → (P → Q) → OnOk result P → OnOk result Q
on_ok (Ok v) f is = f is
on_ok (Err e) f is = tt

-- ---- the head

pub request_written : (old : List ℕ) (c : RequestControl) → ((old ++ (c.method ++ codes " ")) ++ (c.path ++ codes " HTTP/1.1\r\n")) ++ line_text (line_of (codes "host") c.authority)
    ≡ old ++ (start_text (start_of (request c)) ++ flat_map line_text (host_lines (request c)))
request_written old c = simp (append_assoc, append-nil)

pub status_written : (old code : List ℕ) → (old ++ (codes "HTTP/1.1 " ++ code)) ++ codes " \r\n" ≡ old ++ (start_text (start_of (response code)) ++ flat_map line_text (host_lines (response code)))
status_written old code = simp (append_assoc, append-nil)

pub head_written : (old : List ℕ) (control : Control) (others : List Field) (in_chunks : Bool)
    → (((old ++ (start_text (start_of control) ++ flat_map line_text (host_lines control))) ++ flat_map line_text (map line_of_field others)) ++ flat_map line_text (coding_lines in_chunks)) ++ codes "\r\n"
    ≡ old ++ head_text (head_with control others in_chunks)
head_written old control others in_chunks =
    let start = start_text (start_of control) in
    let host = flat_map line_text (host_lines control) in
    let fields = flat_map line_text (map line_of_field others) in
    let coding = flat_map line_text (coding_lines in_chunks) in
    let lines : flat_map line_text (head_lines control others in_chunks) ≡ host ++ (fields ++ coding) =
    flat_map-append line_text (host_lines control) (map line_of_field others ++ coding_lines in_chunks)
    ∙ ap (λ (t : List ℕ). host ++ t) (flat_map-append line_text (map line_of_field others) (coding_lines in_chunks)) in
    let moved : (((old ++ (start ++ host)) ++ fields) ++ coding) ++ codes "\r\n" ≡ old ++ (start ++ ((host ++ (fields ++ coding)) ++ codes "\r\n")) = joined old start host fields coding (codes "\r\n") in
    moved ∙ ap (λ (t : List ℕ). old ++ (start ++ (t ++ codes "\r\n"))) (sym lines)
  where
    joined : (a b c d e f : List ℕ) → (((a ++ (b ++ c)) ++ d) ++ e) ++ f ≡ a ++ (b ++ ((c ++ (d ++ e)) ++ f))
    joined a b c d e f = simp append_assoc

-- ---- the body

adds_by : (some : Bool) (content : List ℕ) → nat_lt 0 (length content) ≡ some → add_up_to (length content) (if some then length content ∷ [] else []) ≡ true
adds_by true content is =
    let n = length content in
    let whole : sum (n ∷ []) ≡ n + sum [] = sum_by-cons (λ (m : ℕ). m) n [] in
    let none : sum [] ≡ 0 = refl in
    let same : sum (n ∷ []) ≡ n = omega (arith, whole, none) in
    eq-eqb (sum (n ∷ [])) n same
adds_by false content is = ap (λ (t : List ℕ). 0 == length t) (none_in content is)

pub adds_up : (content : List ℕ) → add_up_to (length content) (sizes_of content) ≡ true
adds_up content = adds_by (nat_lt 0 (length content)) content refl

sized_by : (some : Bool) (content : List ℕ) → sized_chunks (if some then length content ∷ [] else []) content ≡ record { chunks = if some then chunk_of content ∷ [] else []; last = codes "0" }
sized_by true content = ap (λ (t : List ℕ). record { chunks = chunk_of t ∷ []; last = codes "0" }) (take_all (length content) content (omega arith))
sized_by false content = refl

pub sized_is : (content : List ℕ) → sized_chunks (sizes_of content) content ≡ one_chunk content
sized_is content = sized_by (nat_lt 0 (length content)) content

pub body_written : (old : List ℕ) (list : FieldList) → ((old ++ chunks_text (one_chunk list.content)) ++ flat_map line_text (map line_of_field list.trailers)) ++ codes "\r\n" ≡ old ++ body_text (body_with true list)
body_written old list =
    append_assoc (old ++ chunks_text (one_chunk list.content)) (flat_map line_text (map line_of_field list.trailers)) (codes "\r\n")
    ∙ append_assoc old (chunks_text (one_chunk list.content)) (flat_map line_text (map line_of_field list.trailers) ++ codes "\r\n")

-- ---- step by step

pub request_start : (old one two new : List ℕ) (c : RequestControl) → one ≡ old ++ (c.method ++ codes " ") → two ≡ one ++ (c.path ++ codes " HTTP/1.1\r\n") → new ≡ two ++ line_text (line_of (codes "host") c.authority)
    → new ≡ old ++ (start_text (start_of (request c)) ++ flat_map line_text (host_lines (request c)))
request_start old one two new c first second third =
    let host = line_text (line_of (codes "host") c.authority) in
    let front : two ≡ (old ++ (c.method ++ codes " ")) ++ (c.path ++ codes " HTTP/1.1\r\n") = second ∙ ap (λ (t : List ℕ). t ++ (c.path ++ codes " HTTP/1.1\r\n")) first in
    third ∙ (ap (λ (t : List ℕ). t ++ host) front ∙ request_written old c)

pub status_start : (old one new code : List ℕ) → one ≡ old ++ (codes "HTTP/1.1 " ++ code) → new ≡ one ++ codes " \r\n" → new ≡ old ++ (start_text (start_of (response code)) ++ flat_map line_text (host_lines (response code)))
status_start old one new code first second = second ∙ (ap (λ (t : List ℕ). t ++ codes " \r\n") first ∙ status_written old code)

pub head_parts : (old one two three new : List ℕ) (control : Control) (others : List Field) (in_chunks : Bool) → one ≡ old ++ (start_text (start_of control) ++ flat_map line_text (host_lines control)) → two ≡ one ++ flat_map line_text (map line_of_field others)
    → three ≡ two ++ flat_map line_text (coding_lines in_chunks) → new ≡ three ++ codes "\r\n" → new ≡ old ++ head_text (head_with control others in_chunks)
head_parts old one two three new control others in_chunks first second third last =
    let fields = flat_map line_text (map line_of_field others) in
    let coding = flat_map line_text (coding_lines in_chunks) in
    last
    ∙ (ap (λ (t : List ℕ). t ++ codes "\r\n") (third ∙ ap (λ (t : List ℕ). t ++ coding) (second ∙ ap (λ (t : List ℕ). t ++ fields) first)) ∙ head_written old control others in_chunks)

-- the content in one chunk
pub chunk_written : (old new content sizes : List ℕ) → sizes ≡ sizes_of content → new ≡ old ++ chunks_text (sized_chunks sizes content) → new ≡ old ++ chunks_text (one_chunk content)
chunk_written old new content sizes is e =
    e ∙ (ap (λ (ss : List ℕ). old ++ chunks_text (sized_chunks ss content)) is ∙ ap (λ (cs : Chunks). old ++ chunks_text cs) (sized_is content))

pub plain_body : (old new bytes : List ℕ) (list : FieldList) (in_chunks : Bool) → in_chunks ≡ false → bytes ≡ list.content → new ≡ old ++ bytes → new ≡ old ++ body_text (body_with in_chunks list)
plain_body old new bytes list in_chunks plain is e =
    e ∙ (ap (λ (t : List ℕ). old ++ t) is ∙ ap (λ (b : Bool). old ++ body_text (body_with b list)) (sym plain))

pub body_parts : (old one two new content : List ℕ) (trailers : List Field) (list : FieldList) → content ≡ list.content → trailers ≡ list.trailers → one ≡ old ++ chunks_text (one_chunk content)
    → two ≡ one ++ flat_map line_text (map line_of_field trailers) → new ≡ two ++ codes "\r\n" → new ≡ old ++ body_text (body_with true list)
body_parts old one two new content trailers list content_is trailers_are first second last =
    let begun : one ≡ old ++ chunks_text (one_chunk list.content) = first ∙ ap (λ (t : List ℕ). old ++ chunks_text (one_chunk t)) content_is in
    let lines : two ≡ one ++ flat_map line_text (map line_of_field list.trailers) = second ∙ ap (λ (fs : List Field). one ++ flat_map line_text (map line_of_field fs)) trailers_are in
    last
    ∙ (ap (λ (t : List ℕ). t ++ codes "\r\n") (lines ∙ ap (λ (t : List ℕ). t ++ flat_map line_text (map line_of_field list.trailers)) begun) ∙ body_written old list)

pub body_in_chunks : (old new : List ℕ) (list : FieldList) (in_chunks : Bool) → in_chunks ≡ true → new ≡ old ++ body_text (body_with true list) → new ≡ old ++ body_text (body_with in_chunks list)
body_in_chunks old new list in_chunks chunked e = e ∙ ap (λ (b : Bool). old ++ body_text (body_with b list)) (sym chunked)

pub whole_written : (empty one two : List ℕ) (control : Control) (others : List Field) (list : FieldList) (in_chunks : Bool) → in_chunks ≡ is_in_chunks control others list → empty ≡ [] → one ≡ empty ++ head_text (head_with control others in_chunks)
    → two ≡ one ++ body_text (body_with in_chunks list) → two ≡ message_text (message_with control others list)
whole_written empty one two control others list in_chunks chunked none first second =
    let head = head_text (head_with control others in_chunks) in
    let begun : one ≡ head = first ∙ ap (λ (t : List ℕ). t ++ head) none in
    second
    ∙ (ap (λ (t : List ℕ). t ++ body_text (body_with in_chunks list)) begun ∙ ap (λ (b : Bool). head_text (head_with control others b) ++ body_text (body_with b list)) chunked)
