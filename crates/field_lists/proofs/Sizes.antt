-- How many bytes a head and a trailer section have, and the limits that they pass.
use Rattle.std.proofs.Common.{◌≡◌, ℕ, ◌+◌, ◌<◌, ◌≤◌, Bool, true, false, Option, Some, None, List, [], ◌∷◌, ◌++◌, length, map, refl, sym, ap, subst, ◌∙◌, arith, codes}
use Rattle.std.specs.Prelude.{is_some, nat_le, nat_lt}
use Rattle.std.specs.List.{flat_map}
use Rattle.std.proofs.lemmas.Bool.{false≢true, le-leb, leb-false, leb-true, lt-leb, ltb-false, ltb-true}
use Rattle.std.proofs.lemmas.Grind.{flat_map-append}
use Rattle.std.proofs.lemmas.List.{length-append, length-map}
use Rattle.byte_grammar.specs.Causes.{IsFirst}
use Rattle.msg_head.specs.declared.limits.TheConstants.{MAX_HEAD_BYTES, MAX_HEAD_LINES}
use Rattle.msg_head.specs.Heads.{head_text}
use Rattle.msg_head.specs.Lines.{FieldLine, line_text}
use Rattle.msg_head.specs.Starts.{start_text}
use Rattle.msg_head.specs.Trailers.{trailer_text}
use Rattle.msg_body.specs.Bodies.{trailers_in}
use Rattle.list_texts.specs.declared.list.Field.{Field}
use Rattle.list_texts.specs.declared.list.FieldList.{FieldList}
use Rattle.field_lists.specs.declared.to_fault.MessageLimit.{MessageLimit}
use Rattle.field_lists.specs.declared.to_fault.MessageLimit.TheVariants.{HeadBytes, TrailerBytes, HeadLines, TrailerLines}
use Rattle.field_lists.specs.Controls.{Control, request, response}
use Rattle.field_lists.specs.ToCauses.{Passes, is_body_refused, limit_order}
use Rattle.field_lists.specs.ToMessages.{body_with, coding_lines, head_lines, head_with, host_lines, is_in_chunks, line_of_field, message_with, start_of}
use Rattle.field_lists.specs.tools.Sizes.{LeavesRoom, coding_size, fixed_size, line_size, lines_size, own_size}
use Rattle.field_lists.proofs.Judging.{first_limit, fourth_limit, no_limit, not_more, second_limit, third_limit}
use Rattle.field_lists.proofs.MessageRows.{no_trailers}

-- ---- lines

pub line_size_is : (field : Field) → length (line_text (line_of_field field)) ≡ line_size field
line_size_is field = omega (arith, length-append field.name (58 ∷ ((32 ∷ field.value) ++ codes "\r\n")), length-append field.value (codes "\r\n"))

pub lines_size_is : (fields : List Field) → length (flat_map line_text (map line_of_field fields)) ≡ lines_size fields
lines_size_is [] = refl
lines_size_is (field ∷ fields) =
    length-append (line_text (line_of_field field)) (flat_map line_text (map line_of_field fields))
    ∙ λ i. line_size_is field i + lines_size_is fields i

-- ---- a head

own_size_is : (control : Control) → length (start_text (start_of control)) + length (flat_map line_text (host_lines control)) ≡ own_size control
own_size_is (request c) =
    omega (
      arith,
      length-append c.method (32 ∷ (c.path ++ 32 ∷ (codes "HTTP/1.1" ++ codes "\r\n"))),
      length-append c.path (32 ∷ (codes "HTTP/1.1" ++ codes "\r\n")),
      length-append c.authority (codes "\r\n"),
      length-append (c.authority ++ codes "\r\n") [],
    )
own_size_is (response code) =
    omega (arith, length-append code (codes " " ++ codes "\r\n"))

coding_size_is : (in_chunks : Bool) → length (flat_map line_text (coding_lines in_chunks)) ≡ coding_size in_chunks
coding_size_is true = refl
coding_size_is false = refl

pub head_size_is : (control : Control) (others : List Field) (in_chunks : Bool) → length (head_text (head_with control others in_chunks)) ≡ fixed_size control in_chunks + lines_size others
head_size_is control others in_chunks =
    let start = start_text (start_of control) in
    let host = flat_map line_text (host_lines control) in
    let fields = flat_map line_text (map line_of_field others) in
    let coding = flat_map line_text (coding_lines in_chunks) in
    let text : flat_map line_text (head_lines control others in_chunks) ≡ host ++ (fields ++ coding) =
    flat_map-append line_text (host_lines control) (map line_of_field others ++ coding_lines in_chunks)
    ∙ ap (λ (t : List ℕ). host ++ t) (flat_map-append line_text (map line_of_field others) (coding_lines in_chunks)) in
    let whole : length (head_text (head_with control others in_chunks)) ≡ length (start ++ ((host ++ (fields ++ coding)) ++ codes "\r\n")) = ap (λ (t : List ℕ). length (start ++ (t ++ codes "\r\n"))) text in
    omega (
      arith,
      whole,
      length-append start ((host ++ (fields ++ coding)) ++ codes "\r\n"),
      length-append (host ++ (fields ++ coding)) (codes "\r\n"),
      length-append host (fields ++ coding),
      length-append fields coding,
      own_size_is control,
      lines_size_is others,
      coding_size_is in_chunks,
    )

pub trailer_size_is : (fields : List Field) → length (trailer_text (map line_of_field fields)) ≡ lines_size fields + 2
trailer_size_is fields = length-append (flat_map line_text (map line_of_field fields)) (codes "\r\n") ∙ ap (λ n. n + 2) (lines_size_is fields)

-- ---- room

-- the room that is left after one more field
pub room_next : (fields rest after : List Field) (field : Field) (left room next : ℕ) → left + lines_size fields ≡ room + lines_size rest → rest ≡ field ∷ after → next + line_size field ≡ left → next + lines_size fields ≡ room + lines_size after
room_next fields rest after field left room next held cut leaves =
    let sum : lines_size rest ≡ line_size field + lines_size after = ap lines_size cut in
    omega (arith, held, sum, leaves)

-- the field doesn't fit
pub room_ends : (fields rest after : List Field) (field : Field) (left room : ℕ) → left + lines_size fields ≡ room + lines_size rest → rest ≡ field ∷ after → left < line_size field → room < lines_size fields
room_ends fields rest after field left room held cut less =
    let sum : lines_size rest ≡ line_size field + lines_size after = ap lines_size cut in
    omega (arith, held, sum, less)

-- the fields fit where some room is left
fits_where : (left : Option ℕ) (size room most bytes : ℕ) → LeavesRoom left size room → bytes + room ≡ most + size → is_some left ≡ nat_le bytes most
fits_where (Some n) size room most bytes leaves sum = sym (le-leb bytes most (omega (arith, leaves, sum)))
fits_where None size room most bytes leaves sum = sym (lt-leb bytes most (omega (arith, leaves, sum)))

pub trailers_fit_where : (left : Option ℕ) (fields : List Field) → LeavesRoom left (lines_size fields) 65534 → is_some left ≡ nat_le (length (trailer_text (map line_of_field fields))) MAX_HEAD_BYTES
trailers_fit_where left fields leaves =
    fits_where left (lines_size fields) 65534 MAX_HEAD_BYTES (length (trailer_text (map line_of_field fields))) leaves (omega (arith, trailer_size_is fields))

pub head_fits_where : (control : Control) (others : List Field) (in_chunks : Bool) (room : ℕ) (left : Option ℕ) → LeavesRoom (Some room) (fixed_size control in_chunks) MAX_HEAD_BYTES → LeavesRoom left (lines_size others) room
    → is_some left ≡ nat_le (length (head_text (head_with control others in_chunks))) MAX_HEAD_BYTES
head_fits_where control others in_chunks room left fixed leaves =
    fits_where left (lines_size others) room MAX_HEAD_BYTES (length (head_text (head_with control others in_chunks))) leaves (omega (arith, head_size_is control others in_chunks, fixed))

pub head_too_long : (control : Control) (others : List Field) (in_chunks : Bool) → LeavesRoom None (fixed_size control in_chunks) MAX_HEAD_BYTES → false ≡ nat_le (length (head_text (head_with control others in_chunks))) MAX_HEAD_BYTES
head_too_long control others in_chunks none = sym (lt-leb (length (head_text (head_with control others in_chunks))) MAX_HEAD_BYTES (omega (arith, head_size_is control others in_chunks, none)))

-- the line that says that chunks come, and the empty line
pub room_if_chunks : (in_chunks : Bool) → in_chunks ≡ true → 65506 + (coding_size in_chunks + 2) ≡ MAX_HEAD_BYTES
room_if_chunks true is = refl
room_if_chunks false is = absurd (false≢true is)

pub room_if_plain : (in_chunks : Bool) → in_chunks ≡ false → 65534 + (coding_size in_chunks + 2) ≡ MAX_HEAD_BYTES
room_if_plain false is = refl
room_if_plain true is = absurd (false≢true (sym is))

pub room_fixed : (control : Control) (in_chunks : Bool) (left : Option ℕ) (room : ℕ) → room + (coding_size in_chunks + 2) ≡ MAX_HEAD_BYTES → LeavesRoom left (own_size control) room → LeavesRoom left (fixed_size control in_chunks) MAX_HEAD_BYTES
room_fixed control in_chunks (Some n) room sum leaves = omega (arith, sum, leaves)
room_fixed control in_chunks None room sum leaves = omega (arith, sum, leaves)

-- ---- the limit that is passed

trailers_of : (control : Control) (others : List Field) (list : FieldList) → is_body_refused control others list ≡ false → trailers_in (body_with (is_in_chunks control others list) list) ≡ map line_of_field list.trailers
trailers_of control others list taken = at (is_in_chunks control others list) (λ plain. no_trailers control others list plain taken)
  where
    at : (in_chunks : Bool) → (in_chunks ≡ false → list.trailers ≡ []) → trailers_in (body_with in_chunks list) ≡ map line_of_field list.trailers
    at true none = refl
    at false none = ap (map line_of_field) (sym (none refl))

module _ (control : Control) (others : List Field) (list : FieldList) (taken : is_body_refused control others list ≡ false) where
  head_passes : nat_le (length (head_text (head_with control others (is_in_chunks control others list)))) MAX_HEAD_BYTES ≡ false → Passes (message_with control others list) HeadBytes
  head_passes fails = leb-false (length (head_text (head_with control others (is_in_chunks control others list)))) MAX_HEAD_BYTES fails

  head_within : nat_le (length (head_text (head_with control others (is_in_chunks control others list)))) MAX_HEAD_BYTES ≡ true → ¬ Passes (message_with control others list) HeadBytes
  head_within passes =
      let bytes = length (head_text (head_with control others (is_in_chunks control others list))) in
      not_more bytes MAX_HEAD_BYTES (leb-true bytes MAX_HEAD_BYTES passes)

  trailer_passes : nat_le (length (trailer_text (map line_of_field list.trailers))) MAX_HEAD_BYTES ≡ false → Passes (message_with control others list) TrailerBytes
  trailer_passes fails =
      subst (λ (lines : List FieldLine). MAX_HEAD_BYTES < length (trailer_text lines)) (sym (trailers_of control others list taken)) (leb-false (length (trailer_text (map line_of_field list.trailers))) MAX_HEAD_BYTES fails)

  trailer_within : nat_le (length (trailer_text (map line_of_field list.trailers))) MAX_HEAD_BYTES ≡ true → ¬ Passes (message_with control others list) TrailerBytes
  trailer_within fits passes =
      let bytes = length (trailer_text (map line_of_field list.trailers)) in
      not_more bytes MAX_HEAD_BYTES (leb-true bytes MAX_HEAD_BYTES fits) (subst (λ (lines : List FieldLine). MAX_HEAD_BYTES < length (trailer_text lines)) (trailers_of control others list taken) passes)

  lines_within : nat_lt MAX_HEAD_LINES (length (head_lines control others (is_in_chunks control others list))) ≡ false → ¬ Passes (message_with control others list) HeadLines
  lines_within fails =
      let count = length (head_lines control others (is_in_chunks control others list)) in
      not_more count MAX_HEAD_LINES (ltb-false MAX_HEAD_LINES count fails)

  trailer_lines_are : length (trailers_in (body_with (is_in_chunks control others list) list)) ≡ length list.trailers
  trailer_lines_are = ap (λ (lines : List FieldLine). length lines) (trailers_of control others list taken) ∙ length-map list.trailers line_of_field

  pub passed_first : nat_le (length (head_text (head_with control others (is_in_chunks control others list)))) MAX_HEAD_BYTES ≡ false → IsFirst limit_order (Passes (message_with control others list)) HeadBytes
  passed_first fails = first_limit (message_with control others list) (head_passes fails)

  pub passed_second : nat_le (length (head_text (head_with control others (is_in_chunks control others list)))) MAX_HEAD_BYTES ≡ true → nat_le (length (trailer_text (map line_of_field list.trailers))) MAX_HEAD_BYTES ≡ false
      → IsFirst limit_order (Passes (message_with control others list)) TrailerBytes
  passed_second one fails = second_limit (message_with control others list) (head_within one) (trailer_passes fails)

  pub passed_third : nat_le (length (head_text (head_with control others (is_in_chunks control others list)))) MAX_HEAD_BYTES ≡ true → nat_le (length (trailer_text (map line_of_field list.trailers))) MAX_HEAD_BYTES ≡ true
      → nat_lt MAX_HEAD_LINES (length (head_lines control others (is_in_chunks control others list))) ≡ true → IsFirst limit_order (Passes (message_with control others list)) HeadLines
  passed_third one two passes = third_limit (message_with control others list) (head_within one) (trailer_within two) (ltb-true MAX_HEAD_LINES (length (head_lines control others (is_in_chunks control others list))) passes)

  pub passed_fourth : nat_le (length (head_text (head_with control others (is_in_chunks control others list)))) MAX_HEAD_BYTES ≡ true → nat_le (length (trailer_text (map line_of_field list.trailers))) MAX_HEAD_BYTES ≡ true
      → nat_lt MAX_HEAD_LINES (length (head_lines control others (is_in_chunks control others list))) ≡ false → MAX_HEAD_LINES < length list.trailers → IsFirst limit_order (Passes (message_with control others list)) TrailerLines
  passed_fourth one two three more =
      fourth_limit (message_with control others list) (head_within one) (trailer_within two) (lines_within three) (subst (λ n. MAX_HEAD_LINES < n) (sym trailer_lines_are) more)

  pub passed_none : nat_le (length (head_text (head_with control others (is_in_chunks control others list)))) MAX_HEAD_BYTES ≡ true → nat_le (length (trailer_text (map line_of_field list.trailers))) MAX_HEAD_BYTES ≡ true
      → nat_lt MAX_HEAD_LINES (length (head_lines control others (is_in_chunks control others list))) ≡ false → length list.trailers ≤ MAX_HEAD_LINES → (limit : MessageLimit) → ¬ Passes (message_with control others list) limit
  passed_none one two three most =
      no_limit (message_with control others list) (head_within one) (trailer_within two) (lines_within three) (not_more (length (trailers_in (body_with (is_in_chunks control others list) list))) MAX_HEAD_LINES (omega (arith, trailer_lines_are, most)))
