-- Where field lines begin, by their offsets and by their texts.
use Rattle.std.proofs.Common.{◌≡◌, ℕ, zero, suc, ◌+◌, ◌-◌, true, List, [], ◌∷◌, ◌++◌, length, map, take, drop, Some, ap, arith, length-append, length-take, length-drop}
use Rattle.std.specs.List.{list_all, flat_map, slice_get}
use Rattle.std.specs.Str.{byte}
use Rattle.std.proofs.lemmas.Bool.{and_parts, leb-true, ltb-true}
use Rattle.line_index.specs.declared.span.LineSpan.{LineSpan}
use Rattle.msg_head.specs.Heads.{head_text}
use Rattle.msg_head.specs.Lines.{line_text}
use Rattle.msg_head.specs.Starts.{start_text}
use Rattle.msg_head.specs.Trailers.{trailer_text}
use Rattle.msg_head.specs.TrailerViews.{TrailerParts, TrailerFills, trailer_lines_of}
use Rattle.msg_head.specs.Views.{View, Fills, line_at, lines_of, head_of, lies_in, FollowEachOther}

-- the line at these offsets has so many bytes
line_size : (bytes : List ℕ) (span : LineSpan) → lies_in (length bytes) span ≡ true → span.name + length (line_text (line_at bytes span)) ≡ span.end + 2
line_size bytes span lies =
    let both = and_parts _ _ lies in
    let others = and_parts _ _ both.1 in
    let before = leb-true span.name span.colon both.0 in
    let after = ltb-true span.colon span.end others.0 in
    let within = leb-true span.end (length bytes) others.1 in
    let line = line_at bytes span in
    omega (
      arith,
      before,
      after,
      within,
      length-append line.name (byte ":" ∷ (line.raw ++ (13 ∷ 10 ∷ []))),
      length-append line.raw (13 ∷ 10 ∷ []),
      length-take (span.colon - span.name) (drop span.name bytes),
      length-drop span.name bytes,
      length-take (span.end - (span.colon + 1)) (drop (span.colon + 1) bytes),
      length-drop (span.colon + 1) bytes,
    )

-- a line begins after those before it
pub begins_at : (bytes : List ℕ) (from to index : ℕ) (spans : List LineSpan) (span : LineSpan) → FollowEachOther from spans to → list_all (lies_in (length bytes)) spans ≡ true → slice_get spans index ≡ Some span
    → span.name ≡ from + length (flat_map line_text (take index (map (line_at bytes) spans)))
begins_at bytes from to index [] span follow lie there = absurd cc
begins_at bytes from to zero (s ∷ spans) span follow lie there =
    let same : s ≡ span = cc in
    omega (arith, ap (λ (x : LineSpan). x.name) same, follow.0)
begins_at bytes from to (suc index) (s ∷ spans) span follow lie there =
    let both = and_parts _ _ lie in
    let more = begins_at bytes (s.end + 2) to index spans span follow.3 both.1 there in
    omega (arith, more, follow.0, line_size bytes s both.0, length-append (line_text (line_at bytes s)) (flat_map line_text (take index (map (line_at bytes) spans))))

-- what comes after the lines begins after all of them
pub ends_at : (bytes : List ℕ) (from to : ℕ) (spans : List LineSpan) → FollowEachOther from spans to → list_all (lies_in (length bytes)) spans ≡ true → to ≡ from + length (flat_map line_text (map (line_at bytes) spans))
ends_at bytes from to [] follow lie = omega (arith, follow)
ends_at bytes from to (s ∷ spans) follow lie =
    let both = and_parts _ _ lie in
    let more = ends_at bytes (s.end + 2) to spans follow.3 both.1 in
    omega (arith, more, follow.0, line_size bytes s both.0, length-append (line_text (line_at bytes s)) (flat_map line_text (map (line_at bytes) spans)))

pub head_len : (view : View) → Fills view → list_all (lies_in (length view.bytes)) view.spans ≡ true → length view.bytes ≡ length (head_text (head_of view))
head_len view fills lie =
    let first = start_text view.start in
    let lines = flat_map line_text (lines_of view) in
    omega (arith, fills.2, ends_at view.bytes (length first) fills.0 view.spans fills.1 lie, length-append first (lines ++ (13 ∷ 10 ∷ [])), length-append lines (13 ∷ 10 ∷ []))

pub trailer_len : (parts : TrailerParts) → TrailerFills parts → list_all (lies_in (length parts.bytes)) parts.spans ≡ true → length parts.bytes ≡ length (trailer_text (trailer_lines_of parts))
trailer_len parts fills lie =
    let lines = flat_map line_text (trailer_lines_of parts) in
    omega (arith, fills.2, ends_at parts.bytes 0 fills.0 parts.spans fills.1 lie, length-append lines (13 ∷ 10 ∷ []))
