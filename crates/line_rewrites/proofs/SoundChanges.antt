-- A step that a line can write makes sound lines of sound lines.
use Rattle.std.proofs.Common.{◌≡◌, ◌⊎◌, ◌+◌, ◌-◌, ◌==◌, ◌&&◌, append_assoc, ℕ, Bool, true, false, nat_le, nat_lt, Option, Some, None, List, [], ◌∷◌, ◌++◌, length, take, drop, refl, sym, subst, ap, ◌∙◌, inl, inr}
use Rattle.std.specs.Prelude.{option_map, codes, if◌then◌else◌}
use Rattle.std.specs.List.{list_all, slice_get}
use Rattle.std.specs.Str.{byte, bytes_eq, str_to_ascii_lowercase}
use Rattle.std.proofs.lemmas.Bool.{and_parts, cases_Bool, eqb-true, false≢true}
use Rattle.byte_grammar.specs.Classes.{is_blank, is_line_byte, is_token}
use Rattle.byte_grammar.specs.Language.{starts_in}
use Rattle.byte_grammar.proofs.ListLaws.{all_joined, all_parts}
use Rattle.msg_head.specs.Lines.{FieldLine}
use Rattle.msg_head.specs.Values.{has_bytes, value}
use Rattle.rewrite_script.specs.Lines.{are_blanks, is_number, is_line_writable}
use Rattle.rewrite_script.specs.declared.rewrite.LineRewrite.{LineRewrite}
use Rattle.rewrite_script.specs.declared.rewrite.LineRewrite.TheVariants.{Pad, Fold, Unfold, Join, Split, Move, Case, Add, Remove}
use Rattle.msg_body.specs.Spacing.{ends_in, is_spacing}
use Rattle.line_rewrites.specs.RawValues.{IsFolded}
use Rattle.msg_body.specs.SameFields.{name_of}
use Rattle.line_rewrites.specs.LineLists.{line_of}
use Rattle.line_rewrites.specs.tools.Computed.{are_joinable, changed, core_of, cut_at_comma, folded, folded_at, is_crlf_before, joined_at, joined_line, line_becomes, lines_between, moved_at, moved_backward, moved_forward, padded, replaced_at, split_at, split_parts, unfolded, with_line, with_name, with_raw}
use Rattle.line_rewrites.proofs.Cores.{comma_is, core_is, fold_is, taken_at, unfold_is}
use Rattle.line_rewrites.proofs.Parts.{cut_index}
use Rattle.line_rewrites.proofs.Runs.{IsSoundRaw, State, inside, half, ended, blanks_line, ended_is, next, next_line, blank_line, runs, runs_joined, runs_line, runs_none, solid_begins, solid_ends}
use Rattle.line_rewrites.proofs.Sound.{AreSound, IsSound, is_some_byte, some_bytes, sound_joined, sound_left, sound_parts, sound_taken, text_sound, value_line}

-- ---- raw values

-- what runs on is a state
state_of : (s : Option State) (xs : List ℕ) (t : State) → runs s xs ≡ Some t → (u : State) × (s ≡ Some u)
state_of (Some u) xs t goes = (u, refl)
state_of None xs t goes = absurd (let e = sym (runs_none xs) ∙ goes in cc)

-- a text between spacing is sound by itself
core_sound : (first core last : List ℕ) → starts_in is_spacing core ≡ false → ends_in is_spacing core ≡ false → IsSoundRaw (first ++ (core ++ last)) → IsSoundRaw core
core_sound first core last begins ends sound =
    let goes = sym (runs_joined (Some inside) first (core ++ last)) ∙ sound in
    let whole = sym (runs_joined (runs (Some inside) first) core last) ∙ goes in
    let end = state_of (runs (runs (Some inside) first) core) last inside whole in
    let none : core ≡ [] → IsSoundRaw core = λ e. ap (runs (Some inside)) e in
    elim (solid_begins (runs (Some inside) first) core end.0 begins end.1) [
      | inl empty ↦ none empty
      | inr start ↦ elim (solid_ends (runs (Some inside) first) core end.0 ends end.1) [
        | inl empty ↦ none empty
        | inr stop ↦ sym (ap (λ s. runs s core) start) ∙ (end.1 ∙ ap Some stop)
      ]
    ]

joined_sound : (xs ys : List ℕ) → IsSoundRaw xs → IsSoundRaw ys → IsSoundRaw (xs ++ ys)
joined_sound xs ys a b = runs_joined (Some inside) xs ys ∙ (ap (λ s. runs s ys) a ∙ b)

blanks_sound : (blanks : List ℕ) → are_blanks blanks ≡ true → IsSoundRaw blanks
blanks_sound blanks are = runs_line blanks (blanks_line blanks (and_parts _ (list_all is_blank blanks) are).1)

pad_sound : (before after raw : List ℕ) → are_blanks before ≡ true → are_blanks after ≡ true → IsSoundRaw raw → IsSoundRaw (padded before after raw)
pad_sound before after raw first last sound =
    let core = core_is raw in
    joined_sound before (core_of raw ++ after) (blanks_sound before first)
    (joined_sound (core_of raw) after (core_sound core.first (core_of raw) core.last core.begins core.ends (sym (ap (runs (Some inside)) core.joined) ∙ sound)) (blanks_sound after last))

-- a fold of blanks within a line
fold_runs : (blanks after : List ℕ) → list_all is_blank blanks ≡ true → has_bytes blanks ≡ true → IsSoundRaw after → IsSoundRaw (13 ∷ 10 ∷ (blanks ++ after))
fold_runs [] after all some sound = absurd (false≢true some)
fold_runs (c ∷ blanks) after all some sound =
    let both = and_parts (is_blank c) (list_all is_blank blanks) all in
    let step : next (Some ended) c ≡ Some inside = rw both.0 refl in
    ap (λ s. runs s (blanks ++ after)) step ∙ joined_sound blanks after (runs_line blanks (blanks_line blanks both.1)) sound

-- before a blank is a line, or CRLF
blank_after : (s : Option State) (c : ℕ) (rest : List ℕ) → is_blank c ≡ true → runs s (c ∷ rest) ≡ Some inside → ((s ≡ Some inside) ⊎ (s ≡ Some ended)) × IsSoundRaw rest
blank_after None c rest blank goes = absurd (let e = sym (runs_none rest) ∙ goes in cc)
blank_after (Some inside) c rest blank goes = (inl refl, sym (ap (λ s. runs s rest) (next_line c (blank_line c blank))) ∙ goes)
blank_after (Some half) c rest blank goes = absurd (let e : runs None rest ≡ Some inside = rw (no_lf c blank) at goes in let f = sym (runs_none rest) ∙ e in cc)
  where
    no_lf : (c : ℕ) → is_blank c ≡ true → (c == 10) ≡ false
    no_lf c is = elim (cases_Bool (c == 10)) [
      | inl e ↦ absurd (false≢true (ap is_blank (sym (eqb-true c 10 e)) ∙ is))
      | inr fails ↦ fails
    ]
blank_after (Some ended) c rest blank goes = (inr refl, rw blank at goes)

fold_sound : (offset : ℕ) (blanks raw other : List ℕ) → are_blanks blanks ≡ true → IsSoundRaw raw → folded offset blanks raw ≡ Some other → IsSoundRaw other
fold_sound offset blanks raw other are sound e =
    let is = fold_is offset blanks raw other e in
    let all = (and_parts _ (list_all is_blank blanks) are).1 in
    let goes = sym (runs_joined (Some inside) is.before (is.c ∷ is.after)) ∙ (sym (ap (runs (Some inside)) is.joined) ∙ sound) in
    let told = blank_after (runs (Some inside) is.before) is.c is.after is.blank goes in
    elim told.0 [
      | inl within ↦
          ap (runs (Some inside)) is.folded_is
          ∙ (runs_joined (Some inside) is.before (13 ∷ 10 ∷ (blanks ++ is.after)) ∙ (ap (λ s. runs s (13 ∷ 10 ∷ (blanks ++ is.after))) within ∙ fold_runs blanks is.after all is.some told.1))
      | inr after ↦ absurd (false≢true (sym (no_crlf (drop offset raw) e) ∙ (ap is_crlf_before (same is) ∙ ended_is is.before after)))
    ]
  where
    same : (is : IsFolded offset blanks raw other) → take offset raw ≡ is.before
    same is = taken_at raw is.before (is.c ∷ is.after) offset is.joined is.there

    none : (text : List ℕ) (a b : Bool) → (if a && (b && false) then Some text else None) ≡ Some other → ⊥
    none text true true f = cc
    none text true false f = cc
    none text false b f = cc

    no_crlf : (rest : List ℕ) → folded_at blanks (take offset raw) rest ≡ Some other → is_crlf_before (take offset raw) ≡ false
    no_crlf [] f = absurd cc
    no_crlf (c ∷ after) f = elim (cases_Bool (is_crlf_before (take offset raw))) [
      | inr fails ↦ fails
      | inl crlf ↦ absurd (none (take offset raw ++ (codes "\r\n" ++ (blanks ++ after))) (is_blank c) (has_bytes blanks) (rw crlf at f))
    ]

unfold_sound : (offset : ℕ) (raw other : List ℕ) → IsSoundRaw raw → unfolded offset raw ≡ Some other → IsSoundRaw other
unfold_sound offset raw other sound e =
    let is = unfold_is offset raw other e in
    let rest = is.first ++ (codes "\r\n" ++ (is.last ++ is.after)) in
    let goes = sym (runs_joined (Some inside) is.before rest) ∙ (sym (ap (runs (Some inside)) is.joined) ∙ sound) in
    let start = state_of (runs (Some inside) is.before) rest inside goes in
    let before : IsSoundRaw is.before = elim (solid_ends (Some inside) is.before start.0 is.ends start.1) [
      | inl empty ↦ ap (runs (Some inside)) empty
      | inr stop ↦ start.1 ∙ ap Some stop
    ] in
    let gap = is.first ++ (codes "\r\n" ++ is.last) in
    let parts : is.before ++ rest ≡ (is.before ++ gap) ++ is.after =
    ap (λ t. is.before ++ (is.first ++ t)) (sym (append_assoc (codes "\r\n") is.last is.after))
    ∙ (ap (λ t. is.before ++ t) (sym (append_assoc is.first (codes "\r\n" ++ is.last) is.after)) ∙ sym (append_assoc is.before gap is.after)) in
    let ends = sym (runs_joined (Some inside) (is.before ++ gap) is.after) ∙ (sym (ap (runs (Some inside)) (is.joined ∙ parts)) ∙ sound) in
    let after : IsSoundRaw is.after = elim (solid_begins (runs (Some inside) (is.before ++ gap)) is.after inside is.begins ends) [
      | inl empty ↦ ap (runs (Some inside)) empty
      | inr begin ↦ sym (ap (λ s. runs s is.after) begin) ∙ ends
    ] in
    ap (runs (Some inside)) is.unfolded_is ∙ joined_sound is.before (byte " " ∷ is.after) before after

-- ---- lines

line_is_sound : (step : LineRewrite) (line other : FieldLine) → is_line_writable step ≡ true → IsSound line → line_becomes step line ≡ Some other → IsSound other
line_is_sound (Pad side index before after) line other writable sound e =
    let both = and_parts (is_number index) (are_blanks before && are_blanks after) writable in
    let blanks = and_parts (are_blanks before) (are_blanks after) both.1 in
    let same : with_raw line (padded before after line.raw) ≡ other = cc in
    subst IsSound same (record { name = sound.name; raw = pad_sound before after line.raw blanks.0 blanks.1 sound.raw })
line_is_sound (Fold side index offset blanks) line other writable sound e = by (folded offset blanks line.raw) refl e
  where
    by : (o : Option (List ℕ)) → folded offset blanks line.raw ≡ o → option_map (with_raw line) o ≡ Some other → IsSound other
    by None is f = absurd cc
    by (Some raw) is f =
        let both = and_parts (is_number index) (is_number offset && are_blanks blanks) writable in
        let are = and_parts (is_number offset) (are_blanks blanks) both.1 in
        let same : with_raw line raw ≡ other = cc in
        subst IsSound same (record { name = sound.name; raw = fold_sound offset blanks line.raw raw are.1 sound.raw is })
line_is_sound (Unfold side index offset) line other writable sound e = by (unfolded offset line.raw) refl e
  where
    by : (o : Option (List ℕ)) → unfolded offset line.raw ≡ o → option_map (with_raw line) o ≡ Some other → IsSound other
    by None is f = absurd cc
    by (Some raw) is f =
        let same : with_raw line raw ≡ other = cc in
        subst IsSound same (record { name = sound.name; raw = unfold_sound offset line.raw raw sound.raw is })
line_is_sound (Case side index name) line other writable sound e = elim (cases_Bool (bytes_eq (name_of line) (str_to_ascii_lowercase name))) [
  | inr fails ↦ absurd (let f : None ≡ Some other = rw fails at e in cc)
  | inl passes ↦
      let f : Some (with_name line name) ≡ Some other = rw passes at e in
      let same : with_name line name ≡ other = cc in
      subst IsSound same (record { name = (and_parts (is_number index) (is_token name) writable).1; raw = sound.raw })
]
line_is_sound (Join side index later) line other writable sound e = absurd cc
line_is_sound (Split side index offset) line other writable sound e = absurd cc
line_is_sound (Move side index to) line other writable sound e = absurd cc
line_is_sound (Add side index name text) line other writable sound e = absurd cc
line_is_sound (Remove side index) line other writable sound e = absurd cc

line_at : (lines : List FieldLine) (index : ℕ) (line : FieldLine) → AreSound lines → slice_get lines index ≡ Some line → IsSound line
line_at lines index line sound there =
    (sound_parts (take index lines) (line ∷ drop (index + 1) lines) (subst AreSound (cut_index lines index line there).0 sound)).1.0

replaced_sound : (step : LineRewrite) (index : ℕ) (lines new : List FieldLine) (o : Option FieldLine) → is_line_writable step ≡ true → AreSound lines → slice_get lines index ≡ o → replaced_at step index lines o ≡ Some new → AreSound new
replaced_sound step index lines new None writable sound there e = absurd cc
replaced_sound step index lines new (Some line) writable sound there e = by (line_becomes step line) refl e
  where
    by : (o : Option FieldLine) → line_becomes step line ≡ o → option_map (with_line index lines) o ≡ Some new → AreSound new
    by None one f = absurd cc
    by (Some other) one f =
        let same : with_line index lines other ≡ new = cc in
        subst AreSound same (sound_joined (take index lines) (other ∷ drop (index + 1) lines) (sound_taken index lines sound)
        (line_is_sound step line other writable (line_at lines index line sound there) one, sound_left (index + 1) lines sound))

-- ---- values

raw_bytes : (raw : List ℕ) → IsSoundRaw raw → list_all is_line_byte (value raw) ≡ true
raw_bytes raw sound = value_line raw (some_bytes (Some inside) raw inside sound)

joined_line_sound : (line other : FieldLine) → IsSound line → IsSound other → IsSound (joined_line line other)
joined_line_sound line other a b =
    text_sound line.name (value line.raw ++ (codes ", " ++ value other.raw)) a.name
    (all_joined is_line_byte (value line.raw) (codes ", " ++ value other.raw) (raw_bytes line.raw a.raw) (raw_bytes other.raw b.raw))

join_sound : (index later : ℕ) (lines new : List FieldLine) (o p : Option FieldLine) → AreSound lines → slice_get lines index ≡ o → slice_get lines later ≡ p → joined_at index later lines o p ≡ Some new → AreSound new
join_sound index later lines new None p sound a b e = absurd cc
join_sound index later lines new (Some line) None sound a b e = absurd cc
join_sound index later lines new (Some line) (Some other) sound a b e = elim (cases_Bool (are_joinable index later lines line other)) [
  | inr fails ↦ absurd (let f : None ≡ Some new = rw fails at e in cc)
  | inl passes ↦
      let between = lines_between (index + 1) later lines in
      let f : Some (take index lines ++ joined_line line other ∷ (between ++ drop (later + 1) lines)) ≡ Some new = rw passes at e in
      let same : take index lines ++ joined_line line other ∷ (between ++ drop (later + 1) lines) ≡ new = cc in
      subst AreSound same (sound_joined (take index lines) (joined_line line other ∷ (between ++ drop (later + 1) lines)) (sound_taken index lines sound) (
        joined_line_sound line other (line_at lines index line sound a) (line_at lines later other sound b),
        sound_joined between (drop (later + 1) lines) (between_sound (index + 1) later lines sound) (sound_left (later + 1) lines sound),
      ))
]
  where
    between_sound : (start to : ℕ) (lines : List FieldLine) → AreSound lines → AreSound (lines_between start to lines)
    between_sound start to lines sound = sound_taken (to - start) (drop start lines) (sound_left start lines sound)

split_sound : (index offset : ℕ) (lines new : List FieldLine) (o : Option FieldLine) → AreSound lines → slice_get lines index ≡ o → split_at index offset lines o ≡ Some new → AreSound new
split_sound index offset lines new None sound there e = absurd cc
split_sound index offset lines new (Some line) sound there e = by (cut_at_comma offset line.raw) refl e
  where
    by : (o : Option (List ℕ × List ℕ)) → cut_at_comma offset line.raw ≡ o → split_parts index lines line o ≡ Some new → AreSound new
    by None comma f = absurd cc
    by (Some parts) comma f =
        let own = line_at lines index line sound there in
        let told = comma_is offset line.raw parts comma in
        let some = all_parts is_some_byte parts.0 (44 ∷ parts.1) (ap (list_all is_some_byte) (sym told.0) ∙ some_bytes (Some inside) line.raw inside own.raw) in
        let first = text_sound line.name (value parts.0) own.name (value_line parts.0 some.0) in
        let last = text_sound line.name (value parts.1) own.name (value_line parts.1 some.1) in
        let same : take index lines ++ line_of line.name (value parts.0) ∷ line_of line.name (value parts.1) ∷ drop (index + 1) lines ≡ new = cc in
        subst AreSound same (sound_joined (take index lines) (line_of line.name (value parts.0) ∷ line_of line.name (value parts.1) ∷ drop (index + 1) lines) (sound_taken index lines sound)
        (first, (last, sound_left (index + 1) lines sound)))

move_sound : (index to : ℕ) (lines new : List FieldLine) (o : Option FieldLine) → AreSound lines → slice_get lines index ≡ o → moved_at index to lines o ≡ Some new → AreSound new
move_sound index to lines new None sound there e = absurd cc
move_sound index to lines new (Some line) sound there e = elim (cases_Bool (nat_lt to (length lines))) [
  | inr fails ↦ absurd (let f : None ≡ Some new = rw fails at e in cc)
  | inl low ↦ elim (cases_Bool (nat_le index to)) [
    | inl le ↦
        let f : Some (moved_forward index to lines line) ≡ Some new = rw (low, le) at e in
        let same : moved_forward index to lines line ≡ new = cc in
        subst AreSound same (sound_joined (take index lines) (lines_between (index + 1) (to + 1) lines ++ line ∷ drop (to + 1) lines) (sound_taken index lines sound)
        (sound_joined (lines_between (index + 1) (to + 1) lines) (line ∷ drop (to + 1) lines) (between_sound (index + 1) (to + 1) lines sound) (line_at lines index line sound there, sound_left (to + 1) lines sound)))
    | inr less ↦
        let f : Some (moved_backward index to lines line) ≡ Some new = rw (low, less) at e in
        let same : moved_backward index to lines line ≡ new = cc in
        subst AreSound same (sound_joined (take to lines) (line ∷ (lines_between to index lines ++ drop (index + 1) lines)) (sound_taken to lines sound)
        (line_at lines index line sound there, sound_joined (lines_between to index lines) (drop (index + 1) lines) (between_sound to index lines sound) (sound_left (index + 1) lines sound)))
  ]
]
  where
    between_sound : (start to : ℕ) (lines : List FieldLine) → AreSound lines → AreSound (lines_between start to lines)
    between_sound start to lines sound = sound_taken (to - start) (drop start lines) (sound_left start lines sound)

-- ---- all kinds

pub change_sound : (step : LineRewrite) (lines new : List FieldLine) → is_line_writable step ≡ true → AreSound lines → changed step lines ≡ Some new → AreSound new
change_sound (Pad side index before after) lines new writable sound e = replaced_sound (Pad side index before after) index lines new (slice_get lines index) writable sound refl e
change_sound (Fold side index offset blanks) lines new writable sound e = replaced_sound (Fold side index offset blanks) index lines new (slice_get lines index) writable sound refl e
change_sound (Unfold side index offset) lines new writable sound e = replaced_sound (Unfold side index offset) index lines new (slice_get lines index) writable sound refl e
change_sound (Case side index name) lines new writable sound e = replaced_sound (Case side index name) index lines new (slice_get lines index) writable sound refl e
change_sound (Join side index later) lines new writable sound e = join_sound index later lines new (slice_get lines index) (slice_get lines later) sound refl refl e
change_sound (Split side index offset) lines new writable sound e = split_sound index offset lines new (slice_get lines index) sound refl e
change_sound (Move side index to) lines new writable sound e = move_sound index to lines new (slice_get lines index) sound refl e
change_sound (Add side index name text) lines new writable sound e = elim (cases_Bool (nat_le index (length lines))) [
  | inr fails ↦ absurd (let f : None ≡ Some new = rw fails at e in cc)
  | inl le ↦
      let f : Some (take index lines ++ line_of name text ∷ drop index lines) ≡ Some new = rw le at e in
      let same : take index lines ++ line_of name text ∷ drop index lines ≡ new = cc in
      let both = and_parts (is_number index) (is_token name && list_all is_line_byte text) writable in
      let parts = and_parts (is_token name) (list_all is_line_byte text) both.1 in
      subst AreSound same (sound_joined (take index lines) (line_of name text ∷ drop index lines) (sound_taken index lines sound) (text_sound name text parts.0 parts.1, sound_left index lines sound))
]
change_sound (Remove side index) lines new writable sound e = elim (cases_Bool (nat_lt index (length lines))) [
  | inr fails ↦ absurd (let f : None ≡ Some new = rw fails at e in cc)
  | inl less ↦
      let f : Some (take index lines ++ drop (index + 1) lines) ≡ Some new = rw less at e in
      let same : take index lines ++ drop (index + 1) lines ≡ new = cc in
      subst AreSound same (sound_joined (take index lines) (drop (index + 1) lines) (sound_taken index lines sound) (sound_left (index + 1) lines sound))
]
