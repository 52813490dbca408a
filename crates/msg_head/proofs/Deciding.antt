-- What bytes begin with is decided: a prefix of a class, a start line, a field line.
use Rattle.std.proofs.Common.{◌≡◌, ◌⊎◌, ℕ, ◌<◌, Bool, true, false, nat_lt, List, [], ◌∷◌, ◌++◌, length, Option, Some, None, IfSome, refl, sym, ap, ◌∙◌, inl, inr, arith}
use Rattle.std.specs.List.{list_all}
use Rattle.std.proofs.lemmas.Bool.{and_parts, and_from, cases_Bool, cases_eq, cases_lt, lt-ltb, ltb-true}
use Rattle.std.proofs.lemmas.List.{append-nil}
use Rattle.std.proofs.lemmas.List.Folds.{list_all-append}
use Rattle.byte_grammar.specs.Classes.{is_tchar, is_visible, is_digit, is_line_byte}
use Rattle.msg_head.specs.RawValues.{RawPieces, are_pieces, pieces_text}
use Rattle.msg_head.specs.Lines.{FieldLine}
use Rattle.msg_head.specs.Starts.{RequestLine, StatusLine, StartLine, request, status, is_version, is_code, reason_text}
use Rattle.msg_head.specs.Cuts.{MakesLine, MakesNoLine, cut_text, is_cut}
use Rattle.msg_head.specs.tools.Texts.{BeginsWithCut}
use Rattle.msg_head.specs.tools.Prefixes.{StandsBefore, NoneStandsBefore, BeginsWithStart, BeginsWithNoStart, BeginsWithNoRequest, BeginsWithNoStatus, IsCodeAndReason, NoCodeAndReason}
use Rattle.msg_head.proofs.Prefixes.{one_before}
use Rattle.msg_head.proofs.StartParts.{opened_request, no_method, empty_method, no_target, empty_target, no_version, other_version}
use Rattle.msg_head.proofs.StatusParts as status_parts
use Rattle.msg_head.proofs.LineParts.{no_name, empty_name, parts_of}

-- ---- prefixes

abbrev pub Decided : (ℕ → Bool) → List ℕ → List ℕ → Type 0
Decided test end bytes =
    ((prefix : List ℕ) × (more : List ℕ) × StandsBefore test end prefix more bytes) ⊎ NoneStandsBefore test end bytes

not_first : (test : ℕ → Bool) (end c : ℕ) (rest : List ℕ) → (c ≡ end → ⊥) → ((prefix more : List ℕ) → test c ≡ true → ¬ StandsBefore test (end ∷ []) prefix more rest) → NoneStandsBefore test (end ∷ []) (c ∷ rest)
not_first test end c rest other none prefix more s = by prefix s.each s.joined
  where
    by : (prefix : List ℕ) → list_all test prefix ≡ true → c ∷ rest ≡ prefix ++ end ∷ more → ⊥
    by [] each e = other cc
    by (x ∷ xs) each e =
        let same : x ≡ c = cc in
        let left : rest ≡ xs ++ end ∷ more = cc in
        let both = and_parts (test x) (list_all test xs) each in
        none xs more (ap test (sym same) ∙ both.0) (record { each = both.1; joined = left })

pub stands : (test : ℕ → Bool) (end : ℕ) (bytes : List ℕ) → Decided test (end ∷ []) bytes
stands test end [] = inr (λ prefix more s. empty prefix more s.joined)
  where
    empty : (prefix more : List ℕ) → [] ≡ prefix ++ end ∷ more → ⊥
    empty [] more e = absurd cc
    empty (x ∷ xs) more e = absurd cc
stands test end (c ∷ rest) = elim (cases_eq c end) [
  | inl same ↦ inl ([], rest, record { each = refl; joined = ap (λ b. b ∷ rest) same })
  | inr other ↦ elim (cases_Bool (test c)) [
    | inl is ↦ elim (stands test end rest) [
      | inl s ↦ inl (c ∷ s.0, s.1, record { each = and_from (test c) (list_all test s.0) is s.2.each; joined = ap (λ (x : List ℕ). c ∷ x) s.2.joined })
      | inr none ↦ inr (not_first test end c rest other (λ prefix more _. none prefix more))
    ]
    | inr not ↦ inr (not_first test end c rest other (λ prefix more is s. absurd (cc (is, not))))
  ]
]

first_same : (x y : ℕ) (xs ys : List ℕ) → x ∷ xs ≡ y ∷ ys → x ≡ y
first_same x y xs ys e = cc

pub stands_crlf : (test : ℕ → Bool) (bytes : List ℕ) → test 13 ≡ false → Decided test (13 ∷ 10 ∷ []) bytes
stands_crlf test bytes out = elim (stands test 13 bytes) [
  | inl s ↦ at s.0 s.1 s.2
  | inr none ↦ inr (λ prefix more s. none prefix (10 ∷ more) (record { each = s.each; joined = s.joined }))
]
  where
    at : (prefix more : List ℕ) → StandsBefore test (13 ∷ []) prefix more bytes → Decided test (13 ∷ 10 ∷ []) bytes
    at prefix [] s = inr (λ other rest t.
        let same = one_before test 13 [] prefix other [] (10 ∷ rest) bytes out s (record { each = t.each; joined = t.joined }) in omega (arith, ap (length {A = ℕ}) same.1))
    at prefix (d ∷ more) s = elim (cases_eq d 10) [
      | inl same ↦ inl (prefix, more, record { each = s.each; joined = s.joined ∙ ap (λ b. prefix ++ 13 ∷ b ∷ more) same })
      | inr apart ↦ inr (λ other rest t.
          let same = one_before test 13 [] prefix other (d ∷ more) (10 ∷ rest) bytes out s (record { each = t.each; joined = t.joined }) in apart (first_same d 10 more rest same.1))
    ]

-- ---- start lines

abbrev RequestOrNot : List ℕ → Type 0
RequestOrNot bytes = ((start : StartLine) × (more : List ℕ) × BeginsWithStart start more bytes) ⊎ BeginsWithNoRequest bytes

request_or_not : (bytes : List ℕ) → RequestOrNot bytes
request_or_not bytes = elim (stands is_tchar 32 bytes) [
  | inr none ↦ inr (no_method bytes none)
  | inl m ↦ elim (cases_lt 0 (length m.0)) [
    | inl some ↦ by_target m.0 m.1 m.2 some (stands is_visible 32 m.1)
    | inr empty ↦ inr (empty_method bytes m.0 m.1 m.2 (omega (arith, empty)))
  ]
]
  where
    by_version : (method rest target last : List ℕ) → StandsBefore is_tchar (32 ∷ []) method rest bytes → 0 < length method → StandsBefore is_visible (32 ∷ []) target last rest → 0 < length target → Decided is_visible (13 ∷ 10 ∷ []) last → RequestOrNot bytes
    by_version method rest target last m some t more (inr none) = inr (no_version bytes method rest target last m t none)
    by_version method rest target last m some t more (inl v) = elim (cases_Bool (is_version v.0)) [
      | inr other ↦ inr (other_version bytes method rest target last v.0 v.1 m t v.2 other)
      | inl is ↦
          let line : RequestLine = record { method = method; target = target; version = v.0 } in
          inl (
            request line,
            v.1,
            record {
              is = record {
                method = and_from (nat_lt 0 (length method)) (list_all is_tchar method) (lt-ltb 0 (length method) some) m.each;
                target = and_from (nat_lt 0 (length target)) (list_all is_visible target) (lt-ltb 0 (length target) more) t.each;
                version = is;
              };
              joined = m.joined ∙ ap (λ (x : List ℕ). method ++ 32 ∷ x) (t.joined ∙ ap (λ (x : List ℕ). target ++ 32 ∷ x) v.2.joined) ∙ sym (opened_request line v.1);
            },
          )
    ]

    by_target : (method rest : List ℕ) → StandsBefore is_tchar (32 ∷ []) method rest bytes → 0 < length method → Decided is_visible (32 ∷ []) rest → RequestOrNot bytes
    by_target method rest m some (inr none) = inr (no_target bytes method rest m none)
    by_target method rest m some (inl t) = elim (cases_lt 0 (length t.0)) [
      | inl more ↦ by_version method rest t.0 t.1 m some t.2 more (stands_crlf is_visible t.1 refl)
      | inr empty ↦ inr (empty_target bytes method rest t.0 t.1 m t.2 (omega (arith, empty)))
    ]

code_or_not : (text : List ℕ) → ((code : List ℕ) × (reason : Option (List ℕ)) × IsCodeAndReason code reason text) ⊎ NoCodeAndReason text
code_or_not text = elim (stands is_digit 32 text) [
  | inl s ↦ elim (cases_Bool (is_code s.0)) [
    | inl is ↦ inl (s.0, Some s.1, record { is = is; joined = s.2.joined })
    | inr wrong ↦ inr (status_parts.other_code text s.0 s.1 s.2 wrong)
  ]
  | inr none ↦ elim (cases_Bool (is_code text)) [
    | inl is ↦ inl (text, None, record { is = is; joined = sym (append-nil text) })
    | inr wrong ↦ inr (status_parts.no_code text none wrong)
  ]
]

reason_clean : (code : List ℕ) (reason : Option (List ℕ)) → list_all is_line_byte (code ++ reason_text reason) ≡ true → IfSome reason (λ text. list_all is_line_byte text ≡ true)
reason_clean code None clean = tt
reason_clean code (Some reason) clean = (and_parts (list_all is_line_byte code) (list_all is_line_byte (32 ∷ reason)) (sym (list_all-append is_line_byte code (32 ∷ reason)) ∙ clean)).1

abbrev StatusOrNot : List ℕ → Type 0
StatusOrNot bytes = ((start : StartLine) × (more : List ℕ) × BeginsWithStart start more bytes) ⊎ BeginsWithNoStatus bytes

status_or_not : (bytes : List ℕ) → StatusOrNot bytes
status_or_not bytes = elim (stands is_visible 32 bytes) [
  | inr none ↦ inr (status_parts.no_version bytes none)
  | inl v ↦ elim (cases_Bool (is_version v.0)) [
    | inr other ↦ inr (status_parts.other_version bytes v.0 v.1 v.2 other)
    | inl is ↦ by_text v.0 v.1 v.2 is (stands_crlf is_line_byte v.1 refl)
  ]
]
  where
    by_text : (version rest : List ℕ) → StandsBefore is_visible (32 ∷ []) version rest bytes → is_version version ≡ true → Decided is_line_byte (13 ∷ 10 ∷ []) rest → StatusOrNot bytes
    by_text version rest v is (inr none) = inr (status_parts.no_end bytes version rest v none)
    by_text version rest v is (inl t) = elim (code_or_not t.0) [
      | inr none ↦ inr (status_parts.bad_code bytes version rest t.0 t.1 v t.2 none)
      | inl c ↦
          let line : StatusLine = record { version = version; code = c.0; reason = c.1 } in
          inl (
            status line,
            t.1,
            record {
              is = record { version = is; code = c.2.is; reason = reason_clean c.0 c.1 (ap (list_all is_line_byte) (sym c.2.joined) ∙ t.2.each) };
              joined = v.joined ∙ ap (λ (x : List ℕ). version ++ 32 ∷ x) (t.2.joined ∙ ap (λ (x : List ℕ). x ++ 13 ∷ 10 ∷ t.1) c.2.joined) ∙ sym (status_parts.opened_status line t.1);
            },
          )
    ]

pub start_or_not : (bytes : List ℕ) → ((start : StartLine) × (more : List ℕ) × BeginsWithStart start more bytes) ⊎ BeginsWithNoStart bytes
start_or_not bytes = elim (request_or_not bytes) [
  | inl found ↦ inl found
  | inr no_request ↦ elim (status_or_not bytes) [
    | inl found ↦ inl found
    | inr no_status ↦ inr (neither no_request no_status)
  ]
]
  where
    neither : BeginsWithNoRequest bytes → BeginsWithNoStatus bytes → BeginsWithNoStart bytes
    neither no_request no_status (request line) more b = no_request line more b.is b.joined
    neither no_request no_status (status line) more b = no_status line more b.is b.joined

-- ---- field lines

-- a line's own text begins with it
begins_own : (cut : RawPieces) → is_cut cut ≡ true → BeginsWithCut cut [] (cut_text cut)
begins_own cut is =
    let both = and_parts (nat_lt 0 (length cut.first)) (are_pieces cut) is in
    record { begins = record { are = both.1; ends = refl; joined = refl }; some = ltb-true 0 (length cut.first) both.0 }

pub line_or_not : (cut : RawPieces) → is_cut cut ≡ true → ((line : FieldLine) × MakesLine cut line) ⊎ MakesNoLine cut
line_or_not cut is = elim (stands is_tchar 58 (cut_text cut)) [
  | inr none ↦ inr (no_name cut [] (cut_text cut) (begins_own cut is) none)
  | inl n ↦ elim (cases_lt 0 (length n.0)) [
    | inl some ↦
        let parts = parts_of cut [] (cut_text cut) n.0 n.1 (begins_own cut is) n.2 some in inl (record { name = n.0; raw = pieces_text parts.pieces }, parts.makes)
    | inr empty ↦ inr (empty_name cut [] (cut_text cut) n.0 n.1 (begins_own cut is) n.2 (omega (arith, empty)))
  ]
]
