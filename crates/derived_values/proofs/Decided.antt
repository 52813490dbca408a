-- Whether a text is a target or an authority is decided: it is cut in the one way in which it can be.
use Rattle.std.proofs.Common.{◌≡◌, ◌≢◌, ◌⊎◌, inl, inr, ℕ, Bool, true, false, ◌==◌, List, [], ◌∷◌, ◌++◌, length, Option, Some, None, refl, ap, ◌∙◌, arith, codes}
use Rattle.std.specs.List.{list_all}
use Rattle.std.specs.Str.{bytes_eq}
use Rattle.std.proofs.lemmas.Bool.{and_parts, and_from, cases_Bool, cases_eq, lt-ltb}
use Rattle.std.proofs.lemmas.Bool.Decides.{not_from_Decides}
use Rattle.std.proofs.lemmas.Slice.Eq.{bytes_eq-Decides}
use Rattle.byte_grammar.specs.Classes.{is_alpha, is_digit}
use Rattle.byte_grammar.specs.Language.{starts_in}
use Rattle.derived_values.specs.declared.target.Form.TheVariants.{Origin, Absolute, Authority, Asterisk}
use Rattle.derived_values.specs.UriBytes.{is_scheme_byte, is_authority_byte, is_path_byte, is_query_byte, is_host_byte, is_literal_byte}
use Rattle.derived_values.specs.Targets.{IsOriginForm, IsAbsoluteForm, IsAuthorityForm, IsAsteriskForm, IsOtherForm}
use Rattle.derived_values.specs.Authorities.{AuthorityParts, IsAuthority, authority_text, kept_port}
use Rattle.derived_values.specs.TargetLaws.{TargetIsDecided, AuthorityIsDecided}
use Rattle.derived_values.specs.tools.Parts.{IsMarked, IsPathAndQuery, BeginsWithScheme, BeginsWithLiteral, BeginsWithRegName, BeginsWithHost}
use Rattle.derived_values.proofs.TargetParts.{no_query, no_origin, other_path, no_scheme, no_scheme_no_absolute, no_path_no_absolute, path_after, no_other, no_target, no_other_target}
use Rattle.derived_values.proofs.AuthorityParts.{empty_name, no_bracket, empty_literal, not_closed, literal_is, no_host, no_authority, no_port, authority_is}

-- some value has the fact, or none
abbrev SomeOrNone : {V : Type 0} → (V → Type 0) → Type 0
SomeOrNone {V} P = ((v : V) × P v) ⊎ ((v : V) → P v → ⊥)

-- the same of two values
abbrev SomeOrNoneOfTwo : {V W : Type 0} → (V → W → Type 0) → Type 0
SomeOrNoneOfTwo {V} {W} P = ((v : V) × (w : W) × P v w) ⊎ ((v : V) (w : W) → P v w → ⊥)

equal_or_not : (text other : List ℕ) → (text ≡ other) ⊎ (text ≢ other)
equal_or_not text other = elim (cases_Bool (bytes_eq text other)) [
  | inl same ↦ inl ((bytes_eq-Decides text other).0 same)
  | inr apart ↦ inr (not_from_Decides _ (bytes_eq-Decides text other) apart)
]

-- ---- runs, prefixes and marks

-- the bytes of a class that stand first, and what comes after them
record RunAndRest (test : ℕ → Bool) (bytes : List ℕ) : Type 0 where
  run : List ℕ
  rest : List ℕ
  joined : bytes ≡ run ++ rest
  each : list_all test run ≡ true
  ends : starts_in test rest ≡ false

run_and_rest : (test : ℕ → Bool) (bytes : List ℕ) → RunAndRest test bytes
run_and_rest test [] = record { run = []; rest = []; joined = refl; each = refl; ends = refl }
run_and_rest test (c ∷ cs) = elim (cases_Bool (test c)) [
  | inl passes ↦
      let more = run_and_rest test cs in
      record { run = c ∷ more.run; rest = more.rest; joined = ap (λ (text : List ℕ). c ∷ text) more.joined; each = and_from _ _ passes more.each; ends = more.ends }
  | inr fails ↦ record { run = []; rest = c ∷ cs; joined = refl; each = refl; ends = fails }
]

prefix_or_none : (prefix bytes : List ℕ) → SomeOrNone (λ (rest : List ℕ). bytes ≡ prefix ++ rest)
prefix_or_none [] bytes = inl (bytes, refl)
prefix_or_none (p ∷ ps) [] = inr (λ rest e. absurd cc)
prefix_or_none (p ∷ ps) (c ∷ cs) = elim (cases_eq c p) [
  | inr other ↦ inr (λ rest e. other cc)
  | inl same ↦ elim (prefix_or_none ps cs) [
    | inl found ↦ inl (found.0, λ i. same i ∷ found.1 i)
    | inr none ↦ inr (λ rest e. none rest cc)
  ]
]

not_marked : (mark : ℕ) (class : ℕ → Bool) (c : ℕ) (cs : List ℕ) → (c ≡ mark → list_all class cs ≡ true → ⊥) → (part : Option (List ℕ)) → IsMarked mark class (c ∷ cs) part → ⊥
not_marked mark class c cs none None is = let e = is.joined in absurd cc
not_marked mark class c cs none (Some text) is =
    let e = is.joined in
    let first : c ≡ mark = cc in
    let left : cs ≡ text = cc in
    none first (ap (list_all class) left ∙ is.each)

marked_or_none : (mark : ℕ) (class : ℕ → Bool) (bytes : List ℕ) → SomeOrNone (IsMarked mark class bytes)
marked_or_none mark class [] = inl (None, record { each = tt; joined = refl })
marked_or_none mark class (c ∷ cs) = elim (cases_eq c mark) [
  | inr other ↦ inr (not_marked mark class c cs (λ first all. other first))
  | inl same ↦ elim (cases_Bool (list_all class cs)) [
    | inl all ↦ inl (Some cs, record { each = all; joined = λ i. same i ∷ cs })
    | inr fails ↦ inr (not_marked mark class c cs (λ first all. absurd cc))
  ]
]

-- ---- targets

path_and_query_or_none : (bytes : List ℕ) → SomeOrNoneOfTwo (IsPathAndQuery bytes)
path_and_query_or_none bytes =
    let p = run_and_rest is_path_byte bytes in elim (marked_or_none 63 is_query_byte p.rest) [
      | inl query ↦ inl (p.run, query.0, record { each = p.each; is_query = query.1.each; joined = p.joined ∙ ap (λ (text : List ℕ). p.run ++ text) query.1.joined })
      | inr none ↦ inr (no_query bytes p.run p.rest p.joined p.each p.ends none)
    ]

origin_or_none : (target : List ℕ) → SomeOrNone (IsOriginForm target)
origin_or_none target = elim (path_and_query_or_none target) [
  | inr none ↦ inr (no_origin target none)
  | inl (path, query, is) ↦ elim (cases_Bool (starts_in (λ c. c == 47) path)) [
    | inl slash ↦ inl (
      record { form = Origin; scheme = None; authority = None; path = path; query = query },
      record { form = refl; no_scheme = refl; no_authority = refl; path = and_from _ _ slash is.each; query = is.is_query; joined = is.joined },
    )
    | inr other ↦ inr (other_path target path query is other)
  ]
]

not_alpha : (c : ℕ) (cs : List ℕ) → is_alpha c ≡ false → (scheme rest : List ℕ) → BeginsWithScheme (c ∷ cs) scheme rest → ⊥
not_alpha c cs fails [] rest b = let e = b.is in absurd cc
not_alpha c cs fails (d ∷ ds) rest b =
    let e = b.joined in
    let first : c ≡ d = cc in
    let passes : is_alpha c ≡ true = ap is_alpha first ∙ (and_parts _ _ b.is).0 in
    absurd cc

empty_scheme : (scheme rest : List ℕ) → BeginsWithScheme [] scheme rest → ⊥
empty_scheme [] rest b = let e = b.is in absurd cc
empty_scheme (d ∷ ds) rest b = let e = b.joined in absurd cc

scheme_or_none : (bytes : List ℕ) → SomeOrNoneOfTwo (BeginsWithScheme bytes)
scheme_or_none [] = inr empty_scheme
scheme_or_none (c ∷ cs) = elim (cases_Bool (is_alpha c)) [
  | inr fails ↦ inr (not_alpha c cs fails)
  | inl alpha ↦
      let s = run_and_rest is_scheme_byte cs in
      let joined : c ∷ cs ≡ (c ∷ s.run) ++ s.rest = ap (λ (text : List ℕ). c ∷ text) s.joined in elim (prefix_or_none (codes "://") s.rest) [
        | inl (rest, begins) ↦ inl (c ∷ s.run, rest, record { is = and_from _ _ alpha s.each; joined = joined ∙ ap (λ (text : List ℕ). (c ∷ s.run) ++ text) begins })
        | inr none ↦ inr (no_scheme (c ∷ cs) (c ∷ s.run) s.rest joined (refl, alpha, s.each) s.ends none)
      ]
]

absolute_or_none : (target : List ℕ) → SomeOrNone (IsAbsoluteForm target)
absolute_or_none target = elim (scheme_or_none target) [
  | inr none ↦ inr (no_scheme_no_absolute target none)
  | inl (scheme, after, is) ↦
      let a = run_and_rest is_authority_byte after in elim (path_and_query_or_none a.rest) [
        | inr none ↦ inr (no_path_no_absolute target scheme after a.run a.rest is a.joined a.each a.ends none)
        | inl (path, query, both) ↦ inl (
          record { form = Absolute; scheme = Some scheme; authority = Some a.run; path = path; query = query },
          record {
            scheme = scheme;
            authority = a.run;
            form = refl;
            scheme_is = refl;
            authority_is = refl;
            is_scheme = is.is;
            is_authority = a.each;
            path = path_after a.rest path query a.ends both;
            query = both.is_query;
            joined = is.joined ∙ ap (λ (text : List ℕ). scheme ++ (codes "://" ++ text)) (a.joined ∙ ap (λ (text : List ℕ). a.run ++ text) both.joined);
          },
        )
      ]
]

asterisk_or_none : (target : List ℕ) → SomeOrNone (IsAsteriskForm target)
asterisk_or_none target = elim (equal_or_not target (codes "*")) [
  | inl same ↦ inl (record { form = Asterisk; scheme = None; authority = None; path = []; query = None }, record { is_asterisk = same; parts_are = refl })
  | inr other ↦ inr (λ parts is. other is.is_asterisk)
]

other_or_none : (target : List ℕ) → SomeOrNone (IsOtherForm target)
other_or_none target = elim (origin_or_none target) [
  | inl found ↦ inl (found.0, inl found.1)
  | inr origin ↦ elim (absolute_or_none target) [
    | inl found ↦ inl (found.0, inr (inl found.1))
    | inr absolute ↦ elim (asterisk_or_none target) [
      | inl found ↦ inl (found.0, inr (inr found.1))
      | inr asterisk ↦ inr (no_other target origin absolute asterisk)
    ]
  ]
]

authority_form_or_none : (target : List ℕ) → SomeOrNone (IsAuthorityForm target)
authority_form_or_none target = elim (cases_Bool (list_all is_authority_byte target)) [
  | inl all ↦ inl (record { form = Authority; scheme = None; authority = Some target; path = []; query = None }, record { is_authority = all; parts_are = refl })
  | inr fails ↦ inr (λ parts is. let all = is.is_authority in absurd cc)
]

pub target_is_decided : TargetIsDecided
target_is_decided method target = elim (equal_or_not method (codes "CONNECT")) [
  | inl same ↦ elim (authority_form_or_none target) [
    | inl found ↦ inl (found.0, inl (same, found.1))
    | inr none ↦ inr (no_target method target same none)
  ]
  | inr other ↦ elim (other_or_none target) [
    | inl found ↦ inl (found.0, inr (other, found.1))
    | inr none ↦ inr (no_other_target method target other none)
  ]
]

-- ---- authorities

reg_name_or_none : (bytes : List ℕ) → SomeOrNoneOfTwo (BeginsWithRegName bytes)
reg_name_or_none bytes =
    let h = run_and_rest is_host_byte bytes in elim (cases_eq (length h.run) 0) [
      | inl empty ↦ inr (empty_name bytes h.run h.rest h.joined h.each h.ends empty)
      | inr some ↦ inl (h.run, h.rest, record { is = and_from _ _ (lt-ltb _ _ (omega (arith, some))) h.each; ends = h.ends; joined = h.joined })
    ]

literal_or_none : (bytes : List ℕ) → SomeOrNoneOfTwo (BeginsWithLiteral bytes)
literal_or_none bytes = elim (prefix_or_none (codes "[") bytes) [
  | inr none ↦ inr (no_bracket bytes none)
  | inl (after, begins) ↦
      let h = run_and_rest is_literal_byte after in elim (cases_eq (length h.run) 0) [
        | inl empty ↦ inr (empty_literal bytes after h.run h.rest begins h.joined h.each h.ends empty)
        | inr some ↦ elim (prefix_or_none (codes "]") h.rest) [
          | inl (rest, end) ↦ inl (_, _, literal_is bytes after h.run h.rest rest begins h.joined h.each some end)
          | inr none ↦ inr (not_closed bytes after h.run h.rest begins h.joined h.each h.ends none)
        ]
      ]
]

host_or_none : (bytes : List ℕ) → SomeOrNoneOfTwo (BeginsWithHost bytes)
host_or_none bytes = elim (literal_or_none bytes) [
  | inl (host, rest, is) ↦ inl (host, rest, inl is)
  | inr literal ↦ elim (reg_name_or_none bytes) [
    | inl (host, rest, is) ↦ inl (host, rest, inr is)
    | inr name ↦ inr (no_host bytes literal name)
  ]
]

authority_or_none : (text : List ℕ) → SomeOrNoneOfTwo (IsAuthority text)
authority_or_none text = elim (host_or_none text) [
  | inr none ↦ inr (no_authority text none)
  | inl (host, rest, is) ↦ elim (marked_or_none 58 is_digit rest) [
    | inl (port, marked) ↦ inl (host, port, authority_is text host rest port is marked)
    | inr none ↦ inr (no_port text host rest is none)
  ]
]

pub authority_is_decided : AuthorityIsDecided
authority_is_decided scheme text = elim (authority_or_none text) [
  | inl (host, port, is) ↦
      let parts : AuthorityParts = record { host = host; port = kept_port scheme port } in
      inl (authority_text parts, (parts, (port, is, refl), refl))
  | inr none ↦ inr (λ value (parts, (port, is, kept), same). none parts.host port is)
]
