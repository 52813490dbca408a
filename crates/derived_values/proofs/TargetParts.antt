-- The parts of a target are determined by the method and the target.
use Rattle.std.proofs.Common.{◌≡◌, ◌≢◌, inl, inr, ℕ, true, false, ◌==◌, List, [], ◌∷◌, ◌++◌, Option, Some, refl, sym, ap, subst, ◌∙◌, codes}
use Rattle.std.specs.List.{list_all}
use Rattle.std.proofs.lemmas.Bool.{and_parts, cases_Bool, eqb-true, false≢true}
use Rattle.std.proofs.lemmas.List.{append_cancel_left}
use Rattle.byte_grammar.specs.Classes.{is_alpha}
use Rattle.byte_grammar.specs.Language.{starts_in, IsWord}
use Rattle.derived_values.specs.UriBytes.{is_scheme_byte, is_authority_byte, is_path_byte, is_query_byte}
use Rattle.derived_values.specs.Targets.{TargetParts, is_scheme, is_path, is_absolute_path, query_text, IsOriginForm, IsAbsoluteForm, IsAuthorityForm, IsAsteriskForm, IsOtherForm, SpellsTarget}
use Rattle.derived_values.specs.TargetLaws.{OneTarget}
use Rattle.derived_values.specs.tools.Parts.{IsMarked, IsPathAndQuery, BeginsWithScheme}
use Rattle.derived_values.proofs.Runs.{one_run, marked_ends, one_marked}

-- ---- a path and a query

pub one_path_and_query : (text path other : List ℕ) (query last : Option (List ℕ)) → IsPathAndQuery text path query → IsPathAndQuery text other last → (path ≡ other) × (query ≡ last)
one_path_and_query text path other query last a b =
    let both = one_run is_path_byte path other (query_text query) (query_text last) a.each b.each (marked_ends is_path_byte 63 refl query) (marked_ends is_path_byte 63 refl last) (sym a.joined ∙ b.joined) in
    (both.0, one_marked 63 query last both.1)

-- where no query stands after the path, the text is none
pub no_query : (bytes path rest : List ℕ) → bytes ≡ path ++ rest → list_all is_path_byte path ≡ true → starts_in is_path_byte rest ≡ false → ((part : Option (List ℕ)) → IsMarked 63 is_query_byte rest part → ⊥)
    → (other : List ℕ) (query : Option (List ℕ)) → IsPathAndQuery bytes other query → ⊥
no_query bytes path rest joined all ends none other query is =
    let both = one_run is_path_byte path other rest (query_text query) all is.each ends (marked_ends is_path_byte 63 refl query) (sym joined ∙ is.joined) in
    none query (record { each = is.is_query; joined = both.1 })

pub absolute_path_bytes : (path : List ℕ) → is_absolute_path path ≡ true → list_all is_path_byte path ≡ true
absolute_path_bytes path is = (and_parts _ _ is).1

pub path_bytes : (path : List ℕ) → is_path path ≡ true → list_all is_path_byte path ≡ true
path_bytes [] is = refl
path_bytes (c ∷ rest) is = absolute_path_bytes (c ∷ rest) is

-- ---- origin form

pub of_origin : (target : List ℕ) (parts : TargetParts) → IsOriginForm target parts → IsPathAndQuery target parts.path parts.query
of_origin target parts o = record { each = absolute_path_bytes parts.path o.path; is_query = o.query; joined = o.joined }

pub no_origin : (target : List ℕ) → ((path : List ℕ) (query : Option (List ℕ)) → IsPathAndQuery target path query → ⊥) → (parts : TargetParts) → IsOriginForm target parts → ⊥
no_origin target none parts o = none parts.path parts.query (of_origin target parts o)

pub other_path : (target path : List ℕ) (query : Option (List ℕ)) → IsPathAndQuery target path query → starts_in (λ c. c == 47) path ≡ false → (parts : TargetParts) → IsOriginForm target parts → ⊥
other_path target path query is other parts o =
    let same = (one_path_and_query target path parts.path query parts.query is (of_origin target parts o)).0 in
    false≢true (sym other ∙ ap (starts_in (λ c. c == 47)) same ∙ (and_parts _ _ o.path).0)

-- ---- a scheme

pub one_scheme_text : (one other rest more : List ℕ) → is_scheme one ≡ true → is_scheme other ≡ true → starts_in is_scheme_byte rest ≡ false → starts_in is_scheme_byte more ≡ false → one ++ rest ≡ other ++ more → (one ≡ other) × (rest ≡ more)
one_scheme_text [] other rest more a b r m e = absurd cc
one_scheme_text (x ∷ xs) [] rest more a b r m e = absurd cc
one_scheme_text (x ∷ xs) (y ∷ ys) rest more a b r m e =
    let first : x ≡ y = cc in
    let left : xs ++ rest ≡ ys ++ more = cc in
    let others = one_run is_scheme_byte xs ys rest more (and_parts _ _ a).1 (and_parts _ _ b).1 r m left in
    (λ i. first i ∷ others.0 i, others.1)

pub word_scheme : (scheme : List ℕ) → IsWord is_alpha is_scheme_byte scheme scheme → is_scheme scheme ≡ true
word_scheme [] w = absurd w
word_scheme (c ∷ rest) w = rw (w.1, w.2) refl

pub one_scheme : (bytes scheme other rest more : List ℕ) → BeginsWithScheme bytes scheme rest → BeginsWithScheme bytes other more → (scheme ≡ other) × (rest ≡ more)
one_scheme bytes scheme other rest more a b =
    let both = one_scheme_text scheme other (codes "://" ++ rest) (codes "://" ++ more) a.is b.is refl refl (sym a.joined ∙ b.joined) in
    (both.0, append_cancel_left (codes "://") rest more both.1)

pub no_scheme : (bytes scheme after : List ℕ) → bytes ≡ scheme ++ after → IsWord is_alpha is_scheme_byte scheme scheme → starts_in is_scheme_byte after ≡ false → ((rest : List ℕ) → after ≢ codes "://" ++ rest)
    → (other rest : List ℕ) → BeginsWithScheme bytes other rest → ⊥
no_scheme bytes scheme after joined word ends none other rest b =
    none rest (one_scheme_text scheme other after (codes "://" ++ rest) (word_scheme scheme word) b.is ends refl (sym joined ∙ b.joined)).1

-- ---- absolute form

-- a byte that ends an authority and stands in a path is `/`
slash_is : (c : ℕ) → is_authority_byte c ≡ false → is_path_byte c ≡ true → (c == 47) ≡ true
slash_is c ends stands = elim (cases_Bool (47 == c)) [
  | inl is ↦ let same : 47 ≡ c = eqb-true 47 c is in rw (← same) refl
  | inr not_slash ↦ absurd (false≢true (sym ends ∙ rw not_slash stands))
]

-- what comes after an authority begins with a path, or its path is empty
pub path_after : (rest path : List ℕ) (query : Option (List ℕ)) → starts_in is_authority_byte rest ≡ false → IsPathAndQuery rest path query → is_path path ≡ true
path_after rest [] query ends is = refl
path_after rest (c ∷ cs) query ends is =
    let first : is_authority_byte c ≡ false = ap (starts_in is_authority_byte) (sym is.joined) ∙ ends in
    rw (slash_is c first (and_parts _ _ is.each).0) is.each

pub path_ends : (path : List ℕ) (query : Option (List ℕ)) → is_path path ≡ true → starts_in is_authority_byte (path ++ query_text query) ≡ false
path_ends [] query is = marked_ends is_authority_byte 63 refl query
path_ends (c ∷ cs) query is = let same : c ≡ 47 = eqb-true c 47 (and_parts _ _ is).0 in ap is_authority_byte same

abbrev pub after_scheme : {target : List ℕ} {parts : TargetParts} → IsAbsoluteForm target parts → List ℕ
after_scheme {parts = parts} f = f.authority ++ (parts.path ++ query_text parts.query)

of_absolute : (target : List ℕ) (parts : TargetParts) (f : IsAbsoluteForm target parts) → BeginsWithScheme target f.scheme (after_scheme f)
of_absolute target parts f = record { is = f.is_scheme; joined = f.joined }

of_path : (target : List ℕ) (parts : TargetParts) (f : IsAbsoluteForm target parts) → IsPathAndQuery (parts.path ++ query_text parts.query) parts.path parts.query
of_path target parts f = record { each = path_bytes parts.path f.path; is_query = f.query; joined = refl }

pub no_scheme_no_absolute : (target : List ℕ) → ((scheme rest : List ℕ) → BeginsWithScheme target scheme rest → ⊥) → (parts : TargetParts) → IsAbsoluteForm target parts → ⊥
no_scheme_no_absolute target none parts f = none f.scheme (after_scheme f) (of_absolute target parts f)

pub no_path_no_absolute : (target scheme after authority rest : List ℕ) → BeginsWithScheme target scheme after → after ≡ authority ++ rest → list_all is_authority_byte authority ≡ true → starts_in is_authority_byte rest ≡ false
    → ((path : List ℕ) (query : Option (List ℕ)) → IsPathAndQuery rest path query → ⊥) → (parts : TargetParts) → IsAbsoluteForm target parts → ⊥
no_path_no_absolute target scheme after authority rest b joined all ends none parts f =
    let schemes = one_scheme target scheme f.scheme after (after_scheme f) b (of_absolute target parts f) in
    let authorities = one_run is_authority_byte authority f.authority rest (parts.path ++ query_text parts.query) all f.is_authority ends (path_ends parts.path parts.query f.path) (sym joined ∙ schemes.1) in
    none parts.path parts.query (subst (λ (text : List ℕ). IsPathAndQuery text parts.path parts.query) (sym authorities.1) (of_path target parts f))

-- ---- one target's parts

same_parts : (one other : TargetParts) → one.form ≡ other.form → one.scheme ≡ other.scheme → one.authority ≡ other.authority → one.path ≡ other.path → one.query ≡ other.query → one ≡ other
same_parts one other f s a p q = λ i. record { form = f i; scheme = s i; authority = a i; path = p i; query = q i }

one_origin : (target : List ℕ) (one other : TargetParts) → IsOriginForm target one → IsOriginForm target other → one ≡ other
one_origin target one other a b =
    let same = one_path_and_query target one.path other.path one.query other.query (of_origin target one a) (of_origin target other b) in
    same_parts one other (a.form ∙ sym b.form) (a.no_scheme ∙ sym b.no_scheme) (a.no_authority ∙ sym b.no_authority) same.0 same.1

one_absolute : (target : List ℕ) (one other : TargetParts) → IsAbsoluteForm target one → IsAbsoluteForm target other → one ≡ other
one_absolute target one other a b =
    let schemes = one_scheme target a.scheme b.scheme (after_scheme a) (after_scheme b) (of_absolute target one a) (of_absolute target other b) in
    let authorities = one_run is_authority_byte a.authority b.authority (one.path ++ query_text one.query) (other.path ++ query_text other.query) a.is_authority b.is_authority (path_ends one.path one.query a.path) (path_ends other.path other.query b.path) schemes.1 in
    let same = one_path_and_query (other.path ++ query_text other.query) one.path other.path one.query other.query (subst (λ (text : List ℕ). IsPathAndQuery text one.path one.query) authorities.1 (of_path target one a)) (of_path target other b) in
    same_parts one other (a.form ∙ sym b.form) (a.scheme_is ∙ ap Some schemes.0 ∙ sym b.scheme_is) (a.authority_is ∙ ap Some authorities.0 ∙ sym b.authority_is) same.0 same.1

-- ---- the first byte says the form

starts_origin : (target : List ℕ) (parts : TargetParts) → IsOriginForm target parts → starts_in (λ c. c == 47) target ≡ true
starts_origin target parts o = ap (starts_in (λ c. c == 47)) o.joined ∙ first parts.path (query_text parts.query) (and_parts _ _ o.path).0
  where
    first : (path rest : List ℕ) → starts_in (λ c. c == 47) path ≡ true → starts_in (λ c. c == 47) (path ++ rest) ≡ true
    first [] rest is = absurd cc
    first (c ∷ cs) rest is = is

starts_absolute : (target : List ℕ) (parts : TargetParts) → IsAbsoluteForm target parts → starts_in is_alpha target ≡ true
starts_absolute target parts f = ap (starts_in is_alpha) f.joined ∙ first f.scheme (codes "://" ++ after_scheme f) f.is_scheme
  where
    first : (scheme rest : List ℕ) → is_scheme scheme ≡ true → starts_in is_alpha (scheme ++ rest) ≡ true
    first [] rest is = absurd cc
    first (c ∷ cs) rest is = (and_parts _ _ is).0

apart : (target : List ℕ) → starts_in (λ c. c == 47) target ≡ true → starts_in is_alpha target ≡ true → ⊥
apart [] slash alpha = absurd cc
apart (c ∷ cs) slash alpha = let same : c ≡ 47 = eqb-true c 47 slash in false≢true (sym (ap is_alpha same) ∙ alpha)

one_other : (target : List ℕ) (one other : TargetParts) → IsOtherForm target one → IsOtherForm target other → one ≡ other
one_other target one other (inl a) (inl b) = one_origin target one other a b
one_other target one other (inl a) (inr (inl b)) = absurd (apart target (starts_origin target one a) (starts_absolute target other b))
one_other target one other (inl a) (inr (inr b)) = absurd (false≢true (sym (ap (starts_in (λ c. c == 47)) b.is_asterisk) ∙ starts_origin target one a))
one_other target one other (inr (inl a)) (inl b) = absurd (apart target (starts_origin target other b) (starts_absolute target one a))
one_other target one other (inr (inl a)) (inr (inl b)) = one_absolute target one other a b
one_other target one other (inr (inl a)) (inr (inr b)) = absurd (false≢true (sym (ap (starts_in is_alpha) b.is_asterisk) ∙ starts_absolute target one a))
one_other target one other (inr (inr a)) (inl b) = absurd (false≢true (sym (ap (starts_in (λ c. c == 47)) a.is_asterisk) ∙ starts_origin target other b))
one_other target one other (inr (inr a)) (inr (inl b)) = absurd (false≢true (sym (ap (starts_in is_alpha) a.is_asterisk) ∙ starts_absolute target other b))
one_other target one other (inr (inr a)) (inr (inr b)) = a.parts_are ∙ sym b.parts_are

pub one_target : OneTarget
one_target method target one other (inl a) (inl b) = a.1.parts_are ∙ sym b.1.parts_are
one_target method target one other (inl a) (inr b) = absurd (b.0 a.0)
one_target method target one other (inr a) (inl b) = absurd (a.0 b.0)
one_target method target one other (inr a) (inr b) = one_other target one other a.1 b.1

-- ---- where no form has the target

pub no_other : (target : List ℕ) → ((parts : TargetParts) → IsOriginForm target parts → ⊥) → ((parts : TargetParts) → IsAbsoluteForm target parts → ⊥) → ((parts : TargetParts) → IsAsteriskForm target parts → ⊥)
    → (parts : TargetParts) → IsOtherForm target parts → ⊥
no_other target origin absolute asterisk parts (inl o) = origin parts o
no_other target origin absolute asterisk parts (inr (inl f)) = absolute parts f
no_other target origin absolute asterisk parts (inr (inr a)) = asterisk parts a

pub no_target : (method target : List ℕ) → method ≡ codes "CONNECT" → ((parts : TargetParts) → IsAuthorityForm target parts → ⊥) → (parts : TargetParts) → SpellsTarget method target parts → ⊥
no_target method target is none parts (inl a) = none parts a.1
no_target method target is none parts (inr a) = a.0 is

pub no_other_target : (method target : List ℕ) → method ≢ codes "CONNECT" → ((parts : TargetParts) → IsOtherForm target parts → ⊥) → (parts : TargetParts) → SpellsTarget method target parts → ⊥
no_other_target method target isnt none parts (inl a) = isnt a.0
no_other_target method target isnt none parts (inr a) = none parts a.1
