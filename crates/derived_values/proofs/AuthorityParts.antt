-- The host and the port of an authority are determined by its text.
use Rattle.std.proofs.Common.{◌≡◌, ◌≢◌, inl, inr, ℕ, ◌+◌, true, false, List, [], ◌∷◌, ◌++◌, length, take, drop, Option, refl, sym, ap, ◌∙◌, append_assoc, length-append, arith, codes}
use Rattle.std.specs.List.{list_all}
use Rattle.std.proofs.Math.Seq.{take-append_seam}
use Rattle.std.proofs.lemmas.Bool.{and_parts, false≢true}
use Rattle.std.proofs.lemmas.List.{take-append-drop}
use Rattle.byte_grammar.specs.Classes.{is_digit}
use Rattle.byte_grammar.specs.Language.{starts_in}
use Rattle.derived_values.specs.UriBytes.{is_host_byte, is_literal_byte}
use Rattle.derived_values.specs.Authorities.{IsAuthority, authority_text, kept_port, is_reg_name, port_text}
use Rattle.derived_values.specs.TargetLaws.{OneAuthority, OneAuthorityValue}
use Rattle.derived_values.specs.tools.Parts.{IsMarked, BeginsWithHost, BeginsWithRegName, BeginsWithLiteral}
use Rattle.derived_values.proofs.Runs.{one_run, marked_ends, one_marked, not_empty}

-- ---- a host without brackets

pub empty_name : (bytes host rest : List ℕ) → bytes ≡ host ++ rest → list_all is_host_byte host ≡ true → starts_in is_host_byte rest ≡ false → length host ≡ 0 → (other more : List ℕ) → BeginsWithRegName bytes other more → ⊥
empty_name bytes host rest joined all ends empty other more b =
    let same = (one_run is_host_byte host other rest more all (and_parts _ _ b.is).1 ends b.ends (sym joined ∙ b.joined)).0 in
    not_empty is_host_byte other b.is (sym (ap (length {A = ℕ}) same) ∙ empty)

one_name : (bytes host other rest more : List ℕ) → BeginsWithRegName bytes host rest → BeginsWithRegName bytes other more → (host ≡ other) × (rest ≡ more)
one_name bytes host other rest more a b = one_run is_host_byte host other rest more (and_parts _ _ a.is).1 (and_parts _ _ b.is).1 a.ends b.ends (sym a.joined ∙ b.joined)

starts_name : (host rest : List ℕ) → is_reg_name host ≡ true → starts_in is_host_byte (host ++ rest) ≡ true
starts_name [] rest is = absurd (not_empty is_host_byte [] is refl)
starts_name (c ∷ cs) rest is = (and_parts _ _ (and_parts _ _ is).1).0

-- ---- a host in brackets

opened : (inner rest : List ℕ) → (91 ∷ (inner ++ 93 ∷ [])) ++ rest ≡ 91 ∷ (inner ++ 93 ∷ rest)
opened inner rest = ap (λ (text : List ℕ). 91 ∷ text) (append_assoc inner (93 ∷ []) rest)

pub literal_parts : (bytes after inner closed host rest : List ℕ) → bytes ≡ codes "[" ++ after → after ≡ inner ++ closed → list_all is_literal_byte inner ≡ true → starts_in is_literal_byte closed ≡ false
    → (b : BeginsWithLiteral bytes host rest) → (inner ≡ b.is.inner) × (closed ≡ 93 ∷ rest)
literal_parts bytes after inner closed host rest begins joined all ends b =
    let whole : 91 ∷ after ≡ 91 ∷ (b.is.inner ++ 93 ∷ rest) = sym begins ∙ b.joined ∙ ap (λ (text : List ℕ). text ++ rest) b.is.joined ∙ opened b.is.inner rest in
    let left : after ≡ b.is.inner ++ 93 ∷ rest = cc in
    one_run is_literal_byte inner b.is.inner closed (93 ∷ rest) all b.is.each ends refl (sym joined ∙ left)

pub no_bracket : (bytes : List ℕ) → ((after : List ℕ) → bytes ≢ codes "[" ++ after) → (host rest : List ℕ) → BeginsWithLiteral bytes host rest → ⊥
no_bracket bytes none host rest b = none (b.is.inner ++ 93 ∷ rest) (b.joined ∙ ap (λ (text : List ℕ). text ++ rest) b.is.joined ∙ opened b.is.inner rest)

pub empty_literal : (bytes after inner closed : List ℕ) → bytes ≡ codes "[" ++ after → after ≡ inner ++ closed → list_all is_literal_byte inner ≡ true → starts_in is_literal_byte closed ≡ false → length inner ≡ 0
    → (host rest : List ℕ) → BeginsWithLiteral bytes host rest → ⊥
empty_literal bytes after inner closed begins joined all ends empty host rest b =
    let same = (literal_parts bytes after inner closed host rest begins joined all ends b).0 in
    omega (arith, b.is.some, ap (length {A = ℕ}) same, empty)

pub not_closed : (bytes after inner closed : List ℕ) → bytes ≡ codes "[" ++ after → after ≡ inner ++ closed → list_all is_literal_byte inner ≡ true → starts_in is_literal_byte closed ≡ false → ((rest : List ℕ) → closed ≢ codes "]" ++ rest)
    → (host rest : List ℕ) → BeginsWithLiteral bytes host rest → ⊥
not_closed bytes after inner closed begins joined all ends none host rest b = none rest (literal_parts bytes after inner closed host rest begins joined all ends b).1

pub literal_is : (bytes after inner closed rest : List ℕ) → bytes ≡ codes "[" ++ after → after ≡ inner ++ closed → list_all is_literal_byte inner ≡ true → (length inner ≡ 0 → ⊥) → closed ≡ codes "]" ++ rest
    → BeginsWithLiteral bytes (take (length inner + 2) bytes) (drop (length inner + 2) bytes)
literal_is bytes after inner closed rest begins joined all some end =
    let host = 91 ∷ (inner ++ 93 ∷ []) in
    let whole : bytes ≡ host ++ rest = begins ∙ ap (λ (text : List ℕ). 91 ∷ text) (joined ∙ ap (λ (text : List ℕ). inner ++ text) end) ∙ sym (opened inner rest) in
    let size : length inner + 2 ≡ length host = omega (arith, length-append inner (93 ∷ [])) in
    let taken : take (length inner + 2) bytes ≡ host = ap (λ n. take n bytes) size ∙ ap (λ (text : List ℕ). take (length host) text) whole ∙ take-append_seam host rest in
    record {
      is = record { inner = inner; some = omega (arith, some); each = all; joined = taken };
      joined = sym (take-append-drop (length inner + 2) bytes);
    }

one_literal : (bytes host other rest more : List ℕ) → BeginsWithLiteral bytes host rest → BeginsWithLiteral bytes other more → (host ≡ other) × (rest ≡ more)
one_literal bytes host other rest more a b =
    let whole = a.joined ∙ ap (λ (text : List ℕ). text ++ rest) a.is.joined ∙ opened a.is.inner rest in
    let same = literal_parts bytes (a.is.inner ++ 93 ∷ rest) a.is.inner (93 ∷ rest) other more whole refl a.is.each refl b in
    let rests : rest ≡ more = let e = same.1 in cc in
    (a.is.joined ∙ ap (λ (inner : List ℕ). 91 ∷ (inner ++ 93 ∷ [])) same.0 ∙ sym b.is.joined, rests)

-- ---- a host

apart : (bytes host other rest more : List ℕ) → BeginsWithLiteral bytes host rest → BeginsWithRegName bytes other more → ⊥
apart bytes host other rest more a b =
    let begins : starts_in is_host_byte bytes ≡ false = ap (starts_in is_host_byte) (a.joined ∙ ap (λ (text : List ℕ). text ++ rest) a.is.joined) in
    false≢true (sym begins ∙ ap (starts_in is_host_byte) b.joined ∙ starts_name other more b.is)

pub one_host : (bytes host other rest more : List ℕ) → BeginsWithHost bytes host rest → BeginsWithHost bytes other more → (host ≡ other) × (rest ≡ more)
one_host bytes host other rest more (inl a) (inl b) = one_literal bytes host other rest more a b
one_host bytes host other rest more (inl a) (inr b) = absurd (apart bytes host other rest more a b)
one_host bytes host other rest more (inr a) (inl b) = absurd (apart bytes other host more rest b a)
one_host bytes host other rest more (inr a) (inr b) = one_name bytes host other rest more a b

pub no_host : (bytes : List ℕ) → ((host rest : List ℕ) → BeginsWithLiteral bytes host rest → ⊥) → ((host rest : List ℕ) → BeginsWithRegName bytes host rest → ⊥) → (host rest : List ℕ) → BeginsWithHost bytes host rest → ⊥
no_host bytes literal name host rest (inl a) = literal host rest a
no_host bytes literal name host rest (inr a) = name host rest a

-- ---- an authority

of_authority : (text host : List ℕ) (port : Option (List ℕ)) → IsAuthority text host port → BeginsWithHost text host (port_text port)
of_authority text host port a = elim a.is_host [
  | inl literal ↦ inl (record { is = literal; joined = a.joined })
  | inr name ↦ inr (record { is = name; ends = marked_ends is_host_byte 58 refl port; joined = a.joined })
]

pub no_authority : (text : List ℕ) → ((host rest : List ℕ) → BeginsWithHost text host rest → ⊥) → (host : List ℕ) (port : Option (List ℕ)) → IsAuthority text host port → ⊥
no_authority text none host port a = none host (port_text port) (of_authority text host port a)

pub no_port : (text host rest : List ℕ) → BeginsWithHost text host rest → ((part : Option (List ℕ)) → IsMarked 58 is_digit rest part → ⊥) → (other : List ℕ) (port : Option (List ℕ)) → IsAuthority text other port → ⊥
no_port text host rest b none other port a =
    let same = one_host text host other rest (port_text port) b (of_authority text other port a) in
    none port (record { each = a.is_port; joined = same.1 })

pub authority_is : (text host rest : List ℕ) (port : Option (List ℕ)) → BeginsWithHost text host rest → IsMarked 58 is_digit rest port → IsAuthority text host port
authority_is text host rest port (inl b) p = record { is_host = inl b.is; is_port = p.each; joined = b.joined ∙ ap (λ (more : List ℕ). host ++ more) p.joined }
authority_is text host rest port (inr b) p = record { is_host = inr b.is; is_port = p.each; joined = b.joined ∙ ap (λ (more : List ℕ). host ++ more) p.joined }

pub one_authority : OneAuthority
one_authority text host other port last a b =
    let same = one_host text host other (port_text port) (port_text last) (of_authority text host port a) (of_authority text other last b) in
    (same.0, one_marked 58 port last same.1)

pub one_authority_value : OneAuthorityValue
one_authority_value scheme text one other (parts, (port, is, kept), value) (others, (last, also, left), same) =
    let both = one_authority text parts.host others.host port last is also in
    let ports : parts.port ≡ others.port = kept ∙ ap (kept_port scheme) both.1 ∙ sym left in
    let all : parts ≡ others = λ i. record { host = both.0 i; port = ports i } in
    value ∙ ap authority_text all ∙ sym same
