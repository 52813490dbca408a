-- The parts of a request line are determined by the bytes that begin with it.
use Rattle.std.proofs.Common.{◌≡◌, ℕ, Bool, true, false, ◌&&◌, ◌⊎◌, inl, inr, List, [], ◌∷◌, ◌++◌, length, nat_lt, refl, sym, ap, ◌∙◌, arith, append_assoc, codes}
use Rattle.std.specs.List.{list_all}
use Rattle.std.proofs.lemmas.Bool.{and_parts, or_cases, ltb-true, false≢true}
use Rattle.std.proofs.lemmas.List.{append_cancel_left}
use Rattle.std.proofs.lemmas.Slice.Eq.{bytes_eq-Decides}
use Rattle.byte_grammar.specs.Classes.{is_tchar, is_visible}
use Rattle.msg_head.specs.Starts.{RequestLine, IsRequestLine, is_version, request_text}
use Rattle.msg_head.specs.tools.Prefixes.{StandsBefore, NoneStandsBefore, BeginsWithNoRequest}
use Rattle.msg_head.proofs.Prefixes.{one_before, one_prefix}

-- ---- request lines

pub version_is : (version : List ℕ) → is_version version ≡ true → (version ≡ codes "HTTP/1.1") ⊎ (version ≡ codes "HTTP/1.0")
version_is version is = elim (or_cases _ _ is) [
  | inl e ↦ inl ((bytes_eq-Decides version (codes "HTTP/1.1")).0 e)
  | inr e ↦ inr ((bytes_eq-Decides version (codes "HTTP/1.0")).0 e)
]

pub version_visible : (version : List ℕ) → is_version version ≡ true → list_all is_visible version ≡ true
version_visible version is = elim (version_is version is) [
  | inl e ↦ ap (list_all is_visible) e
  | inr e ↦ ap (list_all is_visible) e
]

pub opened_request : (line : RequestLine) (more : List ℕ) → request_text line ++ more ≡ line.method ++ 32 ∷ (line.target ++ 32 ∷ (line.version ++ 13 ∷ 10 ∷ more))
opened_request line more =
    append_assoc line.method (32 ∷ (line.target ++ 32 ∷ (line.version ++ 13 ∷ 10 ∷ []))) more
    ∙ ap (λ (s : List ℕ). line.method ++ 32 ∷ s) (append_assoc line.target (32 ∷ (line.version ++ 13 ∷ 10 ∷ [])) more
    ∙ ap (λ (s : List ℕ). line.target ++ 32 ∷ s) (append_assoc line.version (13 ∷ 10 ∷ []) more))

-- bytes begin with at most one request line
pub one_request : (one other : RequestLine) (more rest : List ℕ) → IsRequestLine one → IsRequestLine other → request_text one ++ more ≡ request_text other ++ rest → (one ≡ other) × (more ≡ rest)
one_request one other more rest a b e =
    let methods = one_prefix is_tchar 32 one.method other.method (one.target ++ 32 ∷ (one.version ++ 13 ∷ 10 ∷ more)) (other.target ++ 32 ∷ (other.version ++ 13 ∷ 10 ∷ rest)) refl (and_parts _ _ a.method).1 (and_parts _ _ b.method).1 (sym (opened_request one more) ∙ e ∙ opened_request other rest) in
    let targets = one_prefix is_visible 32 one.target other.target (one.version ++ 13 ∷ 10 ∷ more) (other.version ++ 13 ∷ 10 ∷ rest) refl (and_parts _ _ a.target).1 (and_parts _ _ b.target).1 methods.1 in
    let versions = one_prefix is_visible 13 one.version other.version (10 ∷ more) (10 ∷ rest) refl (version_visible one.version a.version) (version_visible other.version b.version) targets.1 in
    (λ i. record { method = methods.0 i; target = targets.0 i; version = versions.0 i }, append_cancel_left (10 ∷ []) more rest versions.1)

-- ---- what is in bytes that begin with a request line

-- the bytes begin with this request line
record Begins (line : RequestLine) (more bytes : List ℕ) : Type 0 where
  pub is : IsRequestLine line
  pub joined : bytes ≡ request_text line ++ more

-- the method is first
method_stands : (line : RequestLine) (more bytes : List ℕ) → Begins line more bytes → StandsBefore is_tchar (32 ∷ []) line.method (line.target ++ 32 ∷ (line.version ++ 13 ∷ 10 ∷ more)) bytes
method_stands line more bytes b = record { each = (and_parts _ _ b.is.method).1; joined = b.joined ∙ opened_request line more }

-- after the method, the target
target_stands : (line : RequestLine) (more bytes method rest : List ℕ) → Begins line more bytes → StandsBefore is_tchar (32 ∷ []) method rest bytes → StandsBefore is_visible (32 ∷ []) line.target (line.version ++ 13 ∷ 10 ∷ more) rest
target_stands line more bytes method rest b m = record {
  each = (and_parts _ _ b.is.target).1;
  joined = (one_before is_tchar 32 [] method line.method rest _ bytes refl m (method_stands line more bytes b)).1;
}

-- after the target, the version
version_stands : (line : RequestLine) (more bytes method rest target last : List ℕ) → Begins line more bytes → StandsBefore is_tchar (32 ∷ []) method rest bytes → StandsBefore is_visible (32 ∷ []) target last rest → StandsBefore is_visible (13 ∷ 10 ∷ []) line.version more last
version_stands line more bytes method rest target last b m t = record {
  each = version_visible line.version b.is.version;
  joined = (one_before is_visible 32 [] target line.target last _ rest refl t (target_stands line more bytes method rest b m)).1;
}

-- ---- where no request line is

pub empty_not : (test : ℕ → Bool) (text : List ℕ) → (nat_lt 0 (length text) && list_all test text) ≡ true → length text ≡ 0 → ⊥
empty_not test text is empty = omega (arith, ltb-true 0 (length text) (and_parts _ _ is).0, empty)

of_request : (bytes : List ℕ) → ((line : RequestLine) (more : List ℕ) → Begins line more bytes → ⊥) → BeginsWithNoRequest bytes
of_request bytes none line more is joined = none line more (record { is = is; joined = joined })

pub no_method : (bytes : List ℕ) → NoneStandsBefore is_tchar (32 ∷ []) bytes → BeginsWithNoRequest bytes
no_method bytes none = of_request bytes (λ line more b. none line.method _ (method_stands line more bytes b))

pub empty_method : (bytes method rest : List ℕ) → StandsBefore is_tchar (32 ∷ []) method rest bytes → length method ≡ 0 → BeginsWithNoRequest bytes
empty_method bytes method rest m empty = of_request bytes (λ line more b.
    let same = (one_before is_tchar 32 [] method line.method rest _ bytes refl m (method_stands line more bytes b)).0 in
    empty_not is_tchar line.method b.is.method (sym (ap (length {A = ℕ}) same) ∙ empty))

pub no_target : (bytes method rest : List ℕ) → StandsBefore is_tchar (32 ∷ []) method rest bytes → NoneStandsBefore is_visible (32 ∷ []) rest → BeginsWithNoRequest bytes
no_target bytes method rest m none = of_request bytes (λ line more b. none line.target _ (target_stands line more bytes method rest b m))

pub empty_target : (bytes method rest target last : List ℕ) → StandsBefore is_tchar (32 ∷ []) method rest bytes → StandsBefore is_visible (32 ∷ []) target last rest → length target ≡ 0 → BeginsWithNoRequest bytes
empty_target bytes method rest target last m t empty = of_request bytes (λ line more b.
    let same = (one_before is_visible 32 [] target line.target last _ rest refl t (target_stands line more bytes method rest b m)).0 in
    empty_not is_visible line.target b.is.target (sym (ap (length {A = ℕ}) same) ∙ empty))

pub no_version : (bytes method rest target last : List ℕ) → StandsBefore is_tchar (32 ∷ []) method rest bytes → StandsBefore is_visible (32 ∷ []) target last rest → NoneStandsBefore is_visible (13 ∷ 10 ∷ []) last → BeginsWithNoRequest bytes
no_version bytes method rest target last m t none = of_request bytes (λ line more b. none line.version more (version_stands line more bytes method rest target last b m t))

pub other_version : (bytes method rest target last version left : List ℕ) → StandsBefore is_tchar (32 ∷ []) method rest bytes → StandsBefore is_visible (32 ∷ []) target last rest → StandsBefore is_visible (13 ∷ 10 ∷ []) version left last → is_version version ≡ false → BeginsWithNoRequest bytes
other_version bytes method rest target last version left m t v other = of_request bytes (λ line more b.
    let same = (one_before is_visible 13 (10 ∷ []) version line.version left more last refl v (version_stands line more bytes method rest target last b m t)).0 in
    false≢true (sym other ∙ ap is_version same ∙ b.is.version))
