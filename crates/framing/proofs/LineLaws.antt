-- The readers of a chunk line and of data meet their texts.
use Rattle.std.proofs.Common.{cond, not, ◌==◌, ◌≡◌, ◌⊎◌, inl, inr, ℕ, ◌-◌, ◌≤◌, Bool, true, false, List, [], ◌∷◌, ◌++◌, length, Ok, Err, refl, sym, ap, subst, ◌∙◌, append_assoc, arith, codes}
use Rattle.std.proofs.lemmas.List.{nil_from_length}
use Rattle.std.proofs.lemmas.Bool.{eqb-true, le-ltb}
use Rattle.std.specs.Char.{is_ascii_hexdigit}
use Rattle.std.specs.Str.{byte}
use Rattle.std.specs.Str.Parse.{digits_value}
use Rattle.byte_grammar.specs.Classes.{is_line_byte}
use Rattle.byte_grammar.specs.Language.{Begins, IsRun, starts_in}
use Rattle.byte_grammar.specs.tools.CountedTexts.{Anything, IsBytes}
use Rattle.byte_grammar.specs.tools.Languages.{Then, Mapped, IsByte}
use Rattle.byte_grammar.specs.Walk.{cut_at, run_length, run_read}
use Rattle.byte_grammar.specs.tools.Walks.{left, Next}
use Rattle.byte_grammar.proofs.Laws.{Meets, meets_then, meets_map, meets_same, any_next, next_more, not_err, left_less}
use Rattle.byte_grammar.proofs.LeafLaws.{meets_byte, meets_run}
use Rattle.byte_grammar.proofs.ChoiceLaws.{of_each}
use Rattle.byte_grammar.proofs.CountedLaws.{meets_bytes}
use Rattle.framing.specs.declared.chunk_limits.TheConstants.{MAX_SIZE_DIGITS, MAX_EXTENSION_BYTES}
use Rattle.framing.specs.Chunks.{IsChunkLine, IsExtension, begins_extension}
use Rattle.framing.specs.tools.ChunkWalk.{crlf_read, extension_read, line_read, data_read}
use Rattle.framing.specs.tools.Turns.{IsCrlf, IsExtensionText, IsLineText, IsDataText}

-- ---- CRLF

is_cr : ℕ → Bool
is_cr c = c == byte "\r"

is_lf : ℕ → Bool
is_lf c = c == byte "\n"

pub meets_crlf : Meets IsCrlf Anything crlf_read
unfolding crlf_read is_cr is_lf
meets_crlf =
    meets_same
    (meets_then (meets_byte (λ c. c == byte "\r") (byte "\r") refl (λ _ _. true))
    (λ _. meets_map {G = Anything} (meets_byte (λ c. c == byte "\n") (byte "\n") refl (λ _ _. true)) (λ (_ : ℕ). codes "\r\n") (λ v c h. refl))
    (λ x u h. (codes "\n", codes "\r\n", (byte "\n", record { same = refl; passes = refl }, refl)))
    (λ u y v r h after. any_next (y ++ r)))
    to from (λ v c h. refl)
  where
    to : (x v : List ℕ) → Then (IsByte (λ c. c == byte "\r")) (λ _. Mapped (λ (_ : ℕ). codes "\r\n") (IsByte (λ c. c == byte "\n"))) x v → IsCrlf x v
    to x v t =
        let cr : t.value ≡ byte "\r" = eqb-true _ _ t.spells.passes in
        let lf : t.more.0 ≡ byte "\n" = eqb-true _ _ t.more.1.passes in
        (cc (t.joined, t.spells.same, t.more.1.same, cr, lf), t.more.2)

    from : (x v : List ℕ) → IsCrlf x v → Then (IsByte (λ c. c == byte "\r")) (λ _. Mapped (λ (_ : ℕ). codes "\r\n") (IsByte (λ c. c == byte "\n"))) x v
    from x v h = record { first = codes "\r"; second = codes "\n"; value = byte "\r"; joined = h.0; spells = record { same = refl; passes = refl }; more = (byte "\n", record { same = refl; passes = refl }, h.1) }

-- ---- an extension

run_ok : (class : ℕ → Bool) (most : ℕ) (bytes : List ℕ) → run_read class 0 most bytes ≡ cut_at (run_length class most bytes) bytes
unfolding run_read
run_ok class most bytes = ap (λ (b : Bool). cond b (Err (length bytes - run_length class most bytes)) (cut_at (run_length class most bytes) bytes)) (le-ltb (run_length class most bytes) 0 (omega arith))

run_of : (b : Bool) → Meets (IsRun is_line_byte 0 (cond b MAX_EXTENSION_BYTES 0)) (λ _ c. not (is_line_byte c)) (run_read is_line_byte 0 (cond b MAX_EXTENSION_BYTES 0))
run_of b = meets_run is_line_byte 0 (cond b MAX_EXTENSION_BYTES 0) (byte "a") (omega arith) refl

extension_ok : (b : Bool) (bytes x v rest : List ℕ) → starts_in begins_extension bytes ≡ b → bytes ≡ x ++ rest → IsRun is_line_byte 0 (cond b MAX_EXTENSION_BYTES 0) x v → IsExtension v
extension_ok true bytes [] v rest is e run = record { begins = inl (sym run.same); clean = run.passes; short = run.most }
extension_ok true bytes (c ∷ x) v rest is e run =
    let first : starts_in begins_extension (c ∷ x) ≡ true = ap (starts_in begins_extension) (sym e) ∙ is in
    record { begins = inr (subst (λ (y : List ℕ). starts_in begins_extension y ≡ true) run.same first); clean = run.passes; short = run.most }
extension_ok false bytes x v rest is e run = record { begins = inl (nil_from_length v (omega (arith, run.most))); clean = run.passes; short = omega (arith, run.most) }

-- an extension that isn't empty begins in this way
first_begins : (c : ℕ) (v : List ℕ) → ((c ∷ v) ≡ []) ⊎ (starts_in begins_extension (c ∷ v) ≡ true) → begins_extension c ≡ true
first_begins c v (inl e) = absurd cc
first_begins c v (inr e) = e

pub no_extension : IsExtension []
no_extension = record { begins = inl refl; clean = refl; short = omega arith }

at_cr : (P : ℕ → Bool) (b : Bool) → P (byte "\r") ≡ b → (c : ℕ) → (c == byte "\r") ≡ true → P c ≡ b
at_cr P b is c e = ap P (eqb-true c (byte "\r") e) ∙ is

no_start : (r : List ℕ) → Next (λ c. c == byte "\r") r → starts_in begins_extension r ≡ false
no_start [] after = refl
no_start (c ∷ r) after = at_cr begins_extension false refl c after

ends_run : (r : List ℕ) → Next (λ c. c == byte "\r") r → Next (λ c. not (is_line_byte c)) r
ends_run r after = next_more (λ c. c == byte "\r") (λ c. not (is_line_byte c)) (at_cr (λ c. not (is_line_byte c)) true refl) r after

pub meets_extension : Meets IsExtensionText (λ _ c. c == byte "\r") extension_read
unfolding extension_read
meets_extension = record { ok = ok; err = err; only = only; far = far }
  where
    ok : (bytes v rest : List ℕ) → extension_read bytes ≡ Ok (v, rest) → (x : List ℕ) × (bytes ≡ x ++ rest) × IsExtensionText x v
    ok bytes v rest e =
        let s = (run_of (starts_in begins_extension bytes)).ok bytes v rest e in
        (s.0, s.1, (s.2.same, extension_ok (starts_in begins_extension bytes) bytes s.0 v rest refl s.1 s.2))

    err : (bytes : List ℕ) (n : ℕ) → extension_read bytes ≡ Err n → (x rest : List ℕ) × (bytes ≡ x ++ rest) × (length rest ≡ n) × Begins IsExtensionText x
    err bytes n e = absurd (not_err _ _ (sym (run_ok is_line_byte (cond (starts_in begins_extension bytes) MAX_EXTENSION_BYTES 0) bytes) ∙ e))

    read_only : (v r : List ℕ) → IsExtension v → Next (λ c. c == byte "\r") r → extension_read (v ++ r) ≡ Ok (v, r)
    read_only [] r h after =
        ap (λ (b : Bool). run_read is_line_byte 0 (cond b MAX_EXTENSION_BYTES 0) r) (no_start r after)
        ∙ (run_of false).only [] r [] (record { same = refl; passes = refl; least = omega arith; most = omega arith }) (ends_run r after)
    read_only (c ∷ v) r h after =
        ap (λ (b : Bool). run_read is_line_byte 0 (cond b MAX_EXTENSION_BYTES 0) (c ∷ v ++ r)) (first_begins c v h.begins)
        ∙ (run_of true).only (c ∷ v) r (c ∷ v) (record { same = refl; passes = h.clean; least = omega arith; most = h.short }) (ends_run r after)

    only : (x r v : List ℕ) → IsExtensionText x v → Next (λ c. c == byte "\r") r → extension_read (x ++ r) ≡ Ok (v, r)
    only x r v h after = ap (λ (y : List ℕ). extension_read (y ++ r)) h.0 ∙ read_only v r h.1 after

    read_far : (x more r : List ℕ) → IsExtension (x ++ more) → left (extension_read (x ++ r)) ≤ length r
    read_far [] more r h = left_less (run_of (starts_in begins_extension r)) r
    read_far (c ∷ x) more r h =
        subst (λ (b : Bool). left (run_read is_line_byte 0 (cond b MAX_EXTENSION_BYTES 0) (c ∷ x ++ r)) ≤ length r)
        (sym (first_begins c (x ++ more) h.begins))
        ((run_of true).far (c ∷ x) more r (c ∷ x ++ more) (record { same = refl; passes = h.clean; least = omega arith; most = h.short }))

    far : (x more r v : List ℕ) → IsExtensionText (x ++ more) v → left (extension_read (x ++ r)) ≤ length r
    far x more r v h = read_far x more r (subst IsExtension (sym h.0) h.1)

-- ---- a chunk line

-- what comes after the digits of a size is none
after_digits : (e r : List ℕ) → IsExtension e → Next (λ c. not (is_ascii_hexdigit c)) (e ++ (codes "\r\n" ++ r))
after_digits [] r h = refl
after_digits (c ∷ e) r h = of_each (λ c. not (is_ascii_hexdigit c)) (codes "; \t") refl c (first_begins c e h.begins)

line_of : (d e : List ℕ) → IsRun is_ascii_hexdigit 1 MAX_SIZE_DIGITS d d → IsExtension e → IsChunkLine (d ++ e) (digits_value 16 d)
line_of d e is h = record { digits = d; extension = e; joined = refl; are_digits = is; value = refl; is_extension = h }

abbrev AfterDigits : List ℕ → List ℕ → List ℕ × ℕ → Type 0
AfterDigits d = Then IsExtensionText (λ e. Mapped (λ (_ : List ℕ). (d ++ e, digits_value 16 d)) IsCrlf)

pub meets_line : Meets IsLineText Anything line_read
unfolding line_read
meets_line =
    meets_same
    (meets_then (meets_run is_ascii_hexdigit 1 MAX_SIZE_DIGITS (byte "0") (omega arith) refl)
    (λ d. meets_then meets_extension
    (λ e. meets_map {G = Anything} meets_crlf (λ (_ : List ℕ). (d ++ e, digits_value 16 d)) (λ v c h. refl))
    (λ x u h. (codes "\r\n", (d ++ u, digits_value 16 d), (codes "\r\n", (refl, refl), refl)))
    (λ u y v r h after. subst (λ (z : List ℕ). Next (λ c. c == byte "\r") (z ++ r)) (sym h.1.0) refl))
    (λ x d h. (codes "\r\n", (d ++ [], digits_value 16 d), record { first = []; second = codes "\r\n"; value = []; joined = refl; spells = (refl, no_extension); more = (codes "\r\n", (refl, refl), refl) }))
    next)
    to from (λ v c h. refl)
  where
    next : (d y : List ℕ) (v : List ℕ × ℕ) (r : List ℕ) → AfterDigits d y v → Next (Anything v) r → Next (λ c. not (is_ascii_hexdigit c)) (y ++ r)
    next d y v r t after =
        let text : y ++ r ≡ t.value ++ (codes "\r\n" ++ r) = ap (λ (z : List ℕ). z ++ r) (cc (t.joined, t.spells.0, t.more.1.0)) ∙ append_assoc t.value (codes "\r\n") r in
        subst (λ (z : List ℕ). Next (λ c. not (is_ascii_hexdigit c)) z) (sym text) (after_digits t.value r t.spells.1)

    to : (x : List ℕ) (l : List ℕ × ℕ) → Then (IsRun is_ascii_hexdigit 1 MAX_SIZE_DIGITS) AfterDigits x l → IsLineText x l
    to x l t =
        let d = t.value in
        let e = t.more.value in
        let run : IsRun is_ascii_hexdigit 1 MAX_SIZE_DIGITS d d = record { same = refl; passes = t.spells.passes; least = t.spells.least; most = t.spells.most } in
        subst (λ (l : List ℕ × ℕ). IsLineText x l) t.more.more.2
        (cc (t.joined, t.spells.same, t.more.joined, t.more.spells.0, t.more.more.1.0, append_assoc d e (codes "\r\n")), line_of d e run t.more.spells.1)

    from : (x : List ℕ) (l : List ℕ × ℕ) → IsLineText x l → Then (IsRun is_ascii_hexdigit 1 MAX_SIZE_DIGITS) AfterDigits x l
    from x l h = record {
      first = h.1.digits;
      second = h.1.extension ++ codes "\r\n";
      value = h.1.digits;
      joined = h.0 ∙ ap (λ (y : List ℕ). y ++ codes "\r\n") h.1.joined ∙ append_assoc h.1.digits h.1.extension (codes "\r\n");
      spells = h.1.are_digits;
      more = record {
        first = h.1.extension;
        second = codes "\r\n";
        value = h.1.extension;
        joined = refl;
        spells = (refl, h.1.is_extension);
        more = (codes "\r\n", (refl, refl), λ i. (sym h.1.joined i, sym h.1.value i));
      };
    }

-- ---- data

pub meets_data : (size : ℕ) → Meets (IsDataText size) Anything (data_read size)
unfolding data_read
meets_data size =
    meets_same
    (meets_then (meets_bytes size) (λ d. meets_map {G = Anything} meets_crlf (λ (_ : List ℕ). d) (λ v c h. refl))
    (λ x d h. (codes "\r\n", d, (codes "\r\n", (refl, refl), refl)))
    (λ u y v r h after. any_next (y ++ r)))
    to from (λ v c h. refl)
  where
    to : (x v : List ℕ) → Then (IsBytes size) (λ d. Mapped (λ (_ : List ℕ). d) IsCrlf) x v → IsDataText size x v
    to x v t = (cc (t.joined, t.spells.0, t.more.1.0, t.more.2), ap (λ (y : List ℕ). length y) (sym t.more.2) ∙ t.spells.1)

    from : (x v : List ℕ) → IsDataText size x v → Then (IsBytes size) (λ d. Mapped (λ (_ : List ℕ). d) IsCrlf) x v
    from x v h = record { first = v; second = codes "\r\n"; value = v; joined = h.0; spells = (refl, h.1); more = (codes "\r\n", (refl, refl), refl) }
