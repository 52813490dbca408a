-- The reader of words meets them.
use Rattle.std.proofs.Common.{◌≡◌, ℕ, ◌≤◌, List, [], ◌∷◌, ◌++◌, length, Option, Some, None, Result, Ok, Err, refl, sym, ap, subst, ◌∙◌, arith, inl, inr, codes}
use Rattle.byte_grammar.specs.Language.{Begins}
use Rattle.byte_grammar.specs.Walk.{◌>>=◌}
use Rattle.byte_grammar.specs.tools.Walks.{left, Next}
use Rattle.byte_grammar.proofs.Laws.{Meets, the_ok, not_err, ok_is, bind_ok, bind_err, left_less, as_prefix}
use Rattle.recording.specs.declared.item.Role.{Role}
use Rattle.recording.specs.declared.item.Role.TheVariants.{Request, Response, Related}
use Rattle.recording.specs.declared.word.Word.{Word}
use Rattle.recording.specs.declared.word.Word.TheVariants as word
use Rattle.recording.specs.Items.{message, kind_word}
use Rattle.byte_grammar.specs.tools.CountedWalk.{literal_read}
use Rattle.recording.specs.tools.RecordingWalk.{word_text, role_at, word_at, word_in, word_read}
use Rattle.byte_grammar.specs.tools.CountedTexts.{Anything}
use Rattle.recording.specs.tools.RecordingTexts.{IsWordText}
use Rattle.byte_grammar.proofs.LiteralLaws.{meets_literal}

-- ---- the words by their first bytes

-- the third byte, and those after it
third_byte : Role → ℕ
third_byte Request = 113
third_byte Response = 115
third_byte Related = 108

role_end : Role → List ℕ
role_end Request = codes "uest "
role_end Response = codes "ponse "
role_end Related = codes "ated "

role_word : (role : Role) → kind_word (message role) ≡ 114 ∷ 101 ∷ third_byte role ∷ role_end role
unfolding third_byte role_end
role_word Request = refl
role_word Response = refl
role_word Related = refl

role_is : (role : Role) (b : ℕ) (rest : List ℕ) → role_at (b ∷ third_byte role ∷ rest) ≡ role
unfolding third_byte role_at
role_is Request b rest = refl
role_is Response b rest = refl
role_is Related b rest = refl

word_is : (w : Word) (r : List ℕ) → word_at (word_text w ++ r) ≡ Some w
unfolding word_at role_at
word_is word.At r = refl
word_is (word.Message Request) r = refl
word_is (word.Message Response) r = refl
word_is (word.Message Related) r = refl
word_is word.Script r = refl
word_is word.End r = refl

-- ---- the reader

in_less : (o : Option Word) (bytes : List ℕ) → left (word_in o bytes) ≤ length bytes
in_less None bytes = omega arith
in_less (Some w) bytes = omega (arith, as_prefix (λ (_ : List ℕ). w) (literal_read (word_text w) bytes), left_less (meets_literal (word_text w)) bytes)

-- what begins the text of the word isn't left
in_far : (w : Word) (x more r : List ℕ) → x ++ more ≡ word_text w → left (word_in (Some w) (x ++ r)) ≤ length r
in_far w x more r h =
    omega (arith, as_prefix (λ (_ : List ℕ). w) (literal_read (word_text w) (x ++ r)), (meets_literal (word_text w)).far x more r (word_text w) (h, refl))

picked : (w : Word) (x more r : List ℕ) → word_at (x ++ r) ≡ Some w → x ++ more ≡ word_text w → left (word_read (x ++ r)) ≤ length r
unfolding word_read
picked w x more r is h = subst (λ (o : Option Word). left (word_in o (x ++ r)) ≤ length r) (sym is) (in_far w x more r h)

nothing_read : (r : List ℕ) → left (word_read r) ≤ length r
unfolding word_read
nothing_read r = in_less (word_at r) r

role_far : (role : Role) (x more r : List ℕ) → x ++ more ≡ kind_word (message role) → left (word_read (x ++ r)) ≤ length r
unfolding word_at
role_far role [] more r h = nothing_read r
role_far role (a ∷ []) more r h =
    let first : a ≡ 114 = cc (h, role_word role) in
    let any = role_at r in
    picked (word.Message any) (a ∷ []) (101 ∷ third_byte any ∷ role_end any) r (rw first refl) (rw first (sym (role_word any)))
role_far role (a ∷ b ∷ []) more r h =
    let first : a ≡ 114 = cc (h, role_word role) in
    let second : b ≡ 101 = cc (h, role_word role) in
    let any = role_at (b ∷ r) in
    picked (word.Message any) (a ∷ b ∷ []) (third_byte any ∷ role_end any) r (rw first refl) (cc (first, second, role_word any))
role_far role (a ∷ b ∷ c ∷ x) more r h =
    let first : a ≡ 114 = cc (h, role_word role) in
    let third : c ≡ third_byte role = cc (h, role_word role) in
    picked (word.Message role) (a ∷ b ∷ c ∷ x) more r (rw (first, third) (ap (λ (role : Role). Some (word.Message role)) (role_is role b (x ++ r)))) h

first_far : (w : Word) (c : ℕ) (others : List ℕ) → word_text w ≡ c ∷ others → ((rest : List ℕ) → word_at (c ∷ rest) ≡ Some w) → (x more r : List ℕ) → x ++ more ≡ word_text w → left (word_read (x ++ r)) ≤ length r
first_far w c others text is [] more r h = nothing_read r
first_far w c others text is (a ∷ x) more r h =
    let first : a ≡ c = cc (h, text) in
    picked w (a ∷ x) more r (ap (λ (d : ℕ). word_at (d ∷ x ++ r)) first ∙ is (x ++ r)) h

word_far : (w : Word) (x more r : List ℕ) → x ++ more ≡ word_text w → left (word_read (x ++ r)) ≤ length r
unfolding word_at
word_far word.At = first_far word.At 97 (codes "t ") refl (λ rest. refl)
word_far (word.Message role) = role_far role
word_far word.Script = first_far word.Script 115 (codes "cript ") refl (λ rest. refl)
word_far word.End = first_far word.End 101 (codes "nd\n") refl (λ rest. refl)

pub meets_word : Meets IsWordText Anything word_read
unfolding word_read
meets_word = record {
  ok = λ bytes w rest e. ok (word_at bytes) bytes w rest e;
  err = λ bytes n e. err (word_at bytes) bytes n e;
  only = only;
  far = λ x more r w h. word_far w x more r h;
}
  where
    ok : (o : Option Word) (bytes : List ℕ) (w : Word) (rest : List ℕ) → word_in o bytes ≡ Ok (w, rest) → (x : List ℕ) × (bytes ≡ x ++ rest) × IsWordText x w
    ok None bytes w rest e = absurd cc
    ok (Some u) bytes w rest e =
        let b = bind_ok (literal_read (word_text u) bytes) (λ t. Ok (u, t.1)) (w, rest) e in
        let s = (meets_literal (word_text u)).ok bytes b.0.0 b.0.1 b.1 in
        let pair : (u, b.0.1) ≡ (w, rest) = ok_is _ _ b.2 in
        (s.0, s.1 ∙ ap (λ (a : Word × List ℕ). s.0 ++ a.1) pair, s.2.0 ∙ ap (λ (a : Word × List ℕ). word_text a.0) pair)

    err : (o : Option Word) (bytes : List ℕ) (n : ℕ) → word_in o bytes ≡ Err n → (x rest : List ℕ) × (bytes ≡ x ++ rest) × (length rest ≡ n) × Begins IsWordText x
    err None bytes n e = ([], bytes, refl, cc, (codes "at ", word.At, refl))
    err (Some u) bytes n e = elim (bind_err (literal_read (word_text u) bytes) (λ t. Ok (u, t.1)) n e) [
      | inl w ↦ let s = (meets_literal (word_text u)).err bytes n w in (s.0, s.1, s.2, s.3, (s.4.0, u, s.4.2.0))
      | inr b ↦ absurd (not_err _ _ b.2)
    ]

    only : (x r : List ℕ) (w : Word) → IsWordText x w → Next (Anything w) r → word_read (x ++ r) ≡ Ok (w, r)
    only x r w h after =
        ap (λ (y : List ℕ). word_read (y ++ r)) h
        ∙ ap (λ (o : Option Word). word_in o (word_text w ++ r)) (word_is w r)
        ∙ ap (λ (a : Result (List ℕ × List ℕ) ℕ). a >>= λ t. the_ok {A = Word × List ℕ} (w, t.1)) ((meets_literal (word_text w)).only (word_text w) r (word_text w) (refl, refl) after)
