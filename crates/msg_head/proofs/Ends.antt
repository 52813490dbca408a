-- The end of a head or a trailer section: the first empty line.
use Rattle.std.proofs.Common.{◌≡◌, ◌≢◌, ◌⊎◌, ℕ, zero, suc, ◌+◌, ◌-◌, ◌<◌, ◌==◌, List, [], ◌∷◌, ◌++◌, length, take, drop, get_or, Some, None, sym, ap, inl, inr, ◌∙◌, arith, append_assoc, length-append, length-take, refl, subst, codes}
use Rattle.std.proofs.Math.ListN.{get_or-append}
use Rattle.std.proofs.Math.Seq.{take-add}
use Rattle.std.proofs.lemmas.Bool.{cases_lt, false≢true}
use Rattle.std.proofs.lemmas.List.{nil_from_length, append_cancel_left, get_or-append-add, get_or-drop, length-drop, take-append-drop}
use Rattle.memchr.specs.Find.{OccursAt, FindsNeedle}
use Rattle.memchr.proofs.lemmas.MatchLemmas.{OccursAt-split}
use Rattle.msg_head.specs.Cuts.{HasNoEnd, IsSection}
use Rattle.msg_head.specs.Trailers.{IsTrailerSection, after_chunks}
use Rattle.msg_head.specs.Laws.{TrailerSectionIs}
use Rattle.msg_head.specs.tools.Texts.{BeginsWithCrlf}

-- a needle by its offsets, and as a part
occurs_there : (before needle more bytes : List ℕ) → bytes ≡ before ++ (needle ++ more) → OccursAt bytes needle (length before)
occurs_there before needle more bytes e = record {
  fits = omega (arith, ap (length {A = ℕ}) e, length-append before (needle ++ more), length-append needle more);
  reads = λ j low. ap (λ (x : List ℕ). get_or x (length before + j) 0) e ∙ get_or-append-add before (needle ++ more) j 0 ∙ get_or-append needle more 0 j low;
}

-- where the search finds no empty line, there is none
pub no_end_there : (bytes : List ℕ) → FindsNeedle bytes (codes "\r\n\r\n") 0 None → HasNoEnd bytes
no_end_there bytes h before more e =
    h (length before) (omega arith) (omega (arith, ap (length {A = ℕ}) e, length-append before (codes "\r\n\r\n" ++ more))) (occurs_there before (codes "\r\n\r\n") more bytes e)

-- what follows the first byte of an empty line's two ends
inner : (bytes : List ℕ) (k : ℕ) → OccursAt bytes (codes "\r\n\r\n") k → OccursAt bytes (codes "\n\r\n") (k + 1)
inner bytes k e = record {
  fits = omega (arith, e.fits);
  reads = λ j low.
      let same : k + 1 + j ≡ k + suc j = omega arith in
      ap (λ (m : ℕ). get_or bytes m 0) same ∙ e.reads (suc j) (omega (arith, low));
}

-- the same from an offset on
inner_from : (bytes : List ℕ) (from k j : ℕ) → k + 1 ≡ from + j → OccursAt bytes (codes "\r\n\r\n") k → OccursAt (drop from bytes) (codes "\n\r\n") j
inner_from bytes from k j same e =
    let there = inner bytes k e in
    record {
      fits = omega (arith, same, there.fits, length-drop {A = ℕ} from bytes);
      reads = λ i low.
          let next : from + (j + i) ≡ k + 1 + i = omega (arith, same) in
          get_or-drop from bytes (j + i) 0 ∙ ap (λ (m : ℕ). get_or bytes m 0) next ∙ there.reads i low;
    }

-- no empty line begins before the byte that is before the offset
abbrev pub NoneBeginsBefore : List ℕ → ℕ → Type 0
NoneBeginsBefore bytes from = (k : ℕ) → k + 1 < from → ¬ OccursAt bytes (codes "\r\n\r\n") k

-- where none of these bytes is from the offset on, there is no empty line
pub none_from : (bytes : List ℕ) (from : ℕ) → NoneBeginsBefore bytes from → FindsNeedle (drop from bytes) (codes "\n\r\n") 0 None → HasNoEnd bytes
none_from bytes from before h = no_end_there bytes (λ k low high e. elim (cases_lt (k + 1) from) [
  | inl less ↦ before k less e
  | inr more ↦
      let same : k + 1 ≡ from + (k + 1 - from) = omega (arith, more) in
      let there = inner_from bytes from k (k + 1 - from) same e in
      h (k + 1 - from) (omega arith) (omega (arith, there.fits)) there
])

-- none begins up to where they are found
pub none_up_to : (bytes : List ℕ) (from n : ℕ) → NoneBeginsBefore bytes from → FindsNeedle (drop from bytes) (codes "\n\r\n") 0 (Some n) → NoneBeginsBefore bytes (from + n)
none_up_to bytes from n before h k low e = elim (cases_lt (k + 1) from) [
  | inl less ↦ before k less e
  | inr more ↦
      let same : k + 1 ≡ from + (k + 1 - from) = omega (arith, more) in
      h.0.before (k + 1 - from) (omega arith) (omega (arith, low, more)) (inner_from bytes from k (k + 1 - from) same e)
]

-- nor there, where CR isn't before them
pub none_past : (bytes : List ℕ) (at : ℕ) → NoneBeginsBefore bytes at → ((p : ℕ) → at ≡ p + 1 → get_or bytes p 0 ≢ 13) → NoneBeginsBefore bytes (at + 1)
none_past bytes at before no_cr k low e = elim (cases_lt (k + 1) at) [
  | inl less ↦ before k less e
  | inr more ↦
      let same : k + 0 ≡ k = omega arith in
      no_cr k (omega (arith, low, more)) (sym (ap (λ (m : ℕ). get_or bytes m 0) same) ∙ e.reads 0 (omega arith))
]

outer : (bytes : List ℕ) (from n p : ℕ) → from + n ≡ p + 1 → get_or bytes p 0 ≡ 13 → OccursAt (drop from bytes) (codes "\n\r\n") n → (j : ℕ) → j < 4 → get_or bytes (p + j) 0 ≡ get_or (codes "\r\n\r\n") j 0
outer bytes from n p same cr e zero low =
    let here : p + 0 ≡ p = omega arith in
    ap (λ (m : ℕ). get_or bytes m 0) here ∙ cr
outer bytes from n p same cr e (suc j) low =
    let next : p + suc j ≡ from + (n + j) = omega (arith, same) in
    ap (λ (m : ℕ). get_or bytes m 0) next ∙ sym (get_or-drop from bytes (n + j) 0) ∙ e.reads j (omega (arith, low))

-- and where CR is before them, the first empty line is there
whole_there : (bytes : List ℕ) (from n p : ℕ) → from + n ≡ p + 1 → get_or bytes p 0 ≡ 13 → NoneBeginsBefore bytes from → FindsNeedle (drop from bytes) (codes "\n\r\n") 0 (Some n) → FindsNeedle bytes (codes "\r\n\r\n") 0 (Some p)
whole_there bytes from n p same cr before h =
    let size = length-drop {A = ℕ} from bytes in (
      record {
        low = omega arith;
        high = omega (arith, same, size, h.1.fits);
        before = λ k low high e. none_up_to bytes from n before h k (omega (arith, same, high)) e;
      },
      record { fits = omega (arith, same, size, h.1.fits); reads = outer bytes from n p same cr h.1 },
    )

-- and where it finds one, the bytes up to it are the section
pub section_there : (bytes : List ℕ) (k : ℕ) → FindsNeedle bytes (codes "\r\n\r\n") 0 (Some k) → IsSection bytes (take (k + 4) bytes)
section_there bytes k h =
    let split : drop k bytes ≡ codes "\r\n\r\n" ++ drop (k + 4) bytes = OccursAt-split bytes (codes "\r\n\r\n") k h.1 in
    let is : take (k + 4) bytes ≡ take k bytes ++ codes "\r\n\r\n" =
    take-add k 4 bytes ∙ ap (λ (x : List ℕ). take k bytes ++ take 4 x) split in
    record {
      more = drop (k + 4) bytes;
      joined = sym (take-append-drop (k + 4) bytes);
      before = take k bytes;
      ends = is;
      first = λ one other e.
          let whole : bytes ≡ one ++ (codes "\r\n\r\n" ++ (other ++ drop (k + 4) bytes)) =
          sym (take-append-drop (k + 4) bytes) ∙ ap (λ (x : List ℕ). x ++ drop (k + 4) bytes) e ∙ append_assoc one (codes "\r\n\r\n" ++ other) (drop (k + 4) bytes) in
          let there = occurs_there one (codes "\r\n\r\n") (other ++ drop (k + 4) bytes) bytes whole in
          elim (cases_lt (length one) k) [
            | inl low ↦ absurd (h.0.before (length one) (omega arith) low there)
            | inr high ↦ nil_from_length other (omega (arith, high, ap (length {A = ℕ}) e, length-append one (codes "\r\n\r\n" ++ other), length-take {A = ℕ} (k + 4) bytes))
          ];
    }

pub section_around : (bytes : List ℕ) (from n p : ℕ) → from + n ≡ p + 1 → get_or bytes p 0 ≡ 13 → NoneBeginsBefore bytes from → FindsNeedle (drop from bytes) (codes "\n\r\n") 0 (Some n) → IsSection bytes (take (from + n + 3) bytes)
section_around bytes from n p same cr before h =
    let size : p + 4 ≡ from + n + 3 = omega (arith, same) in
    subst (λ (m : ℕ). IsSection bytes (take m bytes)) size (section_there bytes p (whole_there bytes from n p same cr before h))

-- ---- after the last chunk's line

-- a CRLF that the bytes begin with is a trailer section
pub empty_section : (bytes : List ℕ) → BeginsWithCrlf bytes → IsTrailerSection bytes (take 2 bytes)
empty_section bytes b = subst (λ (x : List ℕ). IsTrailerSection x (take 2 x)) (sym b.1) (record {
  more = b.0;
  joined = refl;
  before = [];
  ends = refl;
  first = λ one other e. nil_from_length other (omega (arith, ap (length {A = ℕ}) e, length-append one (codes "\r\n\r\n" ++ other)));
})

-- where bytes don't begin with CRLF, each CRLF CRLF after the line's end is in them
end_after : (bytes one other : List ℕ) → ((rest : List ℕ) → bytes ≢ 13 ∷ 10 ∷ rest) → 13 ∷ 10 ∷ bytes ≡ one ++ (codes "\r\n\r\n" ++ other) → (less : List ℕ) × (bytes ≡ less ++ (codes "\r\n\r\n" ++ other))
end_after bytes [] other none e = absurd (none other (ap (drop {A = ℕ} 2) e))
end_after bytes (c ∷ []) other none e = absurd (false≢true (ap (λ (s : List ℕ). get_or s 1 0 == 13) e))
end_after bytes (c ∷ d ∷ one) other none e = (one, ap (drop {A = ℕ} 2) e)

pub no_end_after : (bytes : List ℕ) → ¬ BeginsWithCrlf bytes → HasNoEnd bytes → HasNoEnd (after_chunks bytes)
no_end_after bytes plain none before after e =
    let there = end_after bytes before after (λ rest is. plain (rest, is)) e in none there.0 after there.1

pub section_after : (bytes section : List ℕ) → ¬ BeginsWithCrlf bytes → IsSection bytes section → IsTrailerSection bytes section
section_after bytes section plain s = record {
  more = s.more;
  joined = ap (λ (x : List ℕ). 13 ∷ 10 ∷ x) s.joined;
  before = 13 ∷ 10 ∷ s.before;
  ends = ap (λ (x : List ℕ). 13 ∷ 10 ∷ x) s.ends;
  first = λ one other e.
      let there = end_after section one other (λ rest is. plain (rest ++ s.more, s.joined ∙ ap (λ (x : List ℕ). x ++ s.more) is)) e in s.first there.0 other there.1;
}

-- a section that has more than its end doesn't begin with CRLF
longer : (bytes section rest before : List ℕ) → IsTrailerSection bytes section → section ≡ before ++ codes "\r\n\r\n" → (more : List ℕ) → section ++ more ≡ 13 ∷ 10 ∷ rest → ⊥
longer bytes [] rest before s ends more e = omega (arith, ap (length {A = ℕ}) ends, length-append before (codes "\r\n\r\n"))
longer bytes (x ∷ []) rest before s ends more e = omega (arith, ap (length {A = ℕ}) ends, length-append before (codes "\r\n\r\n"))
longer bytes (x ∷ y ∷ text) rest before s ends more e =
    let one : x ≡ 13 = ap (λ (s : List ℕ). get_or s 0 0) e in
    let two : y ≡ 10 = ap (λ (s : List ℕ). get_or s 1 0) e in
    let alone : text ≡ [] = s.first [] text (λ i. 13 ∷ 10 ∷ one i ∷ two i ∷ text) in
    omega (arith, ap (length {A = ℕ}) alone, ap (length {A = ℕ}) ends, length-append before (codes "\r\n\r\n"))

-- the section, by what is before its last end
section_by : (bytes section : List ℕ) (s : IsTrailerSection bytes section) (before : List ℕ) → 13 ∷ 10 ∷ section ≡ before ++ codes "\r\n\r\n" → ((rest : List ℕ) × (bytes ≡ 13 ∷ 10 ∷ rest) × (section ≡ codes "\r\n")) ⊎ (((rest : List ℕ) → bytes ≢ 13 ∷ 10 ∷ rest) × IsSection bytes section)
section_by bytes section s [] e =
    let first = append_cancel_left (13 ∷ 10 ∷ []) bytes (section ++ s.more) s.joined in
    let alone : section ≡ codes "\r\n" = append_cancel_left (13 ∷ 10 ∷ []) section (13 ∷ 10 ∷ []) e in
    inl (s.more, first ∙ ap (λ (x : List ℕ). x ++ s.more) alone, alone)
section_by bytes section s (c ∷ []) e = absurd (false≢true (ap (λ (s : List ℕ). get_or s 1 0 == 13) e))
section_by bytes section s (c ∷ d ∷ before) e =
    let first = append_cancel_left (13 ∷ 10 ∷ []) bytes (section ++ s.more) s.joined in
    let ends : section ≡ before ++ codes "\r\n\r\n" = ap (drop {A = ℕ} 2) e in
    inr (
      (λ rest is. longer bytes section rest before s ends s.more (sym first ∙ is)),
      record { more = s.more; joined = first; before = before; ends = ends; first = λ one other there. s.first (13 ∷ 10 ∷ one) other (ap (λ (x : List ℕ). 13 ∷ 10 ∷ x) there) },
    )

pub trailer_section_law : TrailerSectionIs
trailer_section_law bytes section = (
  λ s. section_by bytes section s s.before s.ends,
  λ where_it_ends. elim where_it_ends [
    | inl alone ↦ subst (λ (x : List ℕ). IsTrailerSection bytes x) (ap (λ (x : List ℕ). take 2 x) alone.1 ∙ sym alone.2) (empty_section bytes (alone.0, alone.1))
    | inr plain ↦ section_after bytes section (λ b. plain.0 b.0 b.1) plain.1
  ],
)
