-- Texts without naked ends.
use Rattle.std.proofs.Common.{◌≡◌, ◌≢◌, ℕ, zero, suc, ◌+◌, ◌-◌, ◌<◌, Bool, true, false, ◌&&◌, ◌||◌, ◌==◌, not, ◌⊎◌, inl, inr, Some, List, [], ◌∷◌, ◌++◌, length, drop, get_or, refl, sym, ap, ◌∙◌, arith, append_assoc, length-append, if◌then◌else◌}
use Rattle.std.specs.List.{list_all, flat_map}
use Rattle.std.proofs.Math.Seq.{drop-append_seam}
use Rattle.std.proofs.lemmas.Bool.{and_parts, and_from, cases_Bool, or_cases, eqb-true, false≢true}
use Rattle.std.proofs.lemmas.List.{append-nil}
use Rattle.std.proofs.lemmas.List.Folds.{list_all-append}
use Rattle.std.proofs.lemmas.Grind.{flat_map-append}
use Rattle.byte_grammar.specs.Classes.{is_line_byte}
use Rattle.memchr.specs.Find.{IsFirstByte, is_byte3}
use Rattle.msg_head.specs.Cuts.{IsNaked, IsNakedEnd, IsFirstNakedEnd}
use Rattle.msg_head.specs.tools.Texts.{EndsWithLf, IsClean, IsCleanUpTo, ended}
use Rattle.msg_head.proofs.Prefixes.{outside}
use Rattle.msg_head.proofs.LineBytes.{line_byte_of}

-- whether each CR and LF of the text is half of a CRLF, and no byte is NUL; the flag says that a CR
-- is right before the text
abbrev pub is_paired : Bool → List ℕ → Bool
is_paired false [] = true
is_paired true [] = false
is_paired false (c ∷ cs) = if c == 13 then is_paired true cs else (is_line_byte c && is_paired false cs)
is_paired true (c ∷ cs) = (c == 10) && is_paired false cs

no_cr : (c : ℕ) → is_line_byte c ≡ true → (c == 13) ≡ false
no_cr c is = elim (cases_Bool (c == 13)) [
  | inl e ↦ absurd (outside is_line_byte c 13 is refl (eqb-true c 13 e))
  | inr e ↦ e
]

paired_clean : (p rest : List ℕ) → list_all is_line_byte p ≡ true → is_paired false (p ++ rest) ≡ is_paired false rest
paired_clean [] rest each = refl
paired_clean (c ∷ cs) rest each =
    let both = and_parts (is_line_byte c) (list_all is_line_byte cs) each in
    rw (no_cr c both.0) (rw both.0 (paired_clean cs rest both.1))

-- the pieces, each ended, and more
pub opened_pieces_of : (p : List ℕ) (ps : List (List ℕ)) (rest : List ℕ) → flat_map ended (p ∷ ps) ++ rest ≡ p ++ 13 ∷ 10 ∷ (flat_map ended ps ++ rest)
opened_pieces_of p ps rest =
    append_assoc (ended p) (flat_map ended ps) rest ∙ append_assoc p (13 ∷ 10 ∷ []) (flat_map ended ps ++ rest)

pub paired_pieces : (ps : List (List ℕ)) (rest : List ℕ) → list_all (list_all is_line_byte) ps ≡ true → is_paired false (flat_map ended ps ++ rest) ≡ is_paired false rest
paired_pieces [] rest each = refl
paired_pieces (p ∷ ps) rest each =
    let both = and_parts (list_all is_line_byte p) (list_all (list_all is_line_byte) ps) each in
    ap (is_paired false) (opened_pieces_of p ps rest) ∙ paired_clean p (13 ∷ 10 ∷ (flat_map ended ps ++ rest)) both.0 ∙ paired_pieces ps rest both.1

-- such a text doesn't end with CR
ends_cr : (s : Bool) (less : List ℕ) → is_paired s (less ++ 13 ∷ []) ≡ true → ⊥
ends_cr false [] h = false≢true h
ends_cr true [] h = false≢true h
ends_cr false (c ∷ cs) h = elim (cases_Bool (c == 13)) [
  | inl e ↦ ends_cr true cs (rw e at h)
  | inr e ↦ ends_cr false cs (and_parts (is_line_byte c) (is_paired false (cs ++ 13 ∷ [])) (rw e at h)).1
]
ends_cr true (c ∷ cs) h = ends_cr false cs (and_parts (c == 10) (is_paired false (cs ++ 13 ∷ [])) h).1

-- a byte is naked after a text before which CR is, where the flag says so
abbrev NakedAfter : Bool → List ℕ → ℕ → List ℕ → Type 0
NakedAfter s before c after =
    (c ≡ 0)
    ⊎ ((c ≡ 13) × ((more : List ℕ) → after ≢ 10 ∷ more))
    ⊎ ((c ≡ 10) × ((less : List ℕ) → before ≢ less ++ 13 ∷ []) × (s ≡ true → before ≢ []))

naked_after : (s s' : Bool) (b : ℕ) (bs : List ℕ) (c : ℕ) (after : List ℕ) → (s' ≡ true → b ≡ 13) → NakedAfter s (b ∷ bs) c after → NakedAfter s' bs c after
naked_after s s' b bs c after cr (inl nul) = inl nul
naked_after s s' b bs c after cr (inr (inl half)) = inr (inl half)
naked_after s s' b bs c after cr (inr (inr lf)) =
    inr (inr (lf.0, λ less e. lf.1 (b ∷ less) (ap (λ (x : List ℕ). b ∷ x) e), λ on e. lf.1 [] (λ i. cr on i ∷ e i)))

first_naked : (s : Bool) (d : ℕ) (ds more : List ℕ) (c : ℕ) (after : List ℕ) → is_paired s (d ∷ ds) ≡ true → d ≡ c → ds ++ more ≡ after → NakedAfter s [] c after → ⊥
first_naked false d ds more c after h same rest (inl nul) =
    false≢true (sym (ap (λ (x : ℕ). is_paired false (x ∷ ds)) (same ∙ nul)) ∙ h)
first_naked true d ds more c after h same rest (inl nul) =
    false≢true (sym (ap (λ (x : ℕ). is_paired true (x ∷ ds)) (same ∙ nul)) ∙ h)
first_naked false d [] more c after h same rest (inr (inl half)) =
    false≢true (sym (ap (λ (x : ℕ). is_paired false (x ∷ [])) (same ∙ half.0)) ∙ h)
first_naked false d (e ∷ es) more c after h same rest (inr (inl half)) =
    let next = and_parts (e == 10) (is_paired false es) (sym (ap (λ (x : ℕ). is_paired false (x ∷ e ∷ es)) (same ∙ half.0)) ∙ h) in
    half.1 (es ++ more) (sym rest ∙ ap (λ (x : ℕ). x ∷ (es ++ more)) (eqb-true e 10 next.0))
first_naked true d ds more c after h same rest (inr (inl half)) =
    false≢true (sym (ap (λ (x : ℕ). is_paired true (x ∷ ds)) (same ∙ half.0)) ∙ h)
first_naked false d ds more c after h same rest (inr (inr lf)) =
    false≢true (sym (ap (λ (x : ℕ). is_paired false (x ∷ ds)) (same ∙ lf.0)) ∙ h)
first_naked true d ds more c after h same rest (inr (inr lf)) = lf.2 refl refl

no_naked_before : (s : Bool) (done more before : List ℕ) (c : ℕ) (after : List ℕ) → is_paired s done ≡ true → done ++ more ≡ before ++ c ∷ after → length before < length done → NakedAfter s before c after → ⊥
no_naked_before s [] more before c after h e low naked = omega (arith, low)
no_naked_before s (d ∷ ds) more [] c after h e low naked =
    let same : d ≡ c = cc in
    let rest : ds ++ more ≡ after = cc in
    first_naked s d ds more c after h same rest naked
no_naked_before true (d ∷ ds) more (b ∷ bs) c after h e low naked =
    let rest : ds ++ more ≡ bs ++ c ∷ after = cc in
    no_naked_before false ds more bs c after (and_parts (d == 10) (is_paired false ds) h).1 rest (omega (arith, low)) (naked_after true false b bs c after (λ on. absurd (false≢true on)) naked)
no_naked_before false (d ∷ ds) more (b ∷ bs) c after h e low naked =
    let first : d ≡ b = cc in
    let rest : ds ++ more ≡ bs ++ c ∷ after = cc in
    elim (cases_Bool (d == 13)) [
      | inl is ↦ no_naked_before true ds more bs c after (rw is at h) rest (omega (arith, low)) (naked_after false true b bs c after (λ on. sym first ∙ eqb-true d 13 is) naked)
      | inr isnt ↦ no_naked_before false ds more bs c after (and_parts (is_line_byte d) (is_paired false ds) (rw isnt at h)).1 rest (omega (arith, low)) (naked_after false false b bs c after (λ on. absurd (false≢true on)) naked)
    ]

as_after : (before : List ℕ) (c : ℕ) (after : List ℕ) → IsNaked before c after → NakedAfter false before c after
as_after before c after (inl nul) = inl nul
as_after before c after (inr (inl half)) = inr (inl half)
as_after before c after (inr (inr lf)) = inr (inr (lf.0, lf.1, λ on e. false≢true on))

-- no naked end is in a paired text, whatever comes after it
pub none_in : (done more : List ℕ) (at : ℕ) → is_paired false done ≡ true → at < length done → IsNakedEnd (done ++ more) at → ⊥
none_in done more at h low n =
    no_naked_before false done more n.before n.c n.after h n.joined (omega (arith, low, n.stands)) (as_after n.before n.c n.after n.naked)

pub none_in_clean : (text : List ℕ) (at : ℕ) → IsClean text → IsNakedEnd text at → ⊥
none_in_clean text at clean n =
    let paired : is_paired false text ≡ true =
    ap (is_paired false) (clean.joined ∙ sym (append-nil (flat_map ended clean.pieces))) ∙ paired_pieces clean.pieces [] clean.each in
    no_naked_before false text [] n.before n.c n.after paired (append-nil text ∙ n.joined) (omega (arith, ap (length {A = ℕ}) n.joined, length-append n.before (n.c ∷ n.after))) (as_after n.before n.c n.after n.naked)

-- ---- the search for such bytes

abbrev is_end : ℕ → Bool
is_end c = is_byte3 0 13 10 c

pub not_end : (c : ℕ) → (is_end c ≡ true → ⊥) → is_line_byte c ≡ true
not_end c none = line_byte_of (λ x. not (is_end x)) c refl refl refl (elim (cases_Bool (is_end c)) [ inl e ↦ absurd (none e) | inr e ↦ ap not e ])

pub all_plain : (xs : List ℕ) → ((k : ℕ) → k < length xs → is_end (get_or xs k 0) ≡ true → ⊥) → list_all is_line_byte xs ≡ true
all_plain [] none = refl
all_plain (x ∷ xs) none = and_from _ _ (not_end x (none 0 (omega arith))) (all_plain xs (λ k low. none (suc k) (omega (arith, low))))

-- the text up to such a byte, the byte, and the rest
pub record SplitAt (left : List ℕ) (n : ℕ) : Type 0 where
  pub piece : List ℕ
  pub c : ℕ
  pub after : List ℕ
  pub joined : left ≡ piece ++ c ∷ after
  pub count : length piece ≡ n
  pub clean : list_all is_line_byte piece ≡ true
  pub end : is_end c ≡ true

pub split_at : (left : List ℕ) (n : ℕ) → n < length left → ((k : ℕ) → k < n → is_end (get_or left k 0) ≡ true → ⊥) → is_end (get_or left n 0) ≡ true → SplitAt left n
split_at [] n low none is = absurd (omega (arith, low))
split_at (x ∷ xs) zero low none is = record { piece = []; c = x; after = xs; joined = refl; count = refl; clean = refl; end = is }
split_at (x ∷ xs) (suc n) low none is =
    let others = split_at xs n (omega (arith, low)) (λ k less. none (suc k) (omega (arith, less))) is in
    record {
      piece = x ∷ others.piece;
      c = others.c;
      after = others.after;
      joined = ap (λ (s : List ℕ). x ∷ s) others.joined;
      count = ap suc others.count;
      clean = and_from _ _ (not_end x (none 0 (omega arith))) others.clean;
      end = others.end;
    }

-- ---- the walk over the pieces

pub scan_more : (text left after : List ℕ) (n : ℕ) → IsCleanUpTo text left → (s : SplitAt left n) → drop n left ≡ 13 ∷ 10 ∷ after → IsCleanUpTo text after
scan_more text left after n w s there =
    let ends : s.c ∷ s.after ≡ 13 ∷ 10 ∷ after =
    sym (drop-append_seam s.piece (s.c ∷ s.after)) ∙ ap (λ k. drop k (s.piece ++ s.c ∷ s.after)) s.count ∙ ap (λ (x : List ℕ). drop n x) (sym s.joined) ∙ there in
    let made = flat_map ended w.pieces in
    record {
      pieces = w.pieces ++ s.piece ∷ [];
      each = list_all-append (list_all is_line_byte) w.pieces (s.piece ∷ []) ∙ and_from _ _ w.each (and_from _ _ s.clean refl);
      joined =
          w.joined
          ∙ ap (λ (x : List ℕ). made ++ x) (s.joined ∙ ap (λ (x : List ℕ). s.piece ++ x) ends ∙ sym (append_assoc s.piece (13 ∷ 10 ∷ []) after))
          ∙ sym (append_assoc made (ended s.piece) after)
          ∙ ap (λ (x : List ℕ). (made ++ x) ++ after) (sym (append-nil (ended s.piece)))
          ∙ ap (λ (x : List ℕ). x ++ after) (sym (flat_map-append ended w.pieces (s.piece ∷ [])));
    }

-- the same of the first such byte that is found
pub clean_after : (text left after : List ℕ) (n : ℕ) → IsCleanUpTo text left → IsFirstByte is_end left (Some n) → drop n left ≡ 13 ∷ 10 ∷ after → IsCleanUpTo text after
clean_after text left after n w first there =
    scan_more text left after n w (split_at left n first.0.high (λ k low. first.0.before k (omega arith) low) first.1) there

is_naked : (before : List ℕ) (c : ℕ) (after : List ℕ) → is_end c ≡ true → is_paired false before ≡ true → ((rest : List ℕ) → c ∷ after ≢ 13 ∷ 10 ∷ rest) → IsNaked before c after
is_naked before c after end paired none = elim (or_cases ((c == 0) || (c == 13)) (c == 10) end) [
  | inl other ↦ elim (or_cases (c == 0) (c == 13) other) [
    | inl nul ↦ inl (eqb-true c 0 nul)
    | inr cr ↦ inr (inl (eqb-true c 13 cr, λ more e. none more (λ i. eqb-true c 13 cr i ∷ e i)))
  ]
  | inr lf ↦ inr (inr (eqb-true c 10 lf, λ less e. ends_cr false less (ap (is_paired false) (sym e) ∙ paired)))
]

pub naked_here : (text left : List ℕ) (n : ℕ) → IsCleanUpTo text left → (s : SplitAt left n) → ((rest : List ℕ) → drop n left ≢ 13 ∷ 10 ∷ rest) → IsFirstNakedEnd text (length text - length left + n)
naked_here text left n w s none =
    let made = flat_map ended w.pieces in
    let before = made ++ s.piece in
    let paired : is_paired false before ≡ true =
    paired_pieces w.pieces s.piece w.each ∙ ap (is_paired false) (sym (append-nil s.piece)) ∙ paired_clean s.piece [] s.clean in
    let joined : text ≡ before ++ s.c ∷ s.after = w.joined ∙ ap (λ (x : List ℕ). made ++ x) s.joined ∙ sym (append_assoc made s.piece (s.c ∷ s.after)) in
    let at : length text - length left + n ≡ length before =
    omega (arith, ap (length {A = ℕ}) w.joined, length-append made left, length-append made s.piece, s.count) in
    let there : drop n left ≡ s.c ∷ s.after = ap (λ (x : List ℕ). drop n x) s.joined ∙ ap (λ k. drop k (s.piece ++ s.c ∷ s.after)) (sym s.count) ∙ drop-append_seam s.piece (s.c ∷ s.after) in
    record {
      is = record {
        before = before;
        c = s.c;
        after = s.after;
        joined = joined;
        naked = is_naked before s.c s.after s.end paired (λ rest e. none rest (there ∙ e));
        stands = at;
      };
      none_before = λ other low h. none_in before (s.c ∷ s.after) other paired (omega (arith, low, at)) (rw joined at h);
    }

-- where no such byte is left, nothing is left of a text that ends with LF
pub last_plain : (one : List ℕ) (y : ℕ) (ys before : List ℕ) → list_all is_line_byte (y ∷ ys) ≡ true → one ++ y ∷ ys ≡ before ++ 10 ∷ [] → ⊥
last_plain [] y ys before plain e =
    false≢true (and_parts (list_all is_line_byte before) false (sym (list_all-append is_line_byte before (10 ∷ [])) ∙ ap (list_all is_line_byte) (sym e) ∙ plain)).1
last_plain (z ∷ zs) y ys [] plain e = omega (arith, ap (length {A = ℕ}) e, length-append zs (y ∷ ys))
last_plain (z ∷ zs) y ys (b ∷ bs) plain e =
    let rest : zs ++ y ∷ ys ≡ bs ++ 10 ∷ [] = cc in last_plain zs y ys bs plain rest

pub all_scanned : (text left : List ℕ) → EndsWithLf text → IsCleanUpTo text left → list_all is_line_byte left ≡ true → IsClean text
all_scanned text [] ends w plain = record { pieces = w.pieces; each = w.each; joined = w.joined ∙ append-nil (flat_map ended w.pieces) }
all_scanned text (y ∷ ys) ends w plain = absurd (last_plain (flat_map ended w.pieces) y ys ends.0 plain (sym w.joined ∙ ends.1))
