-- The readers of the form of a list of fields meet it.
use Rattle.std.proofs.Common.{not, ◌≡◌, ℕ, List, [], ◌∷◌, ◌++◌, length, replicate, refl, sym, ap, subst, ◌∙◌, append_assoc, arith, codes}
use Rattle.std.proofs.lemmas.List.{length-replicate}
use Rattle.std.proofs.lemmas.List.Elements.{All-nil, All-cons, All-head, All-tail}
use Rattle.std.proofs.lemmas.Bool.{eq-eqb}
use Rattle.std.specs.Fmt.{decimal}
use Rattle.std.specs.List.{flat_map}
use Rattle.byte_grammar.specs.Language.{Each}
use Rattle.byte_grammar.specs.Numbers.{IsNumber, number_line}
use Rattle.byte_grammar.specs.tools.CountedTexts.{Anything, IsLiteral, IsEndedNumber, IsBytes, IsCounted}
use Rattle.byte_grammar.specs.tools.CountedWalk.{is_end}
use Rattle.byte_grammar.specs.tools.Languages.{Then, Mapped}
use Rattle.byte_grammar.specs.tools.Walks.{Next}
use Rattle.byte_grammar.proofs.ChoiceLaws.{Starts}
use Rattle.byte_grammar.proofs.CountedLaws.{meets_bytes, meets_counted}
use Rattle.byte_grammar.proofs.Laws.{Meets, meets_then, meets_map, meets_same, any_next}
use Rattle.byte_grammar.proofs.LiteralLaws.{meets_literal}
use Rattle.byte_grammar.proofs.NumberLaws.{meets_number}
use Rattle.byte_grammar.proofs.TurnLaws.{meets_each}
use Rattle.byte_grammar.proofs.Whole.{Nothing}
use Rattle.list_texts.specs.declared.list.Field.{Field}
use Rattle.list_texts.specs.declared.list.FieldList.{FieldList}
use Rattle.list_texts.specs.Lists.{numbers_line, field_text, content_text, fields_text, IsCountable, HasForm}
use Rattle.list_texts.specs.tools.FieldTexts.{IsSizes, IsPair, IsFieldText, AreFields, IsSize, IsContentText, IsBeginText, IsEndText}
use Rattle.list_texts.specs.tools.FieldWalk.{sizes_read, pair_read, field_read, fields_read, begin_read, size_read, content_read, end_read, form_read}

-- ---- a field

abbrev pub pair_of : List ℕ → List ℕ → Field
pair_of name value = record { name = name; value = value }

pub zeros_size : (n : ℕ) → length {A = ℕ} (replicate n 0) ≡ n
zeros_size n = length-replicate {A = ℕ} n 0

pub meets_sizes : (word : List ℕ) → Meets (IsSizes word) Anything (sizes_read word)
unfolding sizes_read
meets_sizes word =
    meets_same
    (meets_then (meets_literal word)
    (λ _. meets_then (meets_number 32 refl) (λ n. meets_map {G = Anything} (meets_number 10 refl) (λ (v : ℕ). (n, v)) (λ v c h. refl))
    (λ x n h. (decimal 0 ++ 10 ∷ [], (n, 0), (0, (refl, omega arith), refl)))
    (λ u y v r h after. any_next (y ++ r)))
    (λ x u h. ((decimal 0 ++ 32 ∷ []) ++ (decimal 0 ++ 10 ∷ []), (0, 0), record { first = decimal 0 ++ 32 ∷ []; second = decimal 0 ++ 10 ∷ []; value = 0; joined = refl; spells = (refl, omega arith); more = (0, (refl, omega arith), refl) }))
    (λ u y v r h after. any_next (y ++ r)))
    to from (λ v c h. refl)
  where
    to : (x : List ℕ) (s : ℕ × ℕ) → Then (IsLiteral word) (λ _. Then (IsEndedNumber 32) (λ n. Mapped (λ (v : ℕ). (n, v)) (IsEndedNumber 10))) x s → IsSizes word x s
    to x s t =
        let n = t.more.value in
        let v = t.more.more.0 in
        subst (λ (s : ℕ × ℕ). IsSizes word x s) t.more.more.2 (
        record {
          is = cc (t.joined, t.spells.0, t.more.joined, t.more.spells.0, t.more.more.1.0, append_assoc (decimal n) (32 ∷ []) (decimal v ++ 10 ∷ []));
          name = t.more.spells.1;
          value = t.more.more.1.1;
        }
        )

    from : (x : List ℕ) (s : ℕ × ℕ) → IsSizes word x s → Then (IsLiteral word) (λ _. Then (IsEndedNumber 32) (λ n. Mapped (λ (v : ℕ). (n, v)) (IsEndedNumber 10))) x s
    from x s h = record {
      first = word;
      second = (decimal s.0 ++ 32 ∷ []) ++ (decimal s.1 ++ 10 ∷ []);
      value = word;
      joined = h.is ∙ ap (λ (y : List ℕ). word ++ y) (sym (append_assoc (decimal s.0) (32 ∷ []) (decimal s.1 ++ 10 ∷ [])));
      spells = (refl, refl);
      more = record {
        first = decimal s.0 ++ 32 ∷ [];
        second = decimal s.1 ++ 10 ∷ [];
        value = s.0;
        joined = refl;
        spells = (refl, h.name);
        more = (s.1, (refl, h.value), refl);
      };
    }

pub meets_pair : (name value : ℕ) → Meets (IsPair name value) Anything (pair_read name value)
unfolding pair_read
meets_pair name value =
    meets_same
    (meets_then (meets_bytes name) (λ n. meets_map {G = Anything} (meets_counted value) (λ (v : List ℕ). pair_of n v) (λ v c h. refl))
    (λ x n h. (replicate value 0 ++ codes "\n", pair_of n (replicate value 0), (replicate value 0, (refl, zeros_size value), refl)))
    (λ u y v r h after. any_next (y ++ r)))
    to from (λ v c h. refl)
  where
    to : (x : List ℕ) (f : Field) → Then (IsBytes name) (λ n. Mapped (λ (v : List ℕ). pair_of n v) (IsCounted value)) x f → IsPair name value x f
    to x f t =
        subst (λ (f : Field). IsPair name value x f) t.more.2 (record { is = cc (t.joined, t.spells.0, t.more.1.0); name_size = t.spells.1; value_size = t.more.1.1 })

    from : (x : List ℕ) (f : Field) → IsPair name value x f → Then (IsBytes name) (λ n. Mapped (λ (v : List ℕ). pair_of n v) (IsCounted value)) x f
    from x f h = record {
      first = f.name;
      second = f.value ++ codes "\n";
      value = f.name;
      joined = h.is;
      spells = (refl, h.name_size);
      more = (f.value, (refl, h.value_size), refl);
    }

pub meets_field : (word : List ℕ) → Meets (IsFieldText word) Anything (field_read word)
unfolding field_read
meets_field word =
    meets_same
    (meets_then (meets_sizes word) (λ s. meets_pair s.0 s.1)
    (λ x s h. (replicate s.0 0 ++ (replicate s.1 0 ++ codes "\n"), pair_of (replicate s.0 0) (replicate s.1 0), record { is = refl; name_size = zeros_size s.0; value_size = zeros_size s.1 }))
    (λ u y v r h after. any_next (y ++ r)))
    to from (λ v c h. refl)
  where
    to : (x : List ℕ) (f : Field) → Then (IsSizes word) (λ s. IsPair s.0 s.1) x f → IsFieldText word x f
    to x f t =
        let line : t.first ≡ numbers_line word (length f.name) (length f.value) = t.spells.is ∙ (λ i. numbers_line word (sym t.more.name_size i) (sym t.more.value_size i)) in
        record {
          is = cc (t.joined, line, t.more.is);
          countable = record { name = subst IsNumber (sym t.more.name_size) t.spells.name; value = subst IsNumber (sym t.more.value_size) t.spells.value };
        }

    from : (x : List ℕ) (f : Field) → IsFieldText word x f → Then (IsSizes word) (λ s. IsPair s.0 s.1) x f
    from x f h = record {
      first = numbers_line word (length f.name) (length f.value);
      second = f.name ++ (f.value ++ codes "\n");
      value = (length f.name, length f.value);
      joined = h.is;
      spells = record { is = refl; name = h.countable.name; value = h.countable.value };
      more = record { is = refl; name_size = refl; value_size = refl };
    }

-- ---- fields

-- a field's text begins with the first byte of its word
pub field_starts : (first : ℕ) (others : List ℕ) (x : List ℕ) (f : Field) → IsFieldText (first ∷ others) x f → Starts (is_end first) x
field_starts first others x f h = subst (λ (y : List ℕ). Starts (is_end first) y) (sym h.is) (eq-eqb first first refl)

pub each_fields : (word : List ℕ) (fs : List Field) (x : List ℕ) → Each (IsFieldText word) x fs → AreFields word x fs
each_fields word [] x h = record { is = h; countable = All-nil IsCountable }
each_fields word (f ∷ fs) x h =
    let rest = each_fields word fs h.1 h.4 in
    record { is = cc (h.2, h.3.is, rest.is); countable = All-cons IsCountable f fs h.3.countable rest.countable }

pub fields_each : (word : List ℕ) (fs : List Field) (x : List ℕ) → AreFields word x fs → Each (IsFieldText word) x fs
fields_each word [] x h = h.is
fields_each word (f ∷ fs) x h = (
  field_text word f,
  flat_map (field_text word) fs,
  h.is,
  record { is = refl; countable = All-head IsCountable f fs h.countable },
  fields_each word fs (flat_map (field_text word) fs) (record { is = refl; countable = All-tail IsCountable f fs h.countable }),
)

pub meets_fields : (first : ℕ) (others : List ℕ) → Meets (AreFields (first ∷ others)) (λ _ c. not (is_end first c)) (fields_read first (first ∷ others))
unfolding fields_read
meets_fields first others =
    meets_same
    (meets_each (is_end first) (λ c. not (is_end first c)) (meets_field (first ∷ others)) (λ x f h. field_starts first others x f h) (λ v c e. refl) (λ v c e. refl) (λ c h. h))
    (λ x fs h. each_fields (first ∷ others) fs x h) (λ x fs h. fields_each (first ∷ others) fs x h) (λ v c h. h)

-- ---- the parts of a list

pub no_fields : (word : List ℕ) → AreFields word [] []
no_fields word = record { is = refl; countable = All-nil IsCountable }

pub meets_begin : Meets IsBeginText (λ _ c. not (is_end 102 c)) begin_read
unfolding begin_read
meets_begin =
    meets_same
    (meets_then (meets_literal (codes "hms-fields 1\n")) (λ _. meets_fields 102 (codes "ield ")) (λ x u h. ([], [], no_fields (codes "field "))) (λ u y v r h after. any_next (y ++ r)))
    to from (λ v c h. h)
  where
    to : (x : List ℕ) (fs : List Field) → Then (IsLiteral (codes "hms-fields 1\n")) (λ _. AreFields (codes "field ")) x fs → IsBeginText x fs
    to x fs t = record { is = cc (t.joined, t.spells.0, t.more.is); countable = t.more.countable }

    from : (x : List ℕ) (fs : List Field) → IsBeginText x fs → Then (IsLiteral (codes "hms-fields 1\n")) (λ _. AreFields (codes "field ")) x fs
    from x fs h = record {
      first = codes "hms-fields 1\n";
      second = flat_map (field_text (codes "field ")) fs;
      value = codes "hms-fields 1\n";
      joined = h.is;
      spells = (refl, refl);
      more = record { is = refl; countable = h.countable };
    }

pub meets_size : Meets IsSize Anything size_read
unfolding size_read
meets_size =
    meets_same (meets_then (meets_literal (codes "content ")) (λ _. meets_number 10 refl) (λ x u h. (decimal 0 ++ 10 ∷ [], 0, (refl, omega arith))) (λ u y v r h after. any_next (y ++ r)))
    to from (λ v c h. refl)
  where
    to : (x : List ℕ) (n : ℕ) → Then (IsLiteral (codes "content ")) (λ _. IsEndedNumber 10) x n → IsSize x n
    to x n t = record { is = cc (t.joined, t.spells.0, t.more.0); number = t.more.1 }

    from : (x : List ℕ) (n : ℕ) → IsSize x n → Then (IsLiteral (codes "content ")) (λ _. IsEndedNumber 10) x n
    from x n h = record { first = codes "content "; second = decimal n ++ 10 ∷ []; value = codes "content "; joined = h.is; spells = (refl, refl); more = (refl, h.number) }

pub meets_content : Meets IsContentText Anything content_read
unfolding content_read
meets_content =
    meets_same
    (meets_then meets_size (λ n. meets_counted n) (λ x n h. (replicate n 0 ++ codes "\n", replicate n 0, (refl, zeros_size n))) (λ u y v r h after. any_next (y ++ r)))
    to from (λ v c h. refl)
  where
    to : (x c : List ℕ) → Then IsSize (λ n. IsCounted n) x c → IsContentText x c
    to x c t =
        let line : t.first ≡ number_line (codes "content ") (length c) = t.spells.is ∙ ap (λ (n : ℕ). number_line (codes "content ") n) (sym t.more.1) in
        record { is = cc (t.joined, line, t.more.0); number = subst IsNumber (sym t.more.1) t.spells.number }

    from : (x c : List ℕ) → IsContentText x c → Then IsSize (λ n. IsCounted n) x c
    from x c h = record {
      first = number_line (codes "content ") (length c);
      second = c ++ codes "\n";
      value = length c;
      joined = h.is;
      spells = record { is = refl; number = h.number };
      more = (refl, refl);
    }

pub meets_end : Meets IsEndText Anything end_read
unfolding end_read
meets_end =
    meets_same
    (meets_then (meets_fields 116 (codes "railer ")) (λ t. meets_map {G = Anything} (meets_literal (codes "end\n")) (λ (_ : List ℕ). t) (λ v c h. refl))
    (λ x t h. (codes "end\n", t, (codes "end\n", (refl, refl), refl)))
    next)
    to from (λ v c h. refl)
  where
    next : (t : List Field) (y : List ℕ) (v : List Field) (r : List ℕ) → Mapped (λ (_ : List ℕ). t) (IsLiteral (codes "end\n")) y v → Next (Anything v) r → Next (λ c. not (is_end 116 c)) (y ++ r)
    next t y v r h after = subst (λ (y : List ℕ). Next (λ c. not (is_end 116 c)) (y ++ r)) (sym h.1.0) refl

    to : (x : List ℕ) (ts : List Field) → Then (AreFields (codes "trailer ")) (λ t. Mapped (λ (_ : List ℕ). t) (IsLiteral (codes "end\n"))) x ts → IsEndText x ts
    to x ts t = subst (λ (ts : List Field). IsEndText x ts) t.more.2 (record { is = cc (t.joined, t.spells.is, t.more.1.0); countable = t.spells.countable })

    from : (x : List ℕ) (ts : List Field) → IsEndText x ts → Then (AreFields (codes "trailer ")) (λ t. Mapped (λ (_ : List ℕ). t) (IsLiteral (codes "end\n"))) x ts
    from x ts h = record {
      first = flat_map (field_text (codes "trailer ")) ts;
      second = codes "end\n";
      value = ts;
      joined = h.is;
      spells = record { is = refl; countable = h.countable };
      more = (codes "end\n", (refl, refl), refl);
    }

-- ---- the list

abbrev pub list_of : List Field → List ℕ → List Field → FieldList
list_of fields content trailers = record { fields = fields; content = content; trailers = trailers }

-- what comes after the fields
abbrev pub IsAfterFields : List Field → List ℕ → FieldList → Type 0
IsAfterFields f = Then IsContentText (λ c. Mapped (λ (t : List Field). list_of f c t) IsEndText)

no_content : List ℕ
no_content = content_text []

pub meets_form : Meets HasForm Nothing form_read
unfolding form_read no_content
meets_form =
    meets_same
    (meets_then meets_begin
    (λ f. meets_then meets_content (λ c. meets_map {G = Nothing} meets_end (λ (t : List Field). list_of f c t) (λ v c h. refl))
    (λ x c h. (codes "end\n", list_of f c [], ([], record { is = refl; countable = All-nil IsCountable }, refl)))
    (λ u y v r h after. any_next (y ++ r)))
    (λ x f h. (
      no_content ++ codes "end\n",
      list_of f [] [],
      record { first = no_content; second = codes "end\n"; value = []; joined = refl; spells = record { is = refl; number = omega arith }; more = ([], record { is = refl; countable = All-nil IsCountable }, refl) },
    ))
    next)
    to from (λ v c h. h)
  where
    next : (f : List Field) (y : List ℕ) (l : FieldList) (r : List ℕ) → IsAfterFields f y l → Next (Nothing l) r → Next (λ c. not (is_end 102 c)) (y ++ r)
    next f y l r h after =
        let same : y ≡ content_text h.value ++ h.second = h.joined ∙ ap (λ (z : List ℕ). z ++ h.second) h.spells.is in
        subst (λ (y : List ℕ). Next (λ c. not (is_end 102 c)) (y ++ r)) (sym same) refl

    to : (x : List ℕ) (l : FieldList) → Then IsBeginText IsAfterFields x l → HasForm x l
    to x l t =
        let f = t.value in
        let c = t.more.value in
        let ts = t.more.more.0 in
        let e = t.more.more.1 in
        subst (λ (l : FieldList). HasForm x l) t.more.more.2 (
        record {
          fields = t.spells.countable;
          content = t.more.spells.number;
          trailers = e.countable;
          joined = cc (
            t.joined,
            t.spells.is,
            t.more.joined,
            t.more.spells.is,
            e.is,
            append_assoc (fields_text f) (content_text c ++ flat_map (field_text (codes "trailer ")) ts) (codes "end\n"),
            append_assoc (content_text c) (flat_map (field_text (codes "trailer ")) ts) (codes "end\n"),
          );
        }
        )

    from : (x : List ℕ) (l : FieldList) → HasForm x l → Then IsBeginText IsAfterFields x l
    from x l h =
        let ts : List ℕ = flat_map (field_text (codes "trailer ")) l.trailers in
        record {
          first = fields_text l.fields;
          second = content_text l.content ++ (ts ++ codes "end\n");
          value = l.fields;
          joined = h.joined ∙ append_assoc (fields_text l.fields) (content_text l.content ++ ts) (codes "end\n") ∙ ap (λ (y : List ℕ). fields_text l.fields ++ y) (append_assoc (content_text l.content) ts (codes "end\n"));
          spells = record { is = refl; countable = h.fields };
          more = record {
            first = content_text l.content;
            second = ts ++ codes "end\n";
            value = l.content;
            joined = refl;
            spells = record { is = refl; number = h.content };
            more = (l.trailers, record { is = refl; countable = h.trailers }, refl);
          };
        }
