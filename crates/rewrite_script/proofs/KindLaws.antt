-- Each kind's reader reads exactly its lines. A kind has an exact reader of its arguments, and a line in each of
-- `kind_sound`, `spaced_complete` and `spaced_clean`.
use Rattle.std.proofs.Common.{◌≡◌, ℕ, true, ◌&&◌, List, [], ◌∷◌, ◌++◌, map, codes, Option, Some, None, refl, sym, ap, ◌∙◌, inl, inr, bytes_eq, append-nil}
use Rattle.std.specs.Fmt.{decimal}
use Rattle.std.specs.List.{join_by, list_all}
use Rattle.byte_grammar.specs.Classes.{is_field_name, is_line_byte, is_token}
use Rattle.sfv_text.specs.Classes.{is_key}
use Rattle.msg_head.specs.declared.error.Side.{Side}
use Rattle.rewrite_script.specs.declared.rewrite.Rewrite.{Rewrite}
use Rattle.rewrite_script.specs.declared.rewrite.LineRewrite.TheVariants.{Pad, Fold, Unfold, Join, Split, Move, Case, Add, Remove}
use Rattle.rewrite_script.specs.declared.rewrite.Rewrite.TheVariants.{Lines, Whole}
use Rattle.rewrite_script.specs.declared.rewrite.WholeRewrite.TheVariants.{AddLabel, Rechunk, Chunk, Dechunk, Origin, Absolute, Host, Query, Resf}
use Rattle.rewrite_script.specs.Lines.{side_word, blanks_word, is_number, are_blanks, is_base64_byte, is_list_text, is_writable, rewrite_line, rewrite_words}
use Rattle.rewrite_script.specs.Laws.{HasOneRewriting}
use Rattle.rewrite_script.specs.tools.LineWalk.{◌>>=◌, cut_read, then_read, spaced, side_read, number_read, blanks_read, name_read, text_read, two_read, pad_read, fold_read, unfold_read, join_read, split_read, move_read, case_read, add_read, remove_read, key_read, tag_read, params_read, lower_name_read, add_label_read, rechunk_read, chunk_read, host_read, query_read, resf_read, message_read, rewrite_read, word_read, parts_read, line_read}
use Rattle.rewrite_script.proofs.Cuts.{cut_sound}
use Rattle.rewrite_script.proofs.Exactness.{IsExact, IsWrittenBy, choice, kind_is, made_sound, some_is, then_exact, word_is}
use Rattle.rewrite_script.proofs.Numerals.{number_exact, number_free}
use Rattle.rewrite_script.proofs.Arguments.{side_exact, side_free, blanks_exact, blanks_free, name_exact, name_free, text_exact, lower_name_exact, query_text_exact, key_exact, key_free, tag_exact, tag_free, params_exact}
use Rattle.rewrite_script.proofs.SizeLaws.{some_sizes, sizes_exact}

-- ---- the arguments of the kinds

one_exact : IsExact (λ (a : Side × ℕ). side_word a.0 ++ 32 ∷ decimal a.1) (λ a. is_number a.1) (then_read side_read number_read)
one_exact = then_exact side_exact side_free number_exact

pub two_exact : IsExact (λ (a : Side × (ℕ × ℕ)). side_word a.0 ++ 32 ∷ (decimal a.1.0 ++ 32 ∷ decimal a.1.1)) (λ a. is_number a.1.0 && is_number a.1.1) two_read
unfolding two_read
two_exact = then_exact side_exact side_free (then_exact number_exact number_free number_exact)

pad_exact : IsExact (λ (a : Side × (ℕ × (List ℕ × List ℕ))). side_word a.0 ++ 32 ∷ (decimal a.1.0 ++ 32 ∷ (blanks_word a.1.1.0 ++ 32 ∷ blanks_word a.1.1.1))) (λ a. is_number a.1.0 && (are_blanks a.1.1.0 && are_blanks a.1.1.1))
    (then_read side_read (then_read number_read (then_read blanks_read blanks_read)))
pad_exact = then_exact side_exact side_free (then_exact number_exact number_free (then_exact blanks_exact blanks_free blanks_exact))

fold_exact : IsExact (λ (a : Side × (ℕ × (ℕ × List ℕ))). side_word a.0 ++ 32 ∷ (decimal a.1.0 ++ 32 ∷ (decimal a.1.1.0 ++ 32 ∷ blanks_word a.1.1.1))) (λ a. is_number a.1.0 && (is_number a.1.1.0 && are_blanks a.1.1.1))
    (then_read side_read (then_read number_read (then_read number_read blanks_read)))
fold_exact = then_exact side_exact side_free (then_exact number_exact number_free (then_exact number_exact number_free blanks_exact))

case_exact : IsExact (λ (a : Side × (ℕ × List ℕ)). side_word a.0 ++ 32 ∷ (decimal a.1.0 ++ 32 ∷ a.1.1)) (λ a. is_number a.1.0 && is_token a.1.1) (then_read side_read (then_read number_read name_read))
case_exact = then_exact side_exact side_free (then_exact number_exact number_free name_exact)

add_exact : IsExact (λ (a : Side × (ℕ × (List ℕ × List ℕ))). side_word a.0 ++ 32 ∷ (decimal a.1.0 ++ 32 ∷ (a.1.1.0 ++ 32 ∷ a.1.1.1))) (λ a. is_number a.1.0 && (is_token a.1.1.0 && list_all is_line_byte a.1.1.1))
    (then_read side_read (then_read number_read (then_read name_read text_read)))
add_exact = then_exact side_exact side_free (then_exact number_exact number_free (then_exact name_exact name_free text_exact))

label_exact : IsExact (λ (a : List ℕ × (List ℕ × List ℕ)). a.0 ++ 32 ∷ (a.1.0 ++ 32 ∷ a.1.1)) (λ a. is_key a.0 && (list_all is_base64_byte a.1.0 && is_list_text a.1.1)) (then_read key_read (then_read tag_read params_read))
label_exact = then_exact key_exact key_free (then_exact tag_exact tag_free params_exact)

resf_exact : IsExact (λ (a : Side × List ℕ). side_word a.0 ++ 32 ∷ a.1) (λ a. is_field_name a.1) (then_read side_read lower_name_read)
resf_exact = then_exact side_exact side_free lower_name_exact

-- ---- what is read is a line of a rewriting

abbrev Sound : List ℕ → (List ℕ → Option Rewrite) → Type 0
Sound kind read = (rest : List ℕ) (rewrite : Rewrite) → read rest ≡ Some rewrite → IsWrittenBy (kind ++ 32 ∷ rest) rewrite

pad_sound : Sound (codes "pad") pad_read
unfolding pad_read
pad_sound = made_sound pad_exact (λ a. Lines (Pad a.0 a.1.0 a.1.1.0 a.1.1.1)) (codes "pad") (λ a is. (is, refl))

fold_sound : Sound (codes "fold") fold_read
unfolding fold_read
fold_sound = made_sound fold_exact (λ a. Lines (Fold a.0 a.1.0 a.1.1.0 a.1.1.1)) (codes "fold") (λ a is. (is, refl))

unfold_sound : Sound (codes "unfold") unfold_read
unfolding unfold_read
unfold_sound = made_sound two_exact (λ a. Lines (Unfold a.0 a.1.0 a.1.1)) (codes "unfold") (λ a is. (is, refl))

join_sound : Sound (codes "join") join_read
unfolding join_read
join_sound = made_sound two_exact (λ a. Lines (Join a.0 a.1.0 a.1.1)) (codes "join") (λ a is. (is, refl))

split_sound : Sound (codes "split") split_read
unfolding split_read
split_sound = made_sound two_exact (λ a. Lines (Split a.0 a.1.0 a.1.1)) (codes "split") (λ a is. (is, refl))

move_sound : Sound (codes "move") move_read
unfolding move_read
move_sound = made_sound two_exact (λ a. Lines (Move a.0 a.1.0 a.1.1)) (codes "move") (λ a is. (is, refl))

case_sound : Sound (codes "case") case_read
unfolding case_read
case_sound = made_sound case_exact (λ a. Lines (Case a.0 a.1.0 a.1.1)) (codes "case") (λ a is. (is, refl))

add_sound : Sound (codes "add") add_read
unfolding add_read
add_sound = made_sound add_exact (λ a. Lines (Add a.0 a.1.0 a.1.1.0 a.1.1.1)) (codes "add") (λ a is. (is, refl))

remove_sound : Sound (codes "remove") remove_read
unfolding remove_read
remove_sound = made_sound one_exact (λ a. Lines (Remove a.0 a.1)) (codes "remove") (λ a is. (is, refl))

add_label_sound : Sound (codes "add-label") add_label_read
unfolding add_label_read
add_label_sound = made_sound label_exact (λ a. Whole (AddLabel a.0 a.1.0 a.1.1)) (codes "add-label") (λ a is. (is, refl))

-- sizes after a word
sized : (kind : List ℕ) (make : List ℕ → Rewrite) → ((sizes : List ℕ) → is_writable (make sizes) ≡ list_all is_number sizes) → ((sizes : List ℕ) → rewrite_words (make sizes) ≡ kind ∷ map decimal sizes)
    → (sizes : List ℕ) → some_sizes sizes ≡ true → IsWrittenBy (kind ++ 32 ∷ spaced (map decimal sizes)) (make sizes)
sized kind make writable words [] is = absurd cc
sized kind make writable words (n ∷ ns) is = (writable (n ∷ ns) ∙ is, sym (ap spaced (words (n ∷ ns))))

rechunk_sound : Sound (codes "rechunk") rechunk_read
unfolding rechunk_read
rechunk_sound = made_sound sizes_exact (λ a. Whole (Rechunk a)) (codes "rechunk") (sized (codes "rechunk") (λ a. Whole (Rechunk a)) (λ a. refl) (λ a. refl))

chunk_sound : Sound (codes "chunk") chunk_read
unfolding chunk_read
chunk_sound = made_sound sizes_exact (λ a. Whole (Chunk a)) (codes "chunk") (sized (codes "chunk") (λ a. Whole (Chunk a)) (λ a. refl) (λ a. refl))

host_sound : Sound (codes "host") host_read
unfolding host_read
host_sound = made_sound text_exact (λ a. Whole (Host a)) (codes "host") (λ a is. (is, refl))

query_sound : Sound (codes "query") query_read
unfolding query_read
query_sound = made_sound query_text_exact (λ a. Whole (Query (Some a))) (codes "query") (λ a is. (is, refl))

resf_sound : Sound (codes "resf") resf_read
unfolding resf_read
resf_sound = made_sound resf_exact (λ a. Whole (Resf a.0 a.1)) (codes "resf") (λ a is. (is, refl))

message_sound : (kind rest : List ℕ) (rewrite : Rewrite) → message_read kind rest ≡ Some rewrite → IsWrittenBy (kind ++ 32 ∷ rest) rewrite
unfolding message_read
message_sound kind rest rewrite e = elim (choice (bytes_eq kind (codes "add-label")) (add_label_read rest) _ rewrite e) [
  | inl is ↦ kind_is kind (codes "add-label") rest rewrite is.0 (add_label_sound rest rewrite is.1)
  | inr e ↦ elim (choice (bytes_eq kind (codes "rechunk")) (rechunk_read rest) _ rewrite e) [
    | inl is ↦ kind_is kind (codes "rechunk") rest rewrite is.0 (rechunk_sound rest rewrite is.1)
    | inr e ↦ elim (choice (bytes_eq kind (codes "chunk")) (chunk_read rest) _ rewrite e) [
      | inl is ↦ kind_is kind (codes "chunk") rest rewrite is.0 (chunk_sound rest rewrite is.1)
      | inr e ↦ elim (choice (bytes_eq kind (codes "host")) (host_read rest) _ rewrite e) [
        | inl is ↦ kind_is kind (codes "host") rest rewrite is.0 (host_sound rest rewrite is.1)
        | inr e ↦ elim (choice (bytes_eq kind (codes "query")) (query_read rest) _ rewrite e) [
          | inl is ↦ kind_is kind (codes "query") rest rewrite is.0 (query_sound rest rewrite is.1)
          | inr e ↦ elim (choice (bytes_eq kind (codes "resf")) (resf_read rest) None rewrite e) [
            | inl is ↦ kind_is kind (codes "resf") rest rewrite is.0 (resf_sound rest rewrite is.1)
            | inr none ↦ absurd cc
          ]
        ]
      ]
    ]
  ]
]

word_sound : (line : List ℕ) (rewrite : Rewrite) → word_read line ≡ Some rewrite → IsWrittenBy line rewrite
unfolding word_read
word_sound line rewrite e = elim (choice (bytes_eq line (codes "rechunk")) (Some (Whole (Rechunk []))) _ rewrite e) [
  | inl is ↦ word_is line (codes "rechunk") (Whole (Rechunk [])) rewrite is.0 is.1 (refl, refl)
  | inr e ↦ elim (choice (bytes_eq line (codes "chunk")) (Some (Whole (Chunk []))) _ rewrite e) [
    | inl is ↦ word_is line (codes "chunk") (Whole (Chunk [])) rewrite is.0 is.1 (refl, refl)
    | inr e ↦ elim (choice (bytes_eq line (codes "dechunk")) (Some (Whole Dechunk)) _ rewrite e) [
      | inl is ↦ word_is line (codes "dechunk") (Whole Dechunk) rewrite is.0 is.1 (refl, refl)
      | inr e ↦ elim (choice (bytes_eq line (codes "origin")) (Some (Whole Origin)) _ rewrite e) [
        | inl is ↦ word_is line (codes "origin") (Whole Origin) rewrite is.0 is.1 (refl, refl)
        | inr e ↦ elim (choice (bytes_eq line (codes "absolute")) (Some (Whole Absolute)) _ rewrite e) [
          | inl is ↦ word_is line (codes "absolute") (Whole Absolute) rewrite is.0 is.1 (refl, refl)
          | inr e ↦ elim (choice (bytes_eq line (codes "query")) (Some (Whole (Query None))) None rewrite e) [
            | inl is ↦ word_is line (codes "query") (Whole (Query None)) rewrite is.0 is.1 (refl, refl)
            | inr none ↦ absurd cc
          ]
        ]
      ]
    ]
  ]
]

kind_sound : (kind rest : List ℕ) (rewrite : Rewrite) → rewrite_read kind rest ≡ Some rewrite → IsWrittenBy (kind ++ 32 ∷ rest) rewrite
unfolding rewrite_read
kind_sound kind rest rewrite e = elim (choice (bytes_eq kind (codes "pad")) (pad_read rest) _ rewrite e) [
  | inl is ↦ kind_is kind (codes "pad") rest rewrite is.0 (pad_sound rest rewrite is.1)
  | inr e ↦ elim (choice (bytes_eq kind (codes "fold")) (fold_read rest) _ rewrite e) [
    | inl is ↦ kind_is kind (codes "fold") rest rewrite is.0 (fold_sound rest rewrite is.1)
    | inr e ↦ elim (choice (bytes_eq kind (codes "unfold")) (unfold_read rest) _ rewrite e) [
      | inl is ↦ kind_is kind (codes "unfold") rest rewrite is.0 (unfold_sound rest rewrite is.1)
      | inr e ↦ elim (choice (bytes_eq kind (codes "join")) (join_read rest) _ rewrite e) [
        | inl is ↦ kind_is kind (codes "join") rest rewrite is.0 (join_sound rest rewrite is.1)
        | inr e ↦ elim (choice (bytes_eq kind (codes "split")) (split_read rest) _ rewrite e) [
          | inl is ↦ kind_is kind (codes "split") rest rewrite is.0 (split_sound rest rewrite is.1)
          | inr e ↦ elim (choice (bytes_eq kind (codes "move")) (move_read rest) _ rewrite e) [
            | inl is ↦ kind_is kind (codes "move") rest rewrite is.0 (move_sound rest rewrite is.1)
            | inr e ↦ elim (choice (bytes_eq kind (codes "case")) (case_read rest) _ rewrite e) [
              | inl is ↦ kind_is kind (codes "case") rest rewrite is.0 (case_sound rest rewrite is.1)
              | inr e ↦ elim (choice (bytes_eq kind (codes "add")) (add_read rest) _ rewrite e) [
                | inl is ↦ kind_is kind (codes "add") rest rewrite is.0 (add_sound rest rewrite is.1)
                | inr e ↦ elim (choice (bytes_eq kind (codes "remove")) (remove_read rest) _ rewrite e) [
                  | inl is ↦ kind_is kind (codes "remove") rest rewrite is.0 (remove_sound rest rewrite is.1)
                  | inr e ↦ message_sound kind rest rewrite e
                ]
              ]
            ]
          ]
        ]
      ]
    ]
  ]
]

-- ---- the line of each rewriting is read

spaced_complete : (rewrite : Rewrite) → is_writable rewrite ≡ true → line_read (spaced (rewrite_words rewrite)) ≡ Some rewrite
unfolding line_read cut_read rewrite_read pad_read fold_read unfold_read join_read split_read move_read case_read add_read remove_read message_read word_read add_label_read rechunk_read chunk_read host_read query_read resf_read
spaced_complete (Lines (Pad side index before after)) is = ap (λ (o : Option (Side × (ℕ × (List ℕ × List ℕ)))). o >>= λ a. Some (Lines (Pad a.0 a.1.0 a.1.1.0 a.1.1.1))) (pad_exact.complete (side, (index, (before, after))) is)
spaced_complete (Lines (Fold side index at blanks)) is = ap (λ (o : Option (Side × (ℕ × (ℕ × List ℕ)))). o >>= λ a. Some (Lines (Fold a.0 a.1.0 a.1.1.0 a.1.1.1))) (fold_exact.complete (side, (index, (at, blanks))) is)
spaced_complete (Lines (Unfold side index at)) is = ap (λ (o : Option (Side × (ℕ × ℕ))). o >>= λ a. Some (Lines (Unfold a.0 a.1.0 a.1.1))) (two_exact.complete (side, (index, at)) is)
spaced_complete (Lines (Join side index later)) is = ap (λ (o : Option (Side × (ℕ × ℕ))). o >>= λ a. Some (Lines (Join a.0 a.1.0 a.1.1))) (two_exact.complete (side, (index, later)) is)
spaced_complete (Lines (Split side index at)) is = ap (λ (o : Option (Side × (ℕ × ℕ))). o >>= λ a. Some (Lines (Split a.0 a.1.0 a.1.1))) (two_exact.complete (side, (index, at)) is)
spaced_complete (Lines (Move side index to)) is = ap (λ (o : Option (Side × (ℕ × ℕ))). o >>= λ a. Some (Lines (Move a.0 a.1.0 a.1.1))) (two_exact.complete (side, (index, to)) is)
spaced_complete (Lines (Case side index name)) is = ap (λ (o : Option (Side × (ℕ × List ℕ))). o >>= λ a. Some (Lines (Case a.0 a.1.0 a.1.1))) (case_exact.complete (side, (index, name)) is)
spaced_complete (Lines (Add side index name text)) is = ap (λ (o : Option (Side × (ℕ × (List ℕ × List ℕ)))). o >>= λ a. Some (Lines (Add a.0 a.1.0 a.1.1.0 a.1.1.1))) (add_exact.complete (side, (index, (name, text))) is)
spaced_complete (Lines (Remove side index)) is = ap (λ (o : Option (Side × ℕ)). o >>= λ a. Some (Lines (Remove a.0 a.1))) (one_exact.complete (side, index) is)
spaced_complete (Whole (AddLabel label tag params)) is = ap (λ (o : Option (List ℕ × (List ℕ × List ℕ))). o >>= λ a. Some (Whole (AddLabel a.0 a.1.0 a.1.1))) (label_exact.complete (label, (tag, params)) is)
spaced_complete (Whole (Rechunk [])) is = refl
spaced_complete (Whole (Rechunk (n ∷ ns))) is = ap (λ (o : Option (List ℕ)). o >>= λ a. Some (Whole (Rechunk a))) (sizes_exact.complete (n ∷ ns) is)
spaced_complete (Whole (Chunk [])) is = refl
spaced_complete (Whole (Chunk (n ∷ ns))) is = ap (λ (o : Option (List ℕ)). o >>= λ a. Some (Whole (Chunk a))) (sizes_exact.complete (n ∷ ns) is)
spaced_complete (Whole Dechunk) is = refl
spaced_complete (Whole Origin) is = refl
spaced_complete (Whole Absolute) is = refl
spaced_complete (Whole (Host text)) is = ap (λ (o : Option (List ℕ)). o >>= λ a. Some (Whole (Host a))) (text_exact.complete text is)
spaced_complete (Whole (Query (Some text))) is = ap (λ (o : Option (List ℕ)). o >>= λ a. Some (Whole (Query (Some a)))) (query_text_exact.complete text is)
spaced_complete (Whole (Query None)) is = refl
spaced_complete (Whole (Resf side name)) is = ap (λ (o : Option (Side × List ℕ)). o >>= λ a. Some (Whole (Resf a.0 a.1))) (resf_exact.complete (side, name) is)

spaced_clean : (rewrite : Rewrite) → is_writable rewrite ≡ true → list_all is_line_byte (spaced (rewrite_words rewrite)) ≡ true
spaced_clean (Lines (Pad side index before after)) is = pad_exact.clean (side, (index, (before, after))) is
spaced_clean (Lines (Fold side index at blanks)) is = fold_exact.clean (side, (index, (at, blanks))) is
spaced_clean (Lines (Unfold side index at)) is = two_exact.clean (side, (index, at)) is
spaced_clean (Lines (Join side index later)) is = two_exact.clean (side, (index, later)) is
spaced_clean (Lines (Split side index at)) is = two_exact.clean (side, (index, at)) is
spaced_clean (Lines (Move side index to)) is = two_exact.clean (side, (index, to)) is
spaced_clean (Lines (Case side index name)) is = case_exact.clean (side, (index, name)) is
spaced_clean (Lines (Add side index name text)) is = add_exact.clean (side, (index, (name, text))) is
spaced_clean (Lines (Remove side index)) is = one_exact.clean (side, index) is
spaced_clean (Whole (AddLabel label tag params)) is = label_exact.clean (label, (tag, params)) is
spaced_clean (Whole (Rechunk [])) is = refl
spaced_clean (Whole (Rechunk (n ∷ ns))) is = sizes_exact.clean (n ∷ ns) is
spaced_clean (Whole (Chunk [])) is = refl
spaced_clean (Whole (Chunk (n ∷ ns))) is = sizes_exact.clean (n ∷ ns) is
spaced_clean (Whole Dechunk) is = refl
spaced_clean (Whole Origin) is = refl
spaced_clean (Whole Absolute) is = refl
spaced_clean (Whole (Host text)) is = text_exact.clean text is
spaced_clean (Whole (Query (Some text))) is = query_text_exact.clean text is
spaced_clean (Whole (Query None)) is = refl
spaced_clean (Whole (Resf side name)) is = resf_exact.clean (side, name) is

-- ---- lines

spaced_is : (words : List (List ℕ)) → join_by (λ word. word) (codes " ") words ≡ spaced words
spaced_is [] = refl
spaced_is (word ∷ []) = append-nil word
spaced_is (word ∷ next ∷ words) = ap (λ (y : List ℕ). word ++ 32 ∷ y) (spaced_is (next ∷ words))

line_is : (rewrite : Rewrite) → rewrite_line rewrite ≡ spaced (rewrite_words rewrite)
line_is rewrite = spaced_is (rewrite_words rewrite)

parts_sound : (line : List ℕ) (rewrite : Rewrite) (parts : Option (List ℕ × List ℕ)) → cut_read 32 line ≡ parts → parts_read line parts ≡ Some rewrite → IsWrittenBy line rewrite
parts_sound line rewrite None is e = word_sound line rewrite e
parts_sound line rewrite (Some w) is e =
    let s = kind_sound w.0 w.1 rewrite e in
    (s.0, cut_sound 32 line w is ∙ s.1)

line_sound : (line : List ℕ) (rewrite : Rewrite) → line_read line ≡ Some rewrite → (is_writable rewrite ≡ true) × (line ≡ rewrite_line rewrite)
unfolding line_read
line_sound line rewrite e =
    let s = parts_sound line rewrite (cut_read 32 line) refl e in
    (s.0, s.1 ∙ sym (line_is rewrite))

pub line_exact : IsExact rewrite_line is_writable line_read
line_exact = record {
  sound = line_sound;
  complete = λ rewrite is. ap line_read (line_is rewrite) ∙ spaced_complete rewrite is;
  clean = λ rewrite is. ap (list_all is_line_byte) (line_is rewrite) ∙ spaced_clean rewrite is;
}

pub has_one_rewriting : HasOneRewriting
has_one_rewriting text rewrite other one two =
    some_is rewrite other (sym (line_exact.complete rewrite one.writable) ∙ ap line_read (sym one.line ∙ two.line) ∙ line_exact.complete other two.writable)
