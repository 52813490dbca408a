-- Sizes: numbers with SP between two of them.
use Rattle.std.proofs.Common.{◌≡◌, ◌<◌, ℕ, Bool, true, false, List, [], ◌∷◌, ◌++◌, length, map, Option, Some, None, refl, sym, ap, subst, ◌∙◌, eqb, append_assoc, arith}
use Rattle.std.specs.Fmt.{decimal}
use Rattle.std.specs.List.{list_all}
use Rattle.std.proofs.lemmas.Bool.{and_parts, and_from, eqb-true}
use Rattle.std.proofs.lemmas.List.{length-append}
use Rattle.byte_grammar.specs.Classes.{is_line_byte}
use Rattle.byte_grammar.proofs.ListLaws.{all_joined}
use Rattle.rewrite_script.specs.Lines.{is_number}
use Rattle.rewrite_script.specs.tools.LineWalk.{◌>>=◌, cut_if, cut_read, spaced, first_more, word_if, words_read, number_read, numbers_read, sizes_read}
use Rattle.rewrite_script.proofs.Cuts.{cut_found, cut_none, cut_sound}
use Rattle.rewrite_script.proofs.Exactness.{IsExact, bind_some, some_is}
use Rattle.rewrite_script.proofs.Numerals.{number_exact, number_free}

-- ---- words

cut_words : (c : ℕ) (rest : List ℕ) (b : Bool) (later : Option (List ℕ × List ℕ)) → ((x : List ℕ × List ℕ) → later ≡ Some x → words_read rest ≡ x.0 ∷ words_read x.1)
    → (x : List ℕ × List ℕ) → cut_if b c rest later ≡ Some x → word_if b c (words_read rest) ≡ x.0 ∷ words_read x.1
cut_words c rest true later again x e =
    let same : ([], rest) ≡ x = cc in
    ap (λ (y : List ℕ × List ℕ). y.0 ∷ words_read y.1) same
cut_words c rest false None again x e = absurd cc
cut_words c rest false (Some y) again x e =
    let same : (c ∷ y.0, y.1) ≡ x = cc in
    ap (first_more c) (again y refl) ∙ ap (λ (z : List ℕ × List ℕ). z.0 ∷ words_read z.1) same

pub words_cut : (bytes : List ℕ) (x : List ℕ × List ℕ) → cut_read 32 bytes ≡ Some x → words_read bytes ≡ x.0 ∷ words_read x.1
unfolding words_read cut_read
words_cut [] x e = absurd cc
words_cut (c ∷ rest) x e = cut_words c rest (eqb c 32) (cut_read 32 rest) (words_cut rest) x e

last_word : (c : ℕ) (rest : List ℕ) (b : Bool) (later : Option (List ℕ × List ℕ)) → (later ≡ None → words_read rest ≡ rest ∷ []) → cut_if b c rest later ≡ None → word_if b c (words_read rest) ≡ (c ∷ rest) ∷ []
last_word c rest true later again e = absurd cc
last_word c rest false None again e = ap (first_more c) (again refl)
last_word c rest false (Some y) again e = absurd cc

pub words_last : (bytes : List ℕ) → cut_read 32 bytes ≡ None → words_read bytes ≡ bytes ∷ []
unfolding words_read cut_read
words_last [] e = refl
words_last (c ∷ rest) e = last_word c rest (eqb c 32) (cut_read 32 rest) (words_last rest) e

some_words : (bytes : List ℕ) → 0 < length (words_read bytes)
unfolding words_read
some_words [] = omega arith
some_words (c ∷ rest) = go (eqb c 32) (words_read rest)
  where
    go : (b : Bool) (words : List (List ℕ)) → 0 < length (word_if b c words)
    go true words = omega arith
    go false [] = omega arith
    go false (word ∷ words) = omega arith

spaced_word : (c : ℕ) (b : Bool) (words : List (List ℕ)) → eqb c 32 ≡ b → 0 < length words → spaced (word_if b c words) ≡ c ∷ spaced words
spaced_word c b [] is some = absurd (omega arith)
spaced_word c true (word ∷ words) is some = ap (λ (d : ℕ). d ∷ spaced (word ∷ words)) (sym (eqb-true c 32 is))
spaced_word c false (word ∷ []) is some = refl
spaced_word c false (word ∷ next ∷ words) is some = refl

spaced_words : (bytes : List ℕ) → spaced (words_read bytes) ≡ bytes
unfolding words_read
spaced_words [] = refl
spaced_words (c ∷ rest) = spaced_word c (eqb c 32) (words_read rest) refl (some_words rest) ∙ ap (λ (y : List ℕ). c ∷ y) (spaced_words rest)

-- ---- the number of each word

numbers_sound : (words : List (List ℕ)) (sizes : List ℕ) → numbers_read words ≡ Some sizes → (list_all is_number sizes ≡ true) × (words ≡ map decimal sizes)
unfolding numbers_read
numbers_sound [] sizes e =
    let same : [] ≡ sizes = some_is _ _ e in
    (ap (list_all is_number) (sym same), ap (λ (y : List ℕ). map decimal y) same)
numbers_sound (word ∷ words) sizes e =
    let n = bind_some (number_read word) (λ n. numbers_read words >>= λ ns. Some (n ∷ ns)) sizes e in
    let ns = bind_some (numbers_read words) (λ ns. Some (n.0 ∷ ns)) sizes n.2 in
    let one = number_exact.sound word n.0 n.1 in
    let more = numbers_sound words ns.0 ns.1 in
    let same : n.0 ∷ ns.0 ≡ sizes = some_is _ _ ns.2 in
    subst (λ (y : List ℕ). (list_all is_number y ≡ true) × (word ∷ words ≡ map decimal y)) same
    (and_from (is_number n.0) (list_all is_number ns.0) one.0 more.0, λ i. one.1 i ∷ more.1 i)

numbers_complete : (sizes : List ℕ) → list_all is_number sizes ≡ true → numbers_read (map decimal sizes) ≡ Some sizes
unfolding numbers_read
numbers_complete [] all = refl
numbers_complete (n ∷ ns) all =
    let both = and_parts (is_number n) (list_all is_number ns) all in
    ap (λ (o : Option ℕ). o >>= λ k. numbers_read (map decimal ns) >>= λ ks. Some (k ∷ ks)) (number_exact.complete n both.0)
    ∙ ap (λ (o : Option (List ℕ)). o >>= λ ks. Some (n ∷ ks)) (numbers_complete ns both.1)

-- ---- sizes

-- one size or more, each of few digits
abbrev pub some_sizes : List ℕ → Bool
some_sizes [] = false
some_sizes (n ∷ ns) = list_all is_number (n ∷ ns)

is_some : (words : List (List ℕ)) (sizes : List ℕ) → 0 < length words → words ≡ map decimal sizes → list_all is_number sizes ≡ true → some_sizes sizes ≡ true
is_some words [] some e all = absurd (omega (arith, some, ap (λ (y : List (List ℕ)). length y) e))
is_some words (n ∷ ns) some e all = all

words_spaced : (n : ℕ) (ns : List ℕ) → list_all is_number (n ∷ ns) ≡ true → words_read (spaced (map decimal (n ∷ ns))) ≡ map decimal (n ∷ ns)
words_spaced n [] all =
    let both = and_parts (is_number n) true all in
    words_last (decimal n) (cut_none 32 (decimal n) (number_free n both.0))
words_spaced n (m ∷ ns) all =
    let both = and_parts (is_number n) (list_all is_number (m ∷ ns)) all in
    words_cut (spaced (map decimal (n ∷ m ∷ ns))) (decimal n, spaced (map decimal (m ∷ ns))) (cut_found 32 (decimal n) 32 (spaced (map decimal (m ∷ ns))) (number_free n both.0) refl)
    ∙ ap (λ (y : List (List ℕ)). decimal n ∷ y) (words_spaced m ns both.1)

sizes_sound : (bytes sizes : List ℕ) → sizes_read bytes ≡ Some sizes → (some_sizes sizes ≡ true) × (bytes ≡ spaced (map decimal sizes))
unfolding sizes_read
sizes_sound bytes sizes e =
    let s = numbers_sound (words_read bytes) sizes e in
    (is_some (words_read bytes) sizes (some_words bytes) s.1 s.0, sym (spaced_words bytes) ∙ ap spaced s.1)

sizes_complete : (sizes : List ℕ) → some_sizes sizes ≡ true → sizes_read (spaced (map decimal sizes)) ≡ Some sizes
unfolding sizes_read
sizes_complete [] is = absurd cc
sizes_complete (n ∷ ns) is = ap numbers_read (words_spaced n ns is) ∙ numbers_complete (n ∷ ns) is

sizes_clean : (sizes : List ℕ) → some_sizes sizes ≡ true → list_all is_line_byte (spaced (map decimal sizes)) ≡ true
sizes_clean [] is = absurd cc
sizes_clean (n ∷ []) is = number_exact.clean n (and_parts (is_number n) true is).0
sizes_clean (n ∷ m ∷ ns) is =
    let both = and_parts (is_number n) (list_all is_number (m ∷ ns)) is in
    all_joined is_line_byte (decimal n) (32 ∷ spaced (map decimal (m ∷ ns))) (number_exact.clean n both.0) (sizes_clean (m ∷ ns) both.1)

pub sizes_exact : IsExact (λ sizes. spaced (map decimal sizes)) some_sizes sizes_read
sizes_exact = record {
  sound = sizes_sound;
  complete = sizes_complete;
  clean = sizes_clean;
}

-- ---- what the code reads, word after word

-- these sizes, and then those that are read
abbrev pub after_sizes : List ℕ → Option (List ℕ) → Option (List ℕ)
after_sizes done read = read >>= λ ns. Some (done ++ ns)

pub after_none : (read : Option (List ℕ)) → read ≡ after_sizes [] read
after_none None = refl
after_none (Some ns) = refl

sizes_cut : (rest word after : List ℕ) → cut_read 32 rest ≡ Some (word, after) → sizes_read rest ≡ (number_read word >>= λ n. sizes_read after >>= λ ns. Some (n ∷ ns))
unfolding sizes_read numbers_read
sizes_cut rest word after e = ap numbers_read (words_cut rest (word, after) e)

sizes_last : (rest : List ℕ) → cut_read 32 rest ≡ None → sizes_read rest ≡ (number_read rest >>= λ n. Some (n ∷ []))
unfolding sizes_read numbers_read
sizes_last rest e = ap numbers_read (words_last rest e)

one_more : (done : List ℕ) (n : ℕ) (read : Option (List ℕ)) → after_sizes done (read >>= λ ns. Some (n ∷ ns)) ≡ after_sizes (done ++ n ∷ []) read
one_more done n None = refl
one_more done n (Some ns) = ap (λ (y : List ℕ). Some y) (sym (append_assoc done (n ∷ []) ns))

pub size_more : (done rest word after : List ℕ) (n : ℕ) → cut_read 32 rest ≡ Some (word, after) → number_read word ≡ Some n → after_sizes done (sizes_read rest) ≡ after_sizes (done ++ n ∷ []) (sizes_read after)
size_more done rest word after n cut is =
    ap (after_sizes done) (sizes_cut rest word after cut ∙ ap (λ (o : Option ℕ). o >>= λ k. sizes_read after >>= λ ns. Some (k ∷ ns)) is)
    ∙ one_more done n (sizes_read after)

pub size_missing : (done rest word after : List ℕ) → cut_read 32 rest ≡ Some (word, after) → number_read word ≡ None → after_sizes done (sizes_read rest) ≡ None
size_missing done rest word after cut is =
    ap (after_sizes done) (sizes_cut rest word after cut ∙ ap (λ (o : Option ℕ). o >>= λ k. sizes_read after >>= λ ns. Some (k ∷ ns)) is)

pub last_size : (done rest : List ℕ) (n : ℕ) → cut_read 32 rest ≡ None → number_read rest ≡ Some n → after_sizes done (sizes_read rest) ≡ Some (done ++ n ∷ [])
last_size done rest n cut is = ap (after_sizes done) (sizes_last rest cut ∙ ap (λ (o : Option ℕ). o >>= λ k. Some (k ∷ [])) is)

pub no_last_size : (done rest : List ℕ) → cut_read 32 rest ≡ None → number_read rest ≡ None → after_sizes done (sizes_read rest) ≡ None
no_last_size done rest cut is = ap (after_sizes done) (sizes_last rest cut ∙ ap (λ (o : Option ℕ). o >>= λ k. Some (k ∷ [])) is)

pub shorter_after : (rest word after : List ℕ) → cut_read 32 rest ≡ Some (word, after) → length after < length rest
shorter_after rest word after e = omega (arith, length-append word (32 ∷ after), ap (λ (y : List ℕ). length y) (cut_sound 32 rest (word, after) e))
