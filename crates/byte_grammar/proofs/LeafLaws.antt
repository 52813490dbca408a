-- Laws of the readers of one byte, of bytes of a class, and of words.
use Rattle.std.proofs.Common.{take, drop, ◌-◌, cond, not, ltb, ◌≡◌, ℕ, zero, suc, ◌≤◌, ◌<◌, Bool, true, false, List, [], ◌∷◌, ◌++◌, length, Ok, Err, refl, sym, ap, subst, ◌∙◌, arith}
use Rattle.std.proofs.lemmas.List.{length-append, take-append-drop, length-take, length-drop, take_at, drop_at}
use Rattle.std.proofs.lemmas.List.Folds.{list_all-append}
use Rattle.std.proofs.lemmas.Bool.{ltb-false, ltb-true, le-ltb}
use Rattle.std.specs.List.{list_all}
use Rattle.byte_grammar.specs.Language.{Begins, IsRun, IsWord}
use Rattle.byte_grammar.specs.tools.Languages.{Then, IsByte, IsAll, Mapped}
use Rattle.byte_grammar.specs.Walk.{byte_if, byte_read, run_length, cut_at, run_read, all_read, word_read}
use Rattle.byte_grammar.specs.tools.Walks.{left, Next}
use Rattle.byte_grammar.proofs.Laws.{Meets, the_ok, and_is, meets_then, not_err, ok_is, meets_map, meets_same, any_next}

-- ---- one byte of a class

pub meets_byte : (class : ℕ → Bool) (c : ℕ) → class c ≡ true → (F : ℕ → ℕ → Bool) → Meets (IsByte class) F (byte_read class)
unfolding byte_read
meets_byte class c passes F = record { ok = ok; err = err; only = only; far = far }
  where
    give : (b : Bool) (d : ℕ) (bytes : List ℕ) → class d ≡ b → (v : ℕ) (rest : List ℕ) → byte_if b d bytes ≡ Ok (v, rest) → (x : List ℕ) × (d ∷ bytes ≡ x ++ rest) × IsByte class x v
    give false d bytes is v rest e = absurd cc
    give true d bytes is v rest e =
        let pair = ok_is (d, bytes) (v, rest) e in
        (d ∷ [], ap (λ (a : ℕ × List ℕ). d ∷ a.1) pair, record { same = ap (λ (a : ℕ × List ℕ). a.0 ∷ []) pair; passes = subst (λ (a : ℕ × List ℕ). class a.0 ≡ true) pair is })

    ok : (bytes : List ℕ) (v : ℕ) (rest : List ℕ) → byte_read class bytes ≡ Ok (v, rest) → (x : List ℕ) × (bytes ≡ x ++ rest) × IsByte class x v
    ok [] v rest e = absurd cc
    ok (d ∷ bytes) v rest e = give (class d) d bytes refl v rest e

    miss : (b : Bool) (d : ℕ) (bytes : List ℕ) (n : ℕ) → byte_if b d bytes ≡ Err n → length (d ∷ bytes) ≡ n
    miss false d bytes n e = cc
    miss true d bytes n e = absurd cc

    some : Begins (IsByte class) []
    some = (c ∷ [], c, record { same = refl; passes = passes })

    err : (bytes : List ℕ) (n : ℕ) → byte_read class bytes ≡ Err n → (x rest : List ℕ) × (bytes ≡ x ++ rest) × (length rest ≡ n) × Begins (IsByte class) x
    err [] n e = ([], [], refl, cc, some)
    err (d ∷ bytes) n e = ([], d ∷ bytes, refl, miss (class d) d bytes n e, some)

    only : (x r : List ℕ) (v : ℕ) → IsByte class x v → Next (F v) r → byte_read class (x ++ r) ≡ Ok (v, r)
    only x r v h after = ap (λ (y : List ℕ). byte_read class (y ++ r)) h.same ∙ ap (λ (b : Bool). byte_if b v r) h.passes

    less : (b : Bool) (d : ℕ) (r : List ℕ) → left (byte_if b d r) ≤ length (d ∷ r)
    less false d r = omega arith
    less true d r = omega arith

    far : (x more r : List ℕ) (v : ℕ) → IsByte class (x ++ more) v → left (byte_read class (x ++ r)) ≤ length r
    far [] more [] v h = omega arith
    far [] more (d ∷ r) v h = less (class d) d r
    far (d ∷ x) more r v h =
        let is : d ≡ v = cc (h.same) in
        let tail : x ++ more ≡ [] = cc (h.same) in
        let passes : class d ≡ true = ap class is ∙ h.passes in
        let none : x ≡ [] = empty_prefix x more tail in
        subst (λ (b : Bool). left (byte_if b d (x ++ r)) ≤ length r) (sym passes) (subst (λ (y : List ℕ). length (y ++ r) ≤ length r) (sym none) (omega arith))
      where
        empty_prefix : (x more : List ℕ) → x ++ more ≡ [] → x ≡ []
        empty_prefix [] more e = refl
        empty_prefix (d ∷ x) more e = absurd cc

-- ---- bytes of a class

module _ (class : ℕ → Bool) where
  run_all : (most : ℕ) (bytes : List ℕ) → list_all class (take (run_length class most bytes) bytes) ≡ true
  unfolding run_length
  run_all zero bytes = refl
  run_all (suc n) [] = refl
  run_all (suc n) (c ∷ bytes) = go (class c) refl (run_all n bytes)
    where
      go : (b : Bool) → class c ≡ b → list_all class (take (run_length class n bytes) bytes) ≡ true → list_all class (take (cond b (suc (run_length class n bytes)) 0) (c ∷ bytes)) ≡ true
      go true is rest = rw is rest
      go false is rest = refl

  run_within : (most : ℕ) (bytes : List ℕ) → (run_length class most bytes ≤ length bytes) × (run_length class most bytes ≤ most)
  unfolding run_length
  run_within zero bytes = (omega arith, omega arith)
  run_within (suc n) [] = (omega arith, omega arith)
  run_within (suc n) (c ∷ bytes) = go (class c) (run_within n bytes)
    where
      go : (b : Bool) → (run_length class n bytes ≤ length bytes) × (run_length class n bytes ≤ n) → (cond b (suc (run_length class n bytes)) 0 ≤ length (c ∷ bytes)) × (cond b (suc (run_length class n bytes)) 0 ≤ suc n)
      go true le = (omega arith, omega arith)
      go false le = (omega arith, omega arith)

  run_far : (x r : List ℕ) (most : ℕ) → list_all class x ≡ true → length x ≤ most → length x ≤ run_length class most (x ++ r)
  unfolding run_length
  run_far [] r most all le = omega arith
  run_far (c ∷ x) r zero all le = absurd (omega arith)
  run_far (c ∷ x) r (suc n) all le =
      let both = and_is (class c) (list_all class x) all in
      let more = run_far x r n both.1 (omega arith) in
      subst (λ (b : Bool). suc (length x) ≤ cond b (suc (run_length class n (x ++ r))) 0) (sym both.0) (omega arith)

  run_exact : (x r : List ℕ) (most : ℕ) → list_all class x ≡ true → length x ≤ most → Next (λ c. not (class c)) r → run_length class most (x ++ r) ≡ length x
  unfolding run_length
  run_exact [] r zero all le after = refl
  run_exact [] [] (suc n) all le after = refl
  run_exact [] (c ∷ r) (suc n) all le after = go (class c) after
    where
      go : (b : Bool) → not b ≡ true → cond b (suc (run_length class n r)) 0 ≡ 0
      go true e = absurd cc
      go false e = refl
  run_exact (c ∷ x) r zero all le after = absurd (omega arith)
  run_exact (c ∷ x) r (suc n) all le after =
      let both = and_is (class c) (list_all class x) all in
      let more = run_exact x r n both.1 (omega arith) after in
      subst (λ (b : Bool). cond b (suc (run_length class n (x ++ r))) 0 ≡ suc (length x)) (sym both.0) (ap suc more)

  filled : (c : ℕ) → class c ≡ true → (n : ℕ) → (y : List ℕ) × (list_all class y ≡ true) × (length y ≡ n)
  filled c passes zero = ([], refl, refl)
  filled c passes (suc n) = let y = filled c passes n in (c ∷ y.0, rw (passes, y.1) refl, ap suc y.2)

  pub meets_run : (lo hi : ℕ) (c : ℕ) → lo ≤ hi → class c ≡ true → Meets (IsRun class lo hi) (λ _ c. not (class c)) (run_read class lo hi)
  unfolding run_read
  meets_run lo hi c le passes = record { ok = ok; err = err; only = only; far = far }
    where
      shown : (bytes : List ℕ) (n : ℕ) (b : Bool) → ltb n lo ≡ b → n ≡ run_length class hi bytes → (v rest : List ℕ) → cond b (Err (length bytes - n)) (cut_at n bytes) ≡ Ok (v, rest)
          → (x : List ℕ) × (bytes ≡ x ++ rest) × IsRun class lo hi x v
      shown bytes n true is same v rest e = absurd cc
      shown bytes n false is same v rest e =
          let within = run_within hi bytes in
          let pair : (take n bytes, drop n bytes) ≡ (v, rest) = ok_is _ _ e in
          let long : lo ≤ n = ltb-false _ _ is in
          let whole : IsRun class lo hi (take n bytes) (take n bytes) = record {
            same = refl;
            passes = subst (λ (k : ℕ). list_all class (take k bytes) ≡ true) (sym same) (run_all hi bytes);
            least = omega (arith, length-take n bytes, within.0, same);
            most = omega (arith, length-take n bytes, within.1, same);
          } in
          (take n bytes, sym (take-append-drop n bytes) ∙ ap (λ (a : List ℕ × List ℕ). take n bytes ++ a.1) pair, subst (λ (a : List ℕ × List ℕ). IsRun class lo hi (take n bytes) a.0) pair whole)

      ok : (bytes : List ℕ) (v : List ℕ) (rest : List ℕ) → run_read class lo hi bytes ≡ Ok (v, rest) → (x : List ℕ) × (bytes ≡ x ++ rest) × IsRun class lo hi x v
      ok bytes v rest e = shown bytes (run_length class hi bytes) (ltb (run_length class hi bytes) lo) refl refl v rest e

      short : (bytes : List ℕ) (n : ℕ) (b : Bool) → ltb n lo ≡ b → n ≡ run_length class hi bytes → (k : ℕ) → cond b (Err (length bytes - n)) (cut_at n bytes) ≡ Err k
          → (x rest : List ℕ) × (bytes ≡ x ++ rest) × (length rest ≡ k) × Begins (IsRun class lo hi) x
      short bytes n true is same k e =
          let within = run_within hi bytes in
          let less : n < lo = ltb-true _ _ is in
          let more = filled c passes (lo - n) in
          let all : list_all class (take n bytes) ≡ true = subst (λ (k : ℕ). list_all class (take k bytes) ≡ true) (sym same) (run_all hi bytes) in
          let count : length bytes - n ≡ k = cc in (
            take n bytes,
            drop n bytes,
            sym (take-append-drop n bytes),
            length-drop n bytes ∙ count,
            (
              more.0,
              take n bytes ++ more.0,
              record {
                same = refl;
                passes = list_all-append class (take n bytes) more.0 ∙ rw (all, more.1) refl;
                least = omega (arith, length-take n bytes, length-append (take n bytes) more.0, more.2, within.0, same);
                most = omega (arith, length-take n bytes, length-append (take n bytes) more.0, more.2, within.0, same);
              },
            ),
          )
      short bytes n false is same k e = absurd (not_err _ _ e)

      err : (bytes : List ℕ) (k : ℕ) → run_read class lo hi bytes ≡ Err k → (x rest : List ℕ) × (bytes ≡ x ++ rest) × (length rest ≡ k) × Begins (IsRun class lo hi) x
      err bytes k e = short bytes (run_length class hi bytes) (ltb (run_length class hi bytes) lo) refl refl k e

      only : (x r v : List ℕ) → IsRun class lo hi x v → Next (λ c. not (class c)) r → run_read class lo hi (x ++ r) ≡ Ok (v, r)
      only x r v h after =
          let at : run_length class hi (v ++ r) ≡ length v = run_exact v r hi h.passes h.most after in
          ap (λ (y : List ℕ). run_read class lo hi (y ++ r)) h.same
          ∙ ap (λ (n : ℕ). cond (ltb n lo) (Err (length (v ++ r) - n)) (cut_at n (v ++ r))) at
          ∙ ap (λ (b : Bool). cond b (Err (length (v ++ r) - length v)) (cut_at (length v) (v ++ r))) (le-ltb _ _ h.least)
          ∙ ap (λ (a : List ℕ × List ℕ). the_ok a) (λ i. (take_at v r (length v) refl i, drop_at v r (length v) refl i))

      reach : (b : Bool) (n : ℕ) (bytes : List ℕ) → left (cond b (Err (length bytes - n)) (cut_at n bytes)) ≡ length bytes - n
      reach true n bytes = refl
      reach false n bytes = length-drop n bytes

      far : (x more r v : List ℕ) → IsRun class lo hi (x ++ more) v → left (run_read class lo hi (x ++ r)) ≤ length r
      far x more r v h =
          let all : list_all class (x ++ more) ≡ true = ap (list_all class) h.same ∙ h.passes in
          let both = and_is _ _ (sym (list_all-append class x more) ∙ all) in
          let n = run_length class hi (x ++ r) in
          let fits : length x ≤ hi = omega (arith, h.most, ap (λ (y : List ℕ). length y) h.same, length-append x more) in
          omega (arith, reach (ltb n lo) n (x ++ r), run_far x r hi both.0 fits, length-append x r)

  pub meets_all : Meets (IsAll class) (λ _ c. not (class c)) (all_read class)
  unfolding all_read
  meets_all = record { ok = ok; err = λ bytes k e. absurd (not_err _ _ e); only = only; far = far }
    where
      ok : (bytes : List ℕ) (v : List ℕ) (rest : List ℕ) → all_read class bytes ≡ Ok (v, rest) → (x : List ℕ) × (bytes ≡ x ++ rest) × IsAll class x v
      ok bytes v rest e =
          let n = run_length class (length bytes) bytes in
          let pair : (take n bytes, drop n bytes) ≡ (v, rest) = ok_is _ _ e in
          let whole : IsAll class (take n bytes) (take n bytes) = record { same = refl; passes = run_all (length bytes) bytes } in
          (take n bytes, sym (take-append-drop n bytes) ∙ ap (λ (a : List ℕ × List ℕ). take n bytes ++ a.1) pair, subst (λ (a : List ℕ × List ℕ). IsAll class (take n bytes) a.0) pair whole)

      only : (x r v : List ℕ) → IsAll class x v → Next (λ c. not (class c)) r → all_read class (x ++ r) ≡ Ok (v, r)
      only x r v h after =
          let at : run_length class (length (v ++ r)) (v ++ r) ≡ length v = run_exact v r (length (v ++ r)) h.passes (omega (arith, length-append v r)) after in
          ap (λ (y : List ℕ). all_read class (y ++ r)) h.same
          ∙ ap (λ (n : ℕ). cut_at n (v ++ r)) at
          ∙ ap (λ (a : List ℕ × List ℕ). the_ok a) (λ i. (take_at v r (length v) refl i, drop_at v r (length v) refl i))

      far : (x more r v : List ℕ) → IsAll class (x ++ more) v → left (all_read class (x ++ r)) ≤ length r
      far x more r v h =
          let all : list_all class (x ++ more) ≡ true = ap (list_all class) h.same ∙ h.passes in
          let both = and_is _ _ (sym (list_all-append class x more) ∙ all) in
          let n = run_length class (length (x ++ r)) (x ++ r) in
          omega (arith, length-drop n (x ++ r), run_far x r (length (x ++ r)) both.0 (omega (arith, length-append x r)), length-append x r)

-- ---- words

pub meets_word : (first others : ℕ → Bool) (k : ℕ) → first k ≡ true → Meets (IsWord first others) (λ _ c. not (others c)) (word_read first others)
unfolding word_read
meets_word first others k is =
    meets_same
    (meets_then (meets_byte first k is (λ _ _. true)) (λ c. meets_map {G = λ _ c. not (others c)} (meets_all others) (λ (r : List ℕ). c ∷ r) (λ v c h. h))
    (λ x u h. ([], u ∷ [], ([], record { same = refl; passes = refl }, refl)))
    (λ u y v r h after. any_next (y ++ r)))
    (λ x v t. to x t.first t.second t.value t.joined t.spells t.more.0 v t.more.1 t.more.2)
    from
    (λ v c h. h)
  where
    to : (x first_text second : List ℕ) (c : ℕ) → x ≡ first_text ++ second → IsByte first first_text c → (r v : List ℕ) → IsAll others second r → c ∷ r ≡ v → IsWord first others x v
    to x f s c e b r [] a same = absurd cc
    to x f s c e b r (d ∷ v) a same =
        let head : c ≡ d = cc in
        let tail : r ≡ v = cc in
        (cc (e, b.same, a.same), ap first (sym head) ∙ b.passes, ap (list_all others) (sym tail) ∙ a.passes)

    from : (x v : List ℕ) → IsWord first others x v → Then (IsByte first) (λ c. Mapped (λ (r : List ℕ). c ∷ r) (IsAll others)) x v
    from x [] h = absurd h
    from x (c ∷ v) h = record { first = c ∷ []; second = v; value = c; joined = h.0; spells = record { same = refl; passes = h.1 }; more = (v, record { same = refl; passes = h.2 }, refl) }
