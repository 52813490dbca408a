-- Known bytes over more than one call, and the first entry of a name.
use Rattle.std.proofs.Common.{◌≡◌, ℕ, ◌+◌, ◌-◌, ◌≤◌, ◌==◌, if◌then◌else◌, List, ◌∷◌, ◌++◌, Bool, cond, length, take, drop, Option, Some, None, Result, Ok, Err, OnErr, sym, ap, subst, ◌∙◌, arith, length-append}
use Rattle.std.proofs.lemmas.Bool.{ne_eqb}
use Rattle.std.proofs.lemmas.List.{take-append-drop, take_rest, length-take-le, drop-drop, length-drop}
use Rattle.std.proofs.lemmas.Map.Text.{is_eq-slice_cmp}
use Rattle.std.proofs.Math.Seq.{take-add, drop-append_seam, take-append_seam}
use Rattle.std.proofs.KnownBytes.{Appends-trans, Consumes-trans}
use Rattle.std.specs.Io.KnownBytes.{Appends, Consumes, Keeps}
use Rattle.std.specs.Cmp.Lexicographic.{slice_cmp}
use Rattle.std.specs.FinMap.{find}
use Rattle.std.specs.Ordering.{nat_cmp}
use Rattle.std.specs.Str.{bytes_eq}
use Rattle.hms_io.specs.Cause.{one_more}
use Rattle.hms_io.specs.Reading.{LosesPrefix}

-- two writes took the prefix of a text as one
pub appends_more : (a b c : Option (List ℕ)) (text : List ℕ) (i n : ℕ) → Appends a b (take i text)
    → Appends b c (take n (take (length text - i) (drop i text))) → Appends a c (take (i + n) text)
appends_more a b c text i n p q =
    let rest = subst (λ l. Appends b c (take n l)) (take_rest text i) q in
    subst (Appends a c) (sym (take-add i n text)) (Appends-trans a b c _ _ p rest)

-- what was consumed is the prefix that is gone
pub loses_prefix : (a b : Option (List ℕ)) (text : List ℕ) → Consumes a b text → LosesPrefix a b (length text)
loses_prefix None b text p = tt
loses_prefix (Some all) None text p = absurd p
loses_prefix (Some all) (Some rest) text p =
    (omega (arith, ap length p, length-append text rest), ap Some (sym (ap (drop (length text)) p ∙ drop-append_seam text rest)))

-- the same over two reads, the second of n bytes
pub loses_more : (a b c : Option (List ℕ)) (text piece : List ℕ) (n : ℕ) → n ≤ length piece → Consumes a b text
    → Consumes b c (take n piece) → LosesPrefix a c (length text + n)
loses_more a b c text piece n short p q =
    let long : length (text ++ take n piece) ≡ length text + n = length-append text (take n piece) ∙ ap (λ k. length text + k) (length-take-le n piece short) in
    subst (LosesPrefix a c) long (loses_prefix a c _ (Consumes-trans a b c _ _ p q))

-- and so no more than the limit is gone at an error
pub loses_at_most : {T E : Type 0} (result : Result T E) (a b c : Option (List ℕ)) (text piece : List ℕ) (n most : ℕ) → length text + n ≤ most
    → n ≤ length piece → Consumes a b text → Consumes b c (take n piece) → OnErr result ((k : ℕ) × (k ≤ most) × LosesPrefix a c k)
loses_at_most (Ok x) a b c text piece n most within short p q = tt
loses_at_most (Err e) a b c text piece n most within short p q = (length text + n, within, loses_more a b c text piece n short p q)

-- a text was consumed, and then nothing, so no more than the limit is gone
pub loses_kept : {T E : Type 0} (result : Result T E) (a b c : Option (List ℕ)) (text : List ℕ) (most : ℕ) → length text ≤ most
    → Consumes a b text → Keeps b c → OnErr result ((k : ℕ) × (k ≤ most) × LosesPrefix a c k)
loses_kept (Ok x) a b c text most within p q = tt
loses_kept (Err e) None b c text most within p q = (length text, within, tt)
loses_kept (Err e) (Some all) None c text most within p q = absurd p
loses_kept (Err e) (Some all) (Some rest) None text most within p q = absurd q
loses_kept (Err e) (Some all) (Some rest) (Some now) text most within p q =
    (length text, within, subst (λ n. LosesPrefix (Some all) (Some n) (length text)) (sym q) (loses_prefix (Some all) (Some rest) text p))

-- a call that moves a byte isn't idle
pub idle_kept : (before now n : ℕ) → ¬ (n ≡ 0) → now ≡ (if n == 0 then one_more before else before) → now ≡ before
idle_kept before now n some is = rw (ne_eqb n 0 some) at is

-- the first entry of a log is the file, where its name is the one
pub found_first : (name : List ℕ) (first : List ℕ × List ℕ) (rest log : List (List ℕ × List ℕ)) (same : Bool) → log ≡ first ∷ rest
    → same ≡ bytes_eq name first.0 → find (slice_cmp nat_cmp) name log ≡ cond same (Some first.1) (find (slice_cmp nat_cmp) name rest)
found_first name first rest log same is test =
    ap (find (slice_cmp nat_cmp) name) is
    ∙ ap (λ b. cond b (Some first.1) (find (slice_cmp nat_cmp) name rest)) (is_eq-slice_cmp name first.0 ∙ sym test)

-- what a source in memory gives is the prefix of what it has left
pub given_prefix : (bytes prefix more : List ℕ) (at n : ℕ) → at + n ≤ length bytes → prefix ≡ take (at + n - at) (drop at bytes)
    → drop at bytes ≡ take n (prefix ++ more) ++ drop (at + n) bytes
given_prefix bytes prefix more at n within is =
    let count : at + n - at ≡ n = omega arith in
    let prefix_is : prefix ≡ take n (drop at bytes) = is ∙ ap (λ k. take k (drop at bytes)) count in
    let left : n ≤ length (drop at bytes) = omega (arith, length-drop at bytes) in
    let long : length prefix ≡ n = ap length prefix_is ∙ length-take-le n (drop at bytes) left in
    let given : take n (prefix ++ more) ≡ prefix = subst (λ k. take k (prefix ++ more) ≡ prefix) long (take-append_seam prefix more) in
    sym (take-append-drop n (drop at bytes)) ∙ ap (λ l. l ++ drop n (drop at bytes)) (sym (given ∙ prefix_is))
    ∙ ap (λ l. take n (prefix ++ more) ++ l) (drop-drop n at bytes)
