-- Two parts, one after the other, are decided where each is.
use Rattle.std.proofs.Common.{◌≡◌, ℕ, ◌+◌, List, drop, sym, subst, ap, ◌∙◌, inl, inr}
use Rattle.msg_body.specs.tools.Decided.{IsDecided, IsFaultAs, AreParts, IsFaultOfParts, AreOpen}

moved : {V : Type 0} (P : V → ℕ → Type 0) (part other : V) (n m : ℕ) → (part ≡ other) × (n ≡ m) → P part n → P other m
moved P part other n m same is = subst (P other) same.1 (subst (λ x. P x n) same.0 is)

-- a fault in other terms
pub renamed : {V F G : Type 0} (told : F → G) (IsPart : V → ℕ → Type 0) (IsFault : F → Type 0) (IsOpen : Type 0)
    → IsDecided IsPart IsFault IsOpen → IsDecided IsPart (IsFaultAs told IsFault) IsOpen
renamed told IsPart IsFault IsOpen d = record {
  one = d.one;
  one_fault = λ f g a b. a.2 ∙ ap told (d.one_fault a.0 b.0 a.1 b.1) ∙ sym b.2;
  no_fault = λ part n f is a. d.no_fault part n a.0 is a.1;
  open_fault = λ f more a. d.open_fault a.0 more a.1;
  open_part = d.open_part;
}

pub then_decided : {V W G : Type 0} (IsPart : V → ℕ → List ℕ → Type 0) (IsFault : G → Type 0) (IsOpen : Type 0)
    (IsNext : V → ℕ → List ℕ → W → ℕ → Type 0) (IsNextFault : V → ℕ → List ℕ → G → Type 0) (IsNextOpen : V → ℕ → List ℕ → Type 0)
    (bytes : List ℕ)
    → IsDecided (λ part n. IsPart part n bytes) IsFault IsOpen
    → ((part : V) (n : ℕ) → IsPart part n bytes → IsDecided (IsNext part n (drop n bytes)) (IsNextFault part n (drop n bytes)) (IsNextOpen part n (drop n bytes)))
    → IsDecided (AreParts IsPart IsNext bytes) (IsFaultOfParts IsPart IsFault IsNextFault bytes) (AreOpen IsPart IsOpen IsNextOpen bytes)
then_decided {V} {W} {G} IsPart IsFault IsOpen IsNext IsNextFault IsNextOpen bytes d next = record {
  one = one;
  one_fault = one_fault;
  no_fault = no_fault;
  open_fault = open_fault;
  open_part = open_part;
}
  where
    one : (parts others : V × W) (n m : ℕ) → AreParts IsPart IsNext bytes parts n → AreParts IsPart IsNext bytes others m → (parts ≡ others) × (n ≡ m)
    one parts others n m a b =
        let same = d.one others.0 parts.0 b.count a.count b.first a.first in
        let second = moved (λ part used. IsNext part used (drop used bytes) others.1 b.rest) others.0 parts.0 b.count a.count same b.second in
        let rests = (next parts.0 a.count a.first).one parts.1 others.1 a.rest b.rest a.second second in
        (λ i. (sym same.0 i, rests.0 i), a.used_is ∙ (λ i. sym same.1 i + rests.1 i) ∙ sym b.used_is)

    one_fault : (f g : G) → IsFaultOfParts IsPart IsFault IsNextFault bytes f → IsFaultOfParts IsPart IsFault IsNextFault bytes g → f ≡ g
    one_fault f g (inl a) (inl b) = d.one_fault f g a b
    one_fault f g (inl a) (inr b) = absurd (d.no_fault b.part b.used f b.is a)
    one_fault f g (inr a) (inl b) = absurd (d.no_fault a.part a.used g a.is b)
    one_fault f g (inr a) (inr b) =
        let same = d.one b.part a.part b.used a.used b.is a.is in
        (next a.part a.used a.is).one_fault f g a.holds (moved (λ part used. IsNextFault part used (drop used bytes) g) b.part a.part b.used a.used same b.holds)

    no_fault : (parts : V × W) (n : ℕ) (f : G) → AreParts IsPart IsNext bytes parts n → ¬ IsFaultOfParts IsPart IsFault IsNextFault bytes f
    no_fault parts n f a (inl b) = d.no_fault parts.0 a.count f a.first b
    no_fault parts n f a (inr b) =
        let same = d.one b.part parts.0 b.used a.count b.is a.first in
        (next parts.0 a.count a.first).no_fault parts.1 a.rest f a.second (moved (λ part used. IsNextFault part used (drop used bytes) f) b.part parts.0 b.used a.count same b.holds)

    open_fault : (f : G) → AreOpen IsPart IsOpen IsNextOpen bytes → ¬ IsFaultOfParts IsPart IsFault IsNextFault bytes f
    open_fault f (inl o) (inl b) = d.open_fault f o b
    open_fault f (inl o) (inr b) = d.open_part b.part b.used o b.is
    open_fault f (inr o) (inl b) = d.no_fault o.part o.used f o.is b
    open_fault f (inr o) (inr b) =
        let same = d.one b.part o.part b.used o.used b.is o.is in
        (next o.part o.used o.is).open_fault f o.holds (moved (λ part used. IsNextFault part used (drop used bytes) f) b.part o.part b.used o.used same b.holds)

    open_part : (parts : V × W) (n : ℕ) → AreOpen IsPart IsOpen IsNextOpen bytes → ¬ AreParts IsPart IsNext bytes parts n
    open_part parts n (inl o) a = d.open_part parts.0 a.count o a.first
    open_part parts n (inr o) a =
        let same = d.one o.part parts.0 o.used a.count o.is a.first in
        (next parts.0 a.count a.first).open_part parts.1 a.rest (moved (λ part used. IsNextOpen part used (drop used bytes)) o.part parts.0 o.used a.count same o.holds) a.second

-- a whole that is made of parts in one way
pub as_whole : {V W F : Type 0} (join : V → W) (IsPart : V → ℕ → Type 0) (IsWhole : W → ℕ → Type 0) (IsFault : F → Type 0) (IsOpen : Type 0)
    → IsDecided IsPart IsFault IsOpen
    → ((whole : W) (n : ℕ) → IsWhole whole n → (part : V) × IsPart part n × (whole ≡ join part))
    → IsDecided IsWhole IsFault IsOpen
as_whole {V} {W} {F} join IsPart IsWhole IsFault IsOpen d made = record {
  one = one;
  one_fault = d.one_fault;
  no_fault = λ whole n f is. let p = made whole n is in d.no_fault p.0 n f p.1;
  open_fault = d.open_fault;
  open_part = λ whole n more is. let p = made whole n is in d.open_part p.0 n more p.1;
}
  where
    one : (whole other : W) (n m : ℕ) → IsWhole whole n → IsWhole other m → (whole ≡ other) × (n ≡ m)
    one whole other n m a b =
        let p = made whole n a in
        let q = made other m b in
        let same = d.one p.0 q.0 n m p.1 q.1 in
        (p.2 ∙ ap join same.0 ∙ sym q.2, same.1)
