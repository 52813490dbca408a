-- The tests of equality decide it.
use Rattle.std.proofs.Common.{◌≡◌, true, false, refl, Decides, ap}
use Rattle.std.proofs.lemmas.Bool.{and_parts, false≢true}
use Rattle.std.specs.Str.{bytes_eq}
use Rattle.sfv_text.specs.declared.pair.Pair.{Pair}
use Rattle.std.proofs.lemmas.Bool.Decides.{Decides-int_eq}
use Rattle.std.proofs.lemmas.Slice.Eq.{bytes_eq-Decides}
use Rattle.sfv_text.specs.declared.value.BareItem.{BareItem}
use Rattle.sfv_text.specs.declared.value.BareItem.TheVariants.{Integer, Decimal, Str, Token, Bytes, Bool as Boolean, Date, Display}
use Rattle.sfv_text.specs.Equality.{is_equal_bare, is_equal_param}

pub bare_equal : (a b : BareItem) → Decides (is_equal_bare a b) (a ≡ b)
bare_equal (Integer a) (Integer b) = let d = Decides-int_eq a b in ((λ h. ap Integer (d.0 h)), (λ e. d.1 cc))
bare_equal (Decimal a) (Decimal b) = let d = Decides-int_eq a b in ((λ h. ap Decimal (d.0 h)), (λ e. d.1 cc))
bare_equal (Str a) (Str b) = let d = bytes_eq-Decides a b in ((λ h. ap Str (d.0 h)), (λ e. d.1 cc))
bare_equal (Token a) (Token b) = let d = bytes_eq-Decides a b in ((λ h. ap Token (d.0 h)), (λ e. d.1 cc))
bare_equal (Bytes a) (Bytes b) = let d = bytes_eq-Decides a b in ((λ h. ap Bytes (d.0 h)), (λ e. d.1 cc))
bare_equal (Boolean true) (Boolean true) = ((λ h. refl), (λ e. refl))
bare_equal (Boolean false) (Boolean false) = ((λ h. refl), (λ e. refl))
bare_equal (Date a) (Date b) = let d = Decides-int_eq a b in ((λ h. ap Date (d.0 h)), (λ e. d.1 cc))
bare_equal (Display a) (Display b) = let d = bytes_eq-Decides a b in ((λ h. ap Display (d.0 h)), (λ e. d.1 cc))
bare_equal a b = ((λ h. absurd (false≢true h)), (λ e. absurd cc))

pub param_equal : (a b : Pair BareItem) → Decides (is_equal_param a b) (a ≡ b)
param_equal a b =
    let keys = bytes_eq-Decides a.key b.key in
    let values = bare_equal a.value b.value in
    let there = λ (h : is_equal_param a b ≡ true).
    let parts = and_parts (bytes_eq a.key b.key) (is_equal_bare a.value b.value) h in
    let k : a.key ≡ b.key = keys.0 parts.0 in
    let v : a.value ≡ b.value = values.0 parts.1 in
    let same : a ≡ b = λ i. record { key = k i; value = v i } in
    same in
    (there, (λ e. rw (keys.1 (ap (λ (p : Pair BareItem). p.key) e), values.1 (ap (λ (p : Pair BareItem). p.value) e)) refl))
