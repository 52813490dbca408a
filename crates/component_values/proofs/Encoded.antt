-- A text in base64, of which bytes wait.
use Rattle.std.proofs.Common.{◌≡◌, ℕ, List, [], ◌++◌, append_assoc, append-nil, refl, sym, ap, subst, ◌∙◌}
use Rattle.base64.specs.Engines.{standard}
use Rattle.base64.specs.GeneralPurpose.{encode_of}
use Rattle.base64.proofs.EngineFacts.{encode_of-nil, encode_of-append}
use Rattle.component_values.specs.declared.byte_sequence.Carry.{Carry}
use Rattle.component_values.specs.declared.byte_sequence.Carry.TheVariants.{Nothing}
use Rattle.component_values.specs.tools.Encoding.{carried, IsEncodedUpTo}

module _ (Absorbed : List ℕ → Type 0) (text : List ℕ) where
  -- nothing is encoded yet
  pub none_yet : Absorbed text → IsEncodedUpTo Absorbed Nothing text []
  none_yet fed = record { groups = []; whole = refl; joined = refl; fed = subst Absorbed (sym (ap (λ (t : List ℕ). text ++ t) (encode_of-nil standard) ∙ append-nil text)) fed }

  -- the last symbols
  pub last_symbols : (carry : Carry) (done : List ℕ) → (is : IsEncodedUpTo Absorbed carry text done)
      → (text ++ encode_of standard is.groups) ++ encode_of standard (carried carry) ≡ text ++ encode_of standard done
  last_symbols carry done is =
      append_assoc text (encode_of standard is.groups) (encode_of standard (carried carry))
      ∙ ap (λ (t : List ℕ). text ++ t) (sym (encode_of-append standard is.groups (carried carry) is.whole) ∙ ap (encode_of standard) (sym is.joined))
