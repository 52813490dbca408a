-- What a rewriting makes of a raw value: of the blanks at its ends (RFC 9110 section 5.5) and of
-- its folds (RFC 9112 section 5.2). No rewriting here changes another byte of it.
use Rattle.std.specs.Prelude.{◌≡◌, ℕ, ◌+◌, IsTrue, IsFalse, List, [], ◌∷◌, ◌++◌, if◌then◌else◌, length, reverse, codes}
use Rattle.std.specs.List.{list_all}
use Rattle.std.specs.Str.{byte}
use Rattle.byte_grammar.specs.Classes.{is_blank}
use Rattle.byte_grammar.specs.Language.{starts_in}
use Rattle.msg_head.specs.Values.{has_bytes}
use Rattle.msg_body.specs.Spacing.{ends_in, is_solid, is_spacing}

-- ---- rewritings

-- the raw value is spacing, the core, and spacing, and the core has none at its ends
pub record HasCore (raw core : List ℕ) : Type 0 where
  pub first : List ℕ
  pub last : List ℕ
  pub joined : raw ≡ first ++ (core ++ last)
  pub spacing_first : IsTrue (list_all is_spacing first)
  pub spacing_last : IsTrue (list_all is_spacing last)
  pub begins : IsFalse (starts_in is_spacing core)
  pub ends : IsFalse (ends_in is_spacing core)

-- `pad`: the spacing at the two ends becomes the two texts
abbrev pub IsPadded : List ℕ → List ℕ → List ℕ → List ℕ → Type 0
IsPadded before after raw padded =
    (core : List ℕ) × HasCore raw core × (padded ≡ before ++ (core ++ after))

-- `fold`: the blank at the offset becomes CRLF and these blanks, of which there is one at least
pub record IsFolded (offset : ℕ) (blanks raw folded : List ℕ) : Type 0 where
  pub before : List ℕ
  pub c : ℕ
  pub after : List ℕ
  pub joined : raw ≡ before ++ c ∷ after
  pub there : offset ≡ length before
  pub blank : IsTrue (is_blank c)
  pub some : IsTrue (has_bytes blanks)
  pub folded_is : folded ≡ before ++ (codes "\r\n" ++ (blanks ++ after))

-- `unfold`: all spacing around the CRLF that begins at the offset, and the CRLF, becomes a space
pub record IsUnfolded (offset : ℕ) (raw unfolded : List ℕ) : Type 0 where
  pub before : List ℕ
  pub first : List ℕ
  pub last : List ℕ
  pub after : List ℕ
  pub joined : raw ≡ before ++ (first ++ (codes "\r\n" ++ (last ++ after)))
  pub there : offset ≡ length before + length first
  pub spacing_first : IsTrue (list_all is_spacing first)
  pub spacing_last : IsTrue (list_all is_spacing last)
  pub ends : IsFalse (ends_in is_spacing before)
  pub begins : IsFalse (starts_in is_spacing after)
  pub unfolded_is : unfolded ≡ before ++ byte " " ∷ after

-- ---- spacing at the ends

-- the text from its first byte on that is no spacing
abbrev pub without_first_spacing : List ℕ → List ℕ
without_first_spacing [] = []
without_first_spacing (c ∷ rest) = if is_spacing c then without_first_spacing rest else c ∷ rest

-- the text up to its last byte that is no spacing
abbrev pub without_last_spacing : List ℕ → List ℕ
without_last_spacing text = reverse (without_first_spacing (reverse text))

-- ---- what a signature asks of them

-- a space is at the offset, and a byte that is no spacing before it and after it
pub record IsLoneSpace (offset : ℕ) (raw : List ℕ) : Type 0 where
  pub before : List ℕ
  pub after : List ℕ
  pub joined : raw ≡ before ++ byte " " ∷ after
  pub there : offset ≡ length before
  pub ends : IsTrue (ends_in is_solid before)
  pub begins : IsTrue (starts_in is_solid after)

-- before the byte at the offset is a byte that is no spacing, and after it a space and then such a
-- byte
pub record IsBeforeLoneSpace (offset : ℕ) (raw : List ℕ) : Type 0 where
  pub before : List ℕ
  pub c : ℕ
  pub after : List ℕ
  pub joined : raw ≡ before ++ c ∷ byte " " ∷ after
  pub there : offset ≡ length before
  pub ends : IsTrue (ends_in is_solid before)
  pub begins : IsTrue (starts_in is_solid after)
