-- Readers over lists made of smaller ones. No public clause cites this module.
use Rattle.std.specs.Prelude.{◌≡◌, ℕ, zero, suc, Bool, true, false, List, [], ◌∷◌, ◌++◌, length, Option, Some, None, Result, Ok, Err, IsTrue, if◌then◌else◌}
use Rattle.byte_grammar.specs.Language.{after_all, starts_in}
use Rattle.byte_grammar.specs.Walk.{Reader, ◌>>=◌, all_read}

-- how many bytes were left where it stopped
abbrev pub left : {V : Type 0} → Result (V × List ℕ) ℕ → ℕ
left (Ok x) = length x.1
left (Err n) = n

-- the next byte, if there is one, is one of these
abbrev pub Next : (ℕ → Bool) → List ℕ → Type 0
Next follow [] = Unit {0}
Next follow (c ∷ rest) = IsTrue (follow c)

abbrev pub then_read : {U V : Type 0} → Reader U → (U → Reader V) → Reader V
then_read p q bytes = p bytes >>= λ a. q a.0 a.1

abbrev pub kind_read : {I V : Type 0} → (I → Reader V) → Option I → Reader V
kind_read read None bytes = Err (length bytes)
kind_read read (Some i) bytes = read i bytes

-- the kind that the first byte picks
abbrev pub first_kind : {I : Type 0} → (ℕ → Option I) → List ℕ → Option I
first_kind pick [] = None
first_kind pick (c ∷ rest) = pick c

-- by the first byte
unfoldable pub pick_read : {I V : Type 0} → (ℕ → Option I) → (I → Reader V) → Reader V
pick_read pick read bytes = kind_read read (first_kind pick bytes) bytes

-- one reader where a byte of the class comes, and another where another byte comes
unfoldable pub choose_read : {V : Type 0} → (ℕ → Bool) → Reader V → Reader V → Reader V
choose_read class p q bytes = pick_read (λ c. Some (class c)) (λ b. if b then p else q) bytes

abbrev pub optional_if : {V : Type 0} → Bool → Reader V → Reader (Option V)
optional_if true p bytes = p bytes >>= λ a. Ok (Some a.0, a.1)
optional_if false p bytes = Ok (None, bytes)

-- where a byte of the class comes
unfoldable pub optional_read : {V : Type 0} → (ℕ → Bool) → Reader V → Reader (Option V)
optional_read class p bytes = optional_if (starts_in class bytes) p bytes

-- what a turn and the turns after it give
abbrev pub with_turns : {V : Type 0}
    → Option V → List ℕ → Result (List V × List ℕ) ℕ → Result (List V × List ℕ) ℕ
with_turns None rest others = Ok ([], rest)
with_turns (Some v) rest others = others >>= λ b. Ok (v ∷ b.0, b.1)

unfoldable pub turns_in : {V : Type 0} → ℕ → Reader (Option V) → Reader (List V)
turns_in zero p bytes = Err (length bytes)
turns_in (suc n) p bytes = p bytes >>= λ a. with_turns a.0 a.1 (turns_in n p a.1)

-- turns until one has no value
unfoldable pub turns_read : {V : Type 0} → Reader (Option V) → Reader (List V)
turns_read p bytes = turns_in (suc (length bytes)) p bytes

-- a reader whose turns go on after it
abbrev pub IsLoop : {V : Type 0} → Reader (Option V) → Type 0
IsLoop p =
    (bytes : List ℕ) → turns_read p bytes ≡ (p bytes >>= λ a. with_turns a.0 a.1 (turns_read p a.1))

-- what was read before, and what the rest gives
abbrev pub with_prefix : {V : Type 0}
    → List V → Result (List V × List ℕ) ℕ → Result (List V × List ℕ) ℕ
with_prefix prefix read = read >>= λ b. Ok (prefix ++ b.0, b.1)

abbrev pub with_state : {S V : Type 0}
    → (S → V → S) → S → Result (List V × List ℕ) ℕ → Result (S × List ℕ) ℕ
with_state f s read = read >>= λ b. Ok (after_all f s b.0, b.1)

-- bytes of the class, a text, bytes of the class
unfoldable pub padded_read : {V : Type 0} → (ℕ → Bool) → Reader V → Reader V
padded_read class p bytes = do
  b ← all_read class bytes
  v ← p b.1
  e ← all_read class v.1
  Ok (v.0, e.1)

-- a value after which nothing is
abbrev pub value_at_end : {V : Type 0} → V → List ℕ → Result V ℕ
value_at_end v [] = Ok v
value_at_end v (c ∷ rest) = Err (length (c ∷ rest))

-- a text to its end
unfoldable pub whole_read : {V : Type 0} → Reader V → List ℕ → Result V ℕ
whole_read p bytes = p bytes >>= λ a. value_at_end a.0 a.1

-- how many bytes of a whole text weren't read
abbrev pub unread : {V : Type 0} → Result V ℕ → ℕ
unread (Ok v) = 0
unread (Err n) = n
