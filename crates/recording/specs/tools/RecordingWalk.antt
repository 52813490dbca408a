-- Readers of recordings over lists, from left to right. No public clause cites this module.
use Rattle.std.specs.Prelude.{ℕ, zero, suc, ◌-◌, ◌==◌, nat_lt, List, [], ◌∷◌, ◌++◌, length, codes, Option, Some, None, Result, Ok, Err, if◌then◌else◌}
use Rattle.std.specs.Str.{byte}
use Rattle.byte_grammar.specs.Walk.{Reader, ◌>>=◌}
use Rattle.byte_grammar.specs.tools.CountedWalk.{literal_read, number_read, counted_read}
use Rattle.byte_grammar.specs.tools.Walks.{turns_read}
use Rattle.recording.specs.declared.limits.TheConstants.{MAX_ITEM_BYTES}
use Rattle.recording.specs.declared.item.Role.{Role}
use Rattle.recording.specs.declared.item.Role.TheVariants.{Request, Response, Related}
use Rattle.recording.specs.declared.word.Word.{Word}
use Rattle.recording.specs.declared.word.Word.TheVariants as word
use Rattle.recording.specs.declared.read.Stop.{Stop}
use Rattle.recording.specs.declared.read.Stop.TheVariants as stop
use Rattle.recording.specs.Items.{message, script, Body, moment, stored, kind_word}
use Rattle.recording.specs.tools.Running.{moment_after}

-- ---- words

-- the text of a word, with the SP or LF after it
abbrev pub word_text : Word → List ℕ
word_text word.At = codes "at "
word_text (word.Message role) = kind_word (message role)
word_text word.Script = kind_word script
word_text word.End = codes "end\n"

-- the role of the word with which `r` and these bytes may begin
unfoldable pub role_at : List ℕ → Role
role_at [] = Request
role_at (b ∷ []) = Request
role_at (b ∷ c ∷ rest) =
    if c == byte "l" then Related else (if c == byte "s" then Response else Request)

-- the one word with which the bytes may begin
unfoldable pub word_at : List ℕ → Option Word
word_at [] = None
word_at (c ∷ rest) =
    if c == byte "a" then Some word.At
    else (if c == byte "s" then Some word.Script
    else (if c == byte "e" then Some word.End
    else (if c == byte "r" then Some (word.Message (role_at rest)) else None)))

-- reads the text of this word, if there is one
abbrev pub word_in : Option Word → Reader Word
word_in None bytes = Err (length bytes)
word_in (Some w) bytes = literal_read (word_text w) bytes >>= λ t. Ok (w, t.1)

-- reads a word
unfoldable pub word_read : Reader Word
word_read bytes = word_in (word_at bytes) bytes

-- ---- numbers

-- a number, and LF
abbrev pub number_line_read : Reader ℕ
number_line_read bytes = number_read (byte "\n") bytes

-- ---- the form of a recording

-- the rest of a line that says how many bytes come, and the bytes
unfoldable pub stored_read : Reader (List ℕ)
stored_read bytes = do
  n ← number_line_read bytes
  counted_read n.0 n.1

-- what comes after the word
unfoldable pub body_read : Word → Reader (Option Body)
body_read word.End bytes = Ok (None, bytes)
body_read word.At bytes = number_line_read bytes >>= λ n. Ok (Some (moment n.0), n.1)
body_read (word.Message role) bytes =
    stored_read bytes >>= λ d. Ok (Some (stored (message role) d.0), d.1)
body_read word.Script bytes = stored_read bytes >>= λ d. Ok (Some (stored script d.0), d.1)

-- an item, or the last line
unfoldable pub turn_read : Reader (Option Body)
turn_read bytes = do
  w ← word_read bytes
  body_read w.0 w.1

-- the first item, and the others
unfoldable pub first_read : Reader (List Body)
first_read bytes = do
  a ← literal_read (codes "at ") bytes
  n ← number_line_read a.1
  t ← turns_read turn_read n.1
  Ok (moment n.0 ∷ t.0, t.1)

-- a recording of any length and order of moments
unfoldable pub form_read : Reader (List Body)
form_read bytes = do
  l ← literal_read (codes "hms-recording 1\n") bytes
  first_read l.1

-- ---- the same with limits and the order of moments

-- one reader, and then more; a failed one ends both
abbrev pub then_step : {A B : Type 0} → Result A ℕ → (A → Result B Stop) → Result B Stop
then_step (Ok a) f = f a
then_step (Err n) f = Err (stop.Left n)

abbrev pub mapped_step : {A B : Type 0} → (A → B) → Result A Stop → Result B Stop
mapped_step f (Ok a) = Ok (f a)
mapped_step f (Err s) = Err s

-- the number of a moment's line, where so many bytes were left when the line began
unfoldable pub moment_step : ℕ → ℕ → List ℕ → Result (ℕ × List ℕ) Stop
moment_step last line bytes = then_step (number_line_read bytes)
    (λ n. if nat_lt n.0 last then Err (stop.MomentFalls line) else Ok n)

-- the bytes of an item, where so many were left when its line began
unfoldable pub stored_step : ℕ → List ℕ → Result (List ℕ × List ℕ) Stop
stored_step line bytes = then_step (number_line_read bytes)
    (λ n. if nat_lt MAX_ITEM_BYTES n.0 then Err (stop.TooLong line)
    else then_step (counted_read n.0 n.1) Ok)

unfoldable pub body_step : ℕ → ℕ → Word → List ℕ → Result (Option Body × List ℕ) Stop
body_step last line word.End bytes = Ok (None, bytes)
body_step last line word.At bytes =
    mapped_step (λ n. (Some (moment n.0), n.1)) (moment_step last line bytes)
body_step last line (word.Message role) bytes =
    mapped_step (λ d. (Some (stored (message role) d.0), d.1)) (stored_step line bytes)
body_step last line word.Script bytes =
    mapped_step (λ d. (Some (stored script d.0), d.1)) (stored_step line bytes)

-- an item after this moment, or the last line
unfoldable pub item_step : ℕ → List ℕ → Result (Option Body × List ℕ) Stop
item_step last bytes =
    then_step (word_read bytes) (λ w. body_step last (length bytes) w.0 w.1)

abbrev pub with_items : List Body
    → Result (List Body × List ℕ) Stop → Result (List Body × List ℕ) Stop
with_items items (Ok x) = Ok (items ++ x.0, x.1)
with_items items (Err s) = Err s

abbrev pub and_on : Result (Option Body × List ℕ) Stop
    → (Body → List ℕ → Result (List Body × List ℕ) Stop) → Result (List Body × List ℕ) Stop
and_on (Ok (None, rest)) f = Ok ([], rest)
and_on (Ok (Some item, rest)) f = with_items (item ∷ []) (f item rest)
and_on (Err s) f = Err s

unfoldable pub walk_in : ℕ → ℕ → List ℕ → Result (List Body × List ℕ) Stop
walk_in zero last bytes = Err (stop.Left (length bytes))
walk_in (suc n) last bytes =
    and_on (item_step last bytes) (λ item rest. walk_in n (moment_after last item) rest)

-- the items after this moment, up to the last line
unfoldable pub walk : ℕ → List ℕ → Result (List Body × List ℕ) Stop
walk last bytes = walk_in (suc (length bytes)) last bytes

-- the moment of the first item
unfoldable pub first_step : List ℕ → Result (ℕ × List ℕ) Stop
first_step bytes =
    then_step (literal_read (codes "hms-recording 1\n") bytes)
    (λ l. then_step (literal_read (codes "at ") l.1) (λ a. then_step (number_line_read a.1) Ok))

-- the items that come first, and what is after the last line
unfoldable pub recording_step : List ℕ → Result (List Body × List ℕ) Stop
recording_step bytes =
    and_on (mapped_step (λ n. (Some (moment n.0), n.1)) (first_step bytes))
    (λ item rest. walk (moment_after 0 item) rest)
