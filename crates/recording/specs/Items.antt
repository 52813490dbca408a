-- The items of a recording, and their text.
use Rattle.std.specs.Prelude.{⊤, ℕ, ◌≤◌, List, [], ◌∷◌, ◌++◌, length, codes}
use Rattle.byte_grammar.specs.Numbers.{number_line}
use Rattle.recording.specs.declared.limits.TheConstants.{MAX_ITEM_BYTES}
use Rattle.recording.specs.declared.item.Role.{Role}
use Rattle.recording.specs.declared.item.Role.TheVariants.{Request, Response, Related}
use Rattle.recording.specs.declared.item.ItemBody.{ItemBody}
use Rattle.recording.specs.declared.item.ItemBody.TheVariants as item
use Rattle.recording.specs.declared.item.Item.{Item}

-- what the bytes of an item are
pub data Kind : Type 0 where
  message : Role → Kind
  script : Kind

-- what an item says: a moment, or bytes
pub data Body : Type 0 where
  moment : ℕ → Body
  stored : Kind → List ℕ → Body

-- an item, and the offset of its line
pub record PlacedItem : Type 0 where
  pub offset : ℕ
  pub body : Body

-- what an item of the code says
abbrev pub body_of : ItemBody → Body
body_of (item.At seconds) = moment seconds
body_of (item.Message role text) = stored (message role) text.now
body_of (item.Script text) = stored script text.now

-- an item of the code
abbrev pub placed : Item → PlacedItem
placed given = record { offset = given.offset; body = body_of given.body }

-- ---- the text of an item

-- the word of the line, with the SP after it
abbrev pub kind_word : Kind → List ℕ
kind_word (message Request) = codes "request "
kind_word (message Response) = codes "response "
kind_word (message Related) = codes "related "
kind_word script = codes "script "

-- a moment is a line; before bytes comes a line that says how many they are, and after them LF
abbrev pub body_text : Body → List ℕ
body_text (moment seconds) = number_line (codes "at ") seconds
body_text (stored kind text) = number_line (kind_word kind) (length text) ++ (text ++ codes "\n")

-- the number of the line
abbrev pub number_of : Body → ℕ
number_of (moment seconds) = seconds
number_of (stored kind text) = length text

-- ---- limits and moments

-- not too many bytes; a moment has none
abbrev pub IsShort : Body → Type 0
IsShort (moment seconds) = ⊤
IsShort (stored kind text) = length text ≤ MAX_ITEM_BYTES

-- the moment, where the item is one
abbrev pub moment_in : Body → List ℕ
moment_in (moment seconds) = seconds ∷ []
moment_in (stored kind text) = []
