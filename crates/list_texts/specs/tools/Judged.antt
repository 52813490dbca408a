-- What the readers of lists of fields return. No public clause cites this module.
use Rattle.std.specs.Prelude.{◌≡◌, ◌≢◌, ⊤, ℕ, List, Result, Ok, Err}
use Rattle.list_texts.specs.declared.fault.FieldsFault.{FieldsFault}
use Rattle.list_texts.specs.declared.fault.FieldsFault.TheVariants.{Memory}
use Rattle.list_texts.specs.declared.list.Field.{Field}
use Rattle.list_texts.specs.declared.list.FieldList.{FieldList}
use Rattle.list_texts.specs.declared.stop.Halt.{Halt}
use Rattle.list_texts.specs.declared.stop.Halt.TheVariants as halt
use Rattle.list_texts.specs.declared.stop.Stop.{Stop}
use Rattle.list_texts.specs.Lists.{SpellsList}
use Rattle.list_texts.specs.Causes.{IsFieldsFault}
use Rattle.list_texts.specs.tools.FieldWalk.{with_fields, fields_step}

-- what was returned, seen by the view, is what the reader gives
abbrev pub Gives : {X Y : Type 0} → (X → Y) → Result X Stop → Result Y Stop → Type 0
Gives view (Ok x) read = read ≡ Ok (view x)
Gives view (Err s) read = read ≡ Err s

-- the same, unless memory ran out
abbrev pub Halts : {X Y : Type 0} → (X → Y) → Result X Halt → Result Y Stop → Type 0
Halts view (Ok x) read = read ≡ Ok (view x)
Halts view (Err (halt.At s)) read = read ≡ Err s
Halts view (Err halt.Memory) read = ⊤

-- fields are read, up to where these bytes are left
abbrev pub AreRead : ℕ → List ℕ → List ℕ → List Field → List ℕ → Type 0
AreRead first word bytes fields left =
    with_fields fields (fields_step first word left) ≡ fields_step first word bytes

-- the answer and the fact for which it is given; out of memory has none
abbrev pub Explains : List ℕ → Result FieldList FieldsFault → Type 0
Explains text (Ok list) = SpellsList text list
Explains text (Err fault) = fault ≢ Memory → IsFieldsFault text fault
