-- The words of lacks in output.
use Rattle.std.specs.Prelude.{ℕ, List, codes}
use Rattle.derived_values.specs.declared.lack.Lack.{Lack}
use Rattle.derived_values.specs.declared.lack.Lack.TheVariants.{Absent, Ambiguous, Underivable, Unreadable, NotAscii}

-- the word for the way in which a component lacks a value
abbrev pub lack_word : Lack → List ℕ
lack_word Absent = codes "absent"
lack_word Ambiguous = codes "ambiguous"
lack_word Underivable = codes "underivable"
lack_word Unreadable = codes "unreadable"
lack_word NotAscii = codes "not-ascii"
