-- Files under names, and how they are taken whole.
use Rattle.std.specs.Prelude.{◌≡◌, ℕ, ◌<◌, List, length, Option, Some, None, IfSome, MatchOption}
use Rattle.std.specs.Ordering.{nat_cmp}
use Rattle.std.specs.Cmp.Lexicographic.{slice_cmp}
use Rattle.std.specs.FinMap as map
use Rattle.hms_io.specs.Cause.{Rose}
use Rattle.hms_io.specs.Reading.{RoseBy}
use Rattle.hms_io.specs.declared.read_write.FillError.{FillError}
use Rattle.hms_io.specs.declared.read_write.FillError.TheVariants as fill
use Rattle.hms_io.specs.declared.whole_file.FileError.{FileError}
use Rattle.hms_io.specs.declared.whole_file.FileError.TheVariants.{Memory, Failed, TooLong, Missing}

-- from the bytes of a name to the bytes of its file
abbrev pub FileMap : Type 0
FileMap = map.FinMap (slice_cmp nat_cmp) (List ℕ)

-- where the files are known, the answer is the named one, and None where none has the name
abbrev pub GivesFile : Option FileMap → List ℕ → Option (List ℕ) → Type 0
GivesFile known name found = IfSome known (λ files. map.get files name ≡ found)

-- each byte of a file that is found was counted
abbrev pub CountsFile : ℕ → ℕ → Option (List ℕ) → Type 0
CountsFile before now found = IfSome found (λ file. RoseBy (length file) before now)

-- known files stay
abbrev pub KeepsFiles : Option FileMap → Option FileMap → Type 0
KeepsFiles before now = IfSome before (λ files. now ≡ Some files)

-- where the files are known, the named one has just these bytes
abbrev pub HasFile : Option FileMap → List ℕ → List ℕ → Type 0
HasFile known name file = IfSome known (λ files. map.get files name ≡ Some file)

-- where the files are known, the named one is there and has more bytes than the limit
abbrev pub HasLongerFile : Option FileMap → List ℕ → ℕ → Type 0
HasLongerFile known name limit =
    IfSome known (λ files. MatchOption (map.get files name) ⊥ (λ file. limit < length file))

-- where the files are known, none has the name
abbrev pub HasNoFile : Option FileMap → List ℕ → Type 0
HasNoFile known name = IfSome known (λ files. map.get files name ≡ None)

-- of the errors of `take_file` only a failed fetch raises the count
abbrev pub HasFileCause : ℕ → ℕ → FileError → Type 0
HasFileCause before now Failed = Rose before now
HasFileCause before now Memory = now ≡ before
HasFileCause before now TooLong = now ≡ before
HasFileCause before now Missing = now ≡ before

-- why a file isn't taken, where it isn't read whole
abbrev pub file_error_of : FillError → FileError
file_error_of fill.Memory = Memory
file_error_of fill.Failed = Failed
file_error_of fill.TooLong = TooLong
