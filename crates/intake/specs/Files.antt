-- The files that a command reads, by what they are to it.
use Rattle.std.specs.Prelude.{◌≡◌, ℕ, ◌+◌, List, [], ◌∷◌, length, sum_by, Option, IfSome, is_some}
use Rattle.std.specs.List.{filter}
use Rattle.std.specs.FinMap as map
use Rattle.hms_io.specs.Files.{FileMap}
use Rattle.refusals.specs.declared.refusal.TheConstants.{MAX_CONF_BYTES, MAX_INPUT_BYTES}
use Rattle.rewrite_script.specs.declared.limits.TheConstants.{MAX_SCRIPT_BYTES}

-- what a file is to a command
pub data FileRole : Type 0 where
  -- the configuration
  Conf : FileRole
  -- the request that a response answers
  Request : FileRole
  -- the message that says which signatures are wanted
  Wanted : FileRole
  -- the script of changes to a message
  Script : FileRole
  -- the other record of a message, with which the input is compared
  Other : FileRole

-- the name of the file of each role, where it has one
abbrev pub FileNames : Type 0
FileNames = FileRole → Option (List ℕ)

-- a configuration, a request, a message that wishes signatures, a script and another record of a
-- message, or none of each
abbrev pub file_names : Option (List ℕ) → Option (List ℕ) → Option (List ℕ) → Option (List ℕ)
    → Option (List ℕ) → FileNames
file_names conf request wanted script other Conf = conf
file_names conf request wanted script other Request = request
file_names conf request wanted script other Wanted = wanted
file_names conf request wanted script other Script = script
file_names conf request wanted script other Other = other

-- how many files have a name
abbrev pub file_count : FileNames → ℕ
file_count names =
    length (filter (λ role. is_some (names role)) (Conf ∷ Request ∷ Wanted ∷ Script ∷ Other ∷ []))

-- how many bytes the file of each role has at most
abbrev pub file_limit : FileRole → ℕ
file_limit Conf = MAX_CONF_BYTES
file_limit Request = MAX_INPUT_BYTES
file_limit Wanted = MAX_INPUT_BYTES
file_limit Script = MAX_SCRIPT_BYTES
file_limit Other = MAX_INPUT_BYTES

-- how many bytes are read of the files that have a name: at most one past the limit of each
abbrev pub file_bytes : FileNames → ℕ
file_bytes names =
    sum_by (λ role. file_limit role + 1)
    (filter (λ role. is_some (names role)) (Conf ∷ Request ∷ Wanted ∷ Script ∷ Other ∷ []))

-- what was found for each role: a text, or none
abbrev pub Found : Type 0
Found = FileRole → Option (List ℕ)

-- Where there is a name and the files are known, what was found is the file of that name, or none.
abbrev pub IsFound : Option FileMap → Option (List ℕ) → Option (List ℕ) → Type 0
IsFound shelf name found = IfSome name (λ n. IfSome shelf (λ files. found ≡ map.get files n))

-- the same for each role
abbrev pub AreFound : Option FileMap → FileNames → Found → Type 0
AreFound shelf names found = (role : FileRole) → IsFound shelf (names role) (found role)

-- the fact holds of what was found under the name
pub record HasFound (shelf : Option FileMap) (name : Option (List ℕ))
    (P : Option (List ℕ) → Type 0) : Type 0 where
  pub found : Option (List ℕ)
  pub known : IsFound shelf name found
  pub holds : P found
