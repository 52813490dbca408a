-- Codes of the values of MemShelf: a value with a map wants its code written.
-- No public clause cites this module.
use Rattle.std.specs.Prelude.{ℕ, List, refl}
use Rattle.std.specs.FinMap as map
use Rattle.std.specs.Coded.{Coded, code_by, coded×, coded_list, coded_ℕ}
use Rattle.hms_io.specs.Calls.{CallLog}
use Rattle.hms_io.specs.Files.{FileMap}
use Rattle.hms_io.specs.InMemory.{MemoryShelf}

-- a log as its three parts
abbrev pub log_code : Coded CallLog
log_code =
    code_by (List ℕ × (ℕ × ℕ)) (coded× (coded_list coded_ℕ) (coded× coded_ℕ coded_ℕ))
    (λ l. (l.fails, (l.made, l.faults)))
    (λ p. record { fails = p.0; made = p.1.0; faults = p.1.1 }) (λ _. refl)

-- a map of files
abbrev pub files_code : Coded FileMap
files_code = map.code (coded_list coded_ℕ) (coded_list coded_ℕ)

-- a shelf as its files, the bytes given, and its calls
abbrev pub shelf_code : Coded MemoryShelf
shelf_code =
    code_by (FileMap × (ℕ × CallLog)) (coded× files_code (coded× coded_ℕ log_code))
    (λ s. (s.files, (s.reached, s.calls)))
    (λ p. record { files = p.0; reached = p.1.0; calls = p.1.1 }) (λ _. refl)
