-- Laws of refusals.
use Rattle.std.specs.Prelude.{◌≡◌, ℕ, Bool, true, IsTrue, List, ◌++◌, codes}
use Rattle.std.specs.List.{list_all}
use Rattle.byte_grammar.specs.Classes.{is_line_byte}
use Rattle.component_ids.specs.Causes.{id_fault_text}
use Rattle.conf.specs.Refusals.{fault_path}
use Rattle.hms_io.specs.declared.status.Status.{Status}
use Rattle.hms_io.specs.declared.status.Status.TheVariants.{Done, NotOk, ReadFault, WriteFault, OutOfMemory}
use Rattle.refusals.specs.Refusal.{refusal_line, refusal_status}
use Rattle.refusals.specs.Texts.{path_text}
use Rattle.refusals.specs.declared.file.FileRefusal.{FileRefusal}
use Rattle.refusals.specs.declared.file.FileRefusal.TheVariants.{Conf}
use Rattle.refusals.specs.declared.refusal.CommandRefusal.{CommandRefusal}
use Rattle.refusals.specs.declared.refusal.CommandRefusal.TheVariants.{Ids, Lacks}
use Rattle.refusals.specs.declared.refusal.Refusal.{Refusal}
use Rattle.refusals.specs.declared.refusal.Refusal.TheVariants.{Of, Command}

-- a status that only a refusal gives
abbrev pub IsOfRefusal : Status → Type 0
IsOfRefusal Done = ⊥
IsOfRefusal NotOk = ⊥
IsOfRefusal ReadFault = ⊥
IsOfRefusal WriteFault = ⊥
IsOfRefusal OutOfMemory = ⊥
IsOfRefusal status = Unit {0}

-- each refusal gives a status that only a refusal gives
abbrev pub HasStatusOfRefusal : Type 0
HasStatusOfRefusal = (refusal : Refusal) → IsOfRefusal (refusal_status refusal)

-- ---- lines

-- the text is one line: it has one LF, at its end
pub record IsLine (text : List ℕ) : Type 0 where
  pub line : List ℕ
  pub text_is : text ≡ line ++ codes "\n"
  pub clean : IsTrue (list_all is_line_byte line)

-- the path in a configuration, if any, has no end of a line
abbrev pub is_clean_file : FileRefusal → Bool
is_clean_file (Conf fault) = list_all is_line_byte (path_text (fault_path fault))
is_clean_file refusal = true

-- nor has the identifier of a component, or a key of PARAMS
abbrev pub is_clean_command : CommandRefusal → Bool
is_clean_command (Ids fault) = list_all is_line_byte (id_fault_text fault)
is_clean_command (Lacks lack id) = list_all is_line_byte id
is_clean_command refusal = true

-- what the refusal has from outside has no end of a line
abbrev pub is_clean : Refusal → Bool
is_clean (Of role refusal) = is_clean_file refusal
is_clean (Command refusal) = is_clean_command refusal
is_clean refusal = true

-- it writes one line then
abbrev pub IsLineOfRefusal : Type 0
IsLineOfRefusal = (refusal : Refusal) → IsTrue (is_clean refusal) → IsLine (refusal_line refusal)
