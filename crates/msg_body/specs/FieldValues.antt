-- The joined values of lines, borrowed or owned.
use Rattle.std.specs.Prelude.{ℕ, List}
use Rattle.msg_body.specs.declared.field_value.FieldValue.{FieldValue}
use Rattle.msg_body.specs.declared.field_value.FieldValue.TheVariants.{Borrowed, Owned}

-- the bytes, wherever they are
abbrev pub value_bytes : FieldValue → List ℕ
value_bytes (Borrowed bytes) = bytes.now
value_bytes (Owned text) = text
