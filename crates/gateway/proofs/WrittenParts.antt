-- Texts that are written in parts.
use Rattle.std.proofs.Common.{◌≡◌, ◌+◌, ◌≤◌, ℕ, Bool, List, [], ◌++◌, length, take, codes, append-nil, Option, Some, Result, Ok, Err, sym, ap, subst, ◌∙◌, arith}
use Rattle.std.specs.Prelude.{IfOk, IsErrAnd}
use Rattle.std.proofs.Math.Bool.{and-true}
use Rattle.std.proofs.lemmas.List.{length-append, take-append-le}
use Rattle.std.proofs.KnownBytes.{Appends-trans}
use Rattle.std.proofs.Math.Seq.{take-append-add}
use Rattle.std.specs.Io.KnownBytes.{Appends}
use Rattle.recording.specs.Items.{PlacedItem}
use Rattle.settings.specs.declared.gateway_conf.GatewayConf.{GatewayConf}
use Rattle.gateway.specs.Records.{is_pass}
use Rattle.gateway.specs.RecordTexts.{passed_text, record_line, record_text}
use Rattle.hms_io.specs.Writing.{AppendsPart}
use Rattle.gateway.specs.Served.{failed_writes}
use Rattle.gateway.specs.declared.fault.StreamFault.{StreamFault}
use Rattle.gateway.specs.declared.fault.StreamFault.TheVariants as fault
use Rattle.gateway.specs.declared.gateway_record.GatewayRecord.{GatewayRecord}
use Rattle.gateway.specs.declared.gateway_record.GatewayRecord.TheVariants.{Pass}
use Rattle.gateway.specs.tools.HeldStreams.{HeldStream, MeetsAndWrites, SaysItemMet, WritesText}

-- a part of the first of two
pub part_first : (a b : Option (List ℕ)) (first second : List ℕ) → AppendsPart a b first → AppendsPart a b (first ++ second)
part_first a b first second part =
    let same : take part.0 (first ++ second) ≡ take part.0 first = take-append-le part.0 first second (omega (arith, part.1)) in
    (part.0, omega (arith, part.1, length-append first second), subst (Appends a b) (sym same) part.2)

-- the first of two, and a part of the second
pub part_second : (a b c : Option (List ℕ)) (first second : List ℕ) → Appends a b first → AppendsPart b c second → AppendsPart a c (first ++ second)
part_second a b c first second whole part =
    (length first + part.0, omega (arith, part.1, length-append first second), subst (Appends a c) (sym (take-append-add first second part.0)) (Appends-trans a b c first (take part.0 second) whole part.2))

-- ---- a record

-- a write of the line of a record that passes went well, and one of what comes after it failed
pub failed_message : (answer : GatewayRecord) (index : ℕ) (label message line written : List ℕ) (a b c : Option (List ℕ)) → answer ≡ Pass index label message → line ≡ record_line answer → written ≡ message
    → Appends a b line → AppendsPart b c written → AppendsPart a c (record_text answer)
failed_message answer index label message line written a b c is line_is same whole part =
    let part_is = part_first b c message (codes "\n") (subst (AppendsPart b c) same part) in
    let all = part_second a b c (record_line answer) (message ++ codes "\n") (subst (Appends a b) line_is whole) part_is in
    subst (λ (r : GatewayRecord). AppendsPart a c (record_line answer ++ passed_text r)) (sym is) all

pub failed_end : (answer : GatewayRecord) (index : ℕ) (label message line written : List ℕ) (a b c d : Option (List ℕ)) → answer ≡ Pass index label message → line ≡ record_line answer → written ≡ message
    → Appends a b line → Appends b c written → AppendsPart c d (codes "\n") → AppendsPart a d (record_text answer)
failed_end answer index label message line written a b c d is line_is same whole more part =
    let part_is = part_second b c d message (codes "\n") (subst (Appends b c) same more) part in
    let all = part_second a b d (record_line answer) (message ++ codes "\n") (subst (Appends a b) line_is whole) part_is in
    subst (λ (r : GatewayRecord). AppendsPart a d (record_line answer ++ passed_text r)) (sym is) all

-- ---- what a call answers

-- what is appended to nothing is all there is
pub appended_alone : (bytes line begun more : List ℕ) → bytes ≡ line → line ≡ begun ++ more → begun ≡ [] → bytes ≡ more
appended_alone bytes line begun more bytes_are line_is none = bytes_are ∙ (line_is ∙ ap (λ (t : List ℕ). t ++ more) none)

-- the fault of a `?` is this one
pub as_fault : (P : Result Bool StreamFault → Type 0) (own : StreamFault) (result : Result Bool StreamFault) → IsErrAnd result (λ e. e ≡ own) → P (Err own) → P result
as_fault P own (Ok passes) is p = absurd is
as_fault P own (Err fault) is p = subst (λ (f : StreamFault). P (Err f)) (sym is) p

-- a write was idle once at most, where it failed
pub failed_once : (before now : ℕ) (result : Result Bool StreamFault) → IsErrAnd result (λ e. e ≡ fault.NotWritten) → now ≤ before + 1 → now ≤ before + failed_writes result
failed_once before now result is once = as_fault (λ (r : Result Bool StreamFault). now ≤ before + failed_writes r) fault.NotWritten result is once

-- the record of a message that is met was written
pub met_written : (settings : GatewayConf) (old new : HeldStream) (item : PlacedItem) (answer : GatewayRecord) (before now : Option (List ℕ)) (result : Result Bool StreamFault)
    → SaysItemMet settings old new item (Ok (Some answer)) → WritesText (record_text answer) before now result → IfOk result (λ passes. passes ≡ is_pass answer) → MeetsAndWrites settings old new item before now result
met_written settings old new item answer before now (Ok passes) met writes is = (Some answer, met, subst (Appends before now) (sym (append-nil (record_text answer))) writes, is ∙ sym (and-true (is_pass answer)))
met_written settings old new item answer before now (Err fault.Memory) met writes is = (tt, writes.1)
met_written settings old new item answer before now (Err fault.NotRead) met writes is = absurd (cc (writes.0))
met_written settings old new item answer before now (Err fault.NotWritten) met writes is = (answer, met, writes)
met_written settings old new item answer before now (Err (fault.Recording own)) met writes is = absurd (cc (writes.0))
met_written settings old new item answer before now (Err (fault.OutOfPlace own)) met writes is = absurd (cc (writes.0))
met_written settings old new item answer before now (Err fault.TooManyItems) met writes is = absurd (cc (writes.0))
