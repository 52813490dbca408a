use Rattle.std.proofs.Common.{◌≡◌, ◌<◌, ℕ, List, true, false, length, rules, arith, sym, ap, subst, ◌∙◌}
use Rattle.std.specs.Prelude.{nat_lt}
use Rattle.std.specs.List.{slice_index_or}
use Rattle.std.specs.List.Sorted.{IsPartitionPoint}
use Rattle.std.specs.Str.{str_to_ascii_lowercase}
use Rattle.std.proofs.lemmas.Bool.{ltb-false}
use Rattle.std.proofs.lemmas.Fn.{always_returns_same}
use Rattle.std.proofs.lemmas.List.{get_or_default}
use Rattle.line_index.specs.declared.index.IndexEntry.{IndexEntry}
use Rattle.line_index.specs.tools.Index.{is_key_below}
use Rattle.line_index.proofs.NameOrder.{first_split, key_parted}
use Rattle.line_index.proofs.NamedPart.{rest_is}
use Rattle.line_index.proofs.index.rest_from_name.Goals.{in_default-via-in-Some+else-is_below, in_default-via-in_default}
use Rattle.line_index.proofs.index.rest_from_name.Goals as goal

pub returns-in-Some : goal.returns-in-Some
returns-in-Some c =
    let bytes = c.args.bytes.now in
    let spans = c.args.spans.now in
    let name = c.args.name.now in
    let index = c.args.index.now in
    let n = c.partition_point-begin-in-Some.result in
    let point : ℕ → Type 0 = λ first. IsPartitionPoint (λ entry. is_key_below bytes spans (first, str_to_ascii_lowercase name) entry ≡ true) (λ entry. is_key_below bytes spans (first, str_to_ascii_lowercase name) entry ≡ false) index n in
    let key : ℕ × List ℕ = (c.args.first, str_to_ascii_lowercase name) in
    let split = c.partition_point-begin-in-Some.ensures.partitioned (is_key_below bytes spans key) (always_returns_same _ _ _ (λ a r g called. search rules)) (key_parted bytes spans key index (λ k. omega (arith, c.type_inv.bytes k)) c.requires.right) in
    rw c.split_at.ensures.back (rest_is bytes spans name index n c.requires.right c.partition_point-begin-in-Some.ensures.bound (subst point c.requires.first split))

pub returns-in_default : goal.returns-in_default
returns-in_default c =
    let bytes = c.args.bytes.now in
    let spans = c.args.spans.now in
    let name = c.args.name.now in
    let index = c.args.index.now in
    let first = c.args.first in
    let text = str_to_ascii_lowercase name in
    let n = c.partition_point-begin.result in
    let within = c.partition_point-begin.ensures.bound in
    let point : ℕ → Type 0 = λ first. IsPartitionPoint (λ entry. is_key_below bytes spans (first, text) entry ≡ true) (λ entry. is_key_below bytes spans (first, text) entry ≡ false) index n in
    let stops : (d : IndexEntry) → n < length index → is_key_below bytes spans (first, text) (slice_index_or index n d) ≡ false = λ d less. elim c.in_default.branch [
      | in_default-via-in-Some+else-is_below w ↦ ap (is_key_below bytes spans (first, text)) (get_or_default index n d _ less ∙ sym w.in-Some.ensures.lookup.1) ∙ sym w.is_below.ensures ∙ w.if-is_below.false
      | in_default-via-in_default w ↦ absurd (omega (arith, less, ltb-false n (length index) (sym w.in_default.ensures.lookup.0)))
    ] in
    let split = first_split bytes spans first text index n (λ k. omega (arith, c.type_inv.bytes k)) c.requires.right within
    (c.partition_point-begin.ensures.partitioned (λ (entry : IndexEntry). nat_lt entry.first_bytes first) (always_returns_same _ _ _ (λ a r g called. search rules)))
    stops in
    rw c.split_at-in_default.ensures.back (rest_is bytes spans name index n c.requires.right within (subst point c.requires.first split))
