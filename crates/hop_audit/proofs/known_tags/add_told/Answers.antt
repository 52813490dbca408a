use Rattle.std.proofs.Common.{◌≡◌, ap, ◌∙◌}
use Rattle.sfv_text.specs.Keys.{value_of}
use Rattle.hop_audit.proofs.CarriedTags.{told_by_fate, told_by_verdict}
use Rattle.hop_audit.proofs.known_tags.add_told.Goals as goal

pub returns-in-Message : goal.returns-in-Message
returns-in-Message c conf was now label knows tells told =
    let w = c.in-Message in
    let says = rw w.is at tells in
    let o_is : c.known_of.result ≡ value_of c.args.known.now w.label = c.known_of.ensures ∙ ap (value_of c.args.known.now) c.bytes.ensures in
    c.add_known.ensures conf now told
    (rw c.bytes-in-Message.ensures (told_by_verdict conf was now c.args.known.now knows label w.label c.known_of.result o_is w.verdict c.known_with-is_right.result c.known_with-is_right.ensures says))

pub returns-else-not-is_kept : goal.returns-else-not-is_kept
returns-else-not-is_kept c conf was now label knows tells told =
    let w = c.in-Label in
    let says = rw w.is at tells in
    let known = c.known_of-in-Label in
    let o_is : known.result ≡ value_of c.args.known.now w.label = known.ensures ∙ ap (value_of c.args.known.now) c.bytes-in-Label-2.ensures in
    c.add_known-in-Label.ensures conf now told
    (rw c.bytes-in-Label.ensures (told_by_fate conf was now c.args.known.now knows label w.label known.result o_is w.permitted w.fate (c.is_kept.ensures c.if-not-is_kept.false) says))
