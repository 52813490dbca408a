use Rattle.std.proofs.Common.{◌≡◌, ◌↔◌, ◌==◌, true, ◌<◌, ◌++◌, length, sym, ap, subst, ◌∙◌, arith, codes}
use Rattle.std.specs.Str.{bytes_eq}
use Rattle.std.proofs.lemmas.Slice.Eq.{bytes_eq-Decides}
use Rattle.framing.specs.Framings.{content_length_of}
use Rattle.msg_body.specs.Bodies.{content_in}
use Rattle.msg_body.specs.Views.{body_before, message_of}
use Rattle.normal_forms.specs.NormalMessages.{HasNormalChunks}
use Rattle.normal_forms.proofs.OneChunk.{empty_normal, line_of_count, one_end, some_normal, tested}
use Rattle.normal_forms.proofs.content.has_normal_chunks.Goals as goal

pub returns-then-count-eq0 : goal.returns-then-count-eq0
returns-then-count-eq0 c =
    let message = message_of c.args.context.now.message.now in
    let none : length (content_in message.body) ≡ 0 = omega (arith, c.content_len-count.ensures, c.if-count-eq0.true) in
    let text = empty_normal message.framing (content_length_of message.head) message.body c.requires.body (sym c.has_trailers.ensures ∙ c.if-not-has_trailers.false) none in
    let decides = bytes_eq-Decides (body_before message.body) (codes "0\r\n") in
    let test : c.eq.result ≡ bytes_eq (body_before message.body) (codes "0\r\n") = c.eq.ensures ∙ (λ i. bytes_eq (c.sent_content.ensures i) (c.as_slice.ensures i)) in
    (λ yes. text.0 (decides.0 (sym test ∙ yes)), λ holds. test ∙ decides.1 (text.1 holds))

pub returns-in-Some : goal.returns-in-Some
returns-in-Some c =
    let message = message_of c.args.context.now.message.now in
    let some : 0 < length (content_in message.body) = omega (arith, c.content_len-count.ensures, c.if-count-eq0.false) in
    let count = c.content_len-count.ensures in
    let between = c.in-Some.data.now in
    let line : c.bytes.result.now ≡ line_of_count c.content_len-count.result =
    c.bytes.ensures ∙ (c.in_ok-append_size.ensures ∙ ap (λ t. t ++ line_of_count c.content_len-count.result) c.new-line.ensures) in
    let joined : body_before message.body ≡ line_of_count (length (content_in message.body)) ++ (between ++ one_end) =
    sym c.sent_content-2.ensures ∙ (c.in-Some.ensures ∙ ap (λ t. t ++ (between ++ one_end)) (line ∙ ap line_of_count count)) in
    let holds = some_normal message.framing (content_length_of message.head) message.body c.requires.body (sym c.has_trailers.ensures ∙ c.if-not-has_trailers.false) c.requires.content some between joined in
    subst (λ n. ((length between == n) ≡ true) ↔ HasNormalChunks message.body) (sym count) (tested (length between) (length (content_in message.body)) (HasNormalChunks message.body) holds)
