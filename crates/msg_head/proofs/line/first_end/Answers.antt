use Rattle.std.proofs.Common.{◌≡◌, ℕ, ◌+◌, ◌-◌, length, subst, arith}
use Rattle.memchr.specs.Find.{IsFirst, Passes, is_byte3}
use Rattle.msg_head.proofs.FirstPlaces.{leads_first}
use Rattle.msg_head.proofs.line.first_end.Goals as goal

pub returns : goal.returns
returns c =
    let text = c.args.text.now in
    let test = is_byte3 0 13 10 in
    let size : 0 + (length text - 0) ≡ length text = omega arith in
    let first = leads_first test text (length text - 0) 0 c.next.new.self c.next.result (rw c.memchr3_iter.ensures.value at c.next.ensures.steps) in
    subst (λ (n : ℕ). IsFirst (Passes test text) 0 n c.next.result) size first
