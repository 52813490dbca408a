use Rattle.std.proofs.Common.{OnOk, ◌≡◌, ◌++◌, List, ℕ, subst, ◌∙◌, codes}
use Rattle.line_rewrites.specs.LineLists.{line_of}
use Rattle.whole_rewrites.specs.tools.HeadLines.{head_with}
use Rattle.whole_rewrites.proofs.content.append_head_of_length.Goals as goal

pub returns : goal.returns
returns c =
    subst (λ (digits : List ℕ). OnOk c.append_head_with.result (c.append_head_with.new.text ≡ c.args.text.now ++ head_with c.args.lines.now c.args.index (line_of (codes "Content-Length") digits)))
    (c.as_bytes.ensures.value ∙ c.in_ok-digits.ensures.ok) c.append_head_with.ensures
