use Rattle.std.proofs.Common.{◌≡◌, ℕ, List, ◌++◌, take, drop, sym, subst, ap, ◌∙◌}
use Rattle.std.proofs.lemmas.List.{append_cancel_right, take-append-drop}
use Rattle.msg_head.specs.Cuts.{IsSection}
use Rattle.msg_head.proofs.HeadParts.{spelled_cut}
use Rattle.msg_head.proofs.Sectioning.{cut_section}
use Rattle.msg_head.proofs.OneHeads.{one_head_law, one_head_of_text_law, no_head_in_prefix_law}
use Rattle.msg_head.proofs.laws.bytes_begin_with_one_head.Goals as goal

pub returns-clause-one : goal.returns-clause-one
returns-clause-one c = one_head_law

pub returns-clause-text : goal.returns-clause-text
returns-clause-text c = one_head_of_text_law

pub returns-clause-prefix : goal.returns-clause-prefix
returns-clause-prefix c = no_head_in_prefix_law

pub returns-clause-end : goal.returns-clause-end
returns-clause-end c bytes head used s =
    let head_cut = spelled_cut head used bytes s in
    let there = cut_section head_cut.start.text head_cut.lines.cuts bytes head_cut.cut in
    let same : there.section ≡ take used bytes = append_cancel_right there.section (take used bytes) (drop used bytes) (ap (λ (x : List ℕ). there.section ++ x) (sym head_cut.more_is) ∙ sym there.joined ∙ sym (take-append-drop used bytes)) in
    subst (λ (x : List ℕ). IsSection bytes x) same there.is
