use Rattle.std.proofs.Common.{◌≡◌, ℕ, List, ◌++◌, ap, ◌∙◌, drop, length}
use Rattle.std.specs.Prelude.{slice_index}
use Rattle.std.proofs.lemmas.List.{get_or-take}
use Rattle.line_index.proofs.FirstBytes.{zeros_after, zeros_rest}
use Rattle.line_index.proofs.index.copy_first.Goals as goal

pub returns-in-Some : goal.returns-in-Some
returns-in-Some c k less =
    ap (λ (t : List ℕ). slice_index t k) c.in-Some.ensures.cases.same ∙ get_or-take 16 c.args.name.now k 0 less

pub returns-in-None : goal.returns-in-None
returns-in-None c k less =
    let name = c.args.name.now in
    let others = drop (length name) c.args.bytes.now in
    let zeros : (j : ℕ) → slice_index others j ≡ 0 = λ j. ap (λ (t : List ℕ). slice_index (drop (length name) t) j) c.requires ∙ zeros_rest (length name) j in
    let copied : c.copy_from_slice.new.self ≡ name = c.copy_from_slice.ensures.after in
    ap (λ (t : List ℕ). slice_index (t ++ others) k) copied ∙ zeros_after name others zeros k
