-- The lines of verdicts, one by one.
use Rattle.std.proofs.Common.{◌≡◌, ◌+◌, ◌<◌, ℕ, Bool, true, false, ◌&&◌, List, [], ◌∷◌, ◌++◌, length, get_or, take, refl, sym, ap, subst, ◌∙◌, append_assoc}
use Rattle.std.specs.List.{list_all}
use Rattle.std.proofs.lemmas.List.{take_more, append-nil}
use Rattle.std.proofs.lemmas.List.Folds.{list_all-append}
use Rattle.component_values.specs.Context.{MessageContext}
use Rattle.conf.specs.Configuration.{Configuration}
use Rattle.verdicts.specs.Verdicts.{IsVerdict}
use Rattle.verdicts.specs.declared.outcome.Verdict.{Verdict}
use Rattle.verdicts.specs.VerdictLine.{verdict_line}
use Rattle.commands.specs.Verify.{AreVerdicts, verdict_lines}
use Rattle.verdicts.specs.Verification.{verification_for}
use Rattle.verdicts.specs.Verdicts.{is_accepted}
use Rattle.commands.specs.tools.Verdicts.{WritesVerdict, AreLinesSoFar}

verdicts_more : (conf : Configuration) (moment : ℕ) (context : MessageContext) (labels : List (List ℕ)) (verdicts : List Verdict) (label : List ℕ) (verdict : Verdict)
    → AreVerdicts conf moment context labels verdicts → IsVerdict (verification_for conf moment context label) verdict
    → AreVerdicts conf moment context (labels ++ (label ∷ [])) (verdicts ++ (verdict ∷ []))
verdicts_more conf moment context [] [] label verdict are is = (is, tt)
verdicts_more conf moment context [] (v ∷ vs) label verdict are is = absurd are
verdicts_more conf moment context (l ∷ ls) [] label verdict are is = absurd are
verdicts_more conf moment context (l ∷ ls) (v ∷ vs) label verdict are is = (are.0, verdicts_more conf moment context ls vs label verdict are.1 is)

lines_more : (conf : Configuration) (moment : ℕ) (context : MessageContext) (labels : List (List ℕ)) (verdicts : List Verdict) (label : List ℕ) (verdict : Verdict)
    → AreVerdicts conf moment context labels verdicts
    → verdict_lines (labels ++ (label ∷ [])) (verdicts ++ (verdict ∷ [])) ≡ verdict_lines labels verdicts ++ verdict_line (label, verdict)
lines_more conf moment context [] [] label verdict are = append-nil (verdict_line (label, verdict))
lines_more conf moment context [] (v ∷ vs) label verdict are = absurd are
lines_more conf moment context (l ∷ ls) [] label verdict are = absurd are
lines_more conf moment context (l ∷ ls) (v ∷ vs) label verdict are =
    ap (λ (text : List ℕ). verdict_line (l, v) ++ text) (lines_more conf moment context ls vs label verdict are.1)
    ∙ sym (append_assoc (verdict_line (l, v)) (verdict_lines ls vs) (verdict_line (label, verdict)))

and_one : (b c : Bool) → (b && c) ≡ (b && (c && true))
and_one true true = refl
and_one true false = refl
and_one false c = refl

-- the lines with one more
pub more_lines : (conf : Configuration) (moment : ℕ) (context : MessageContext) (labels : List (List ℕ)) (n : ℕ) (label lines now : List ℕ) (accepted one all : Bool)
    → n < length labels → label ≡ get_or labels n label
    → AreLinesSoFar conf moment context (take n labels) lines accepted
    → WritesVerdict (verification_for conf moment context label) lines now one
    → all ≡ (accepted && one)
    → AreLinesSoFar conf moment context (take (n + 1) labels) now all
more_lines conf moment context labels n label lines now accepted one all lt is so_far more both =
    let next : take (n + 1) labels ≡ take n labels ++ (label ∷ []) = take_more labels n label lt ∙ ap (λ (l : List ℕ). take n labels ++ (l ∷ [])) (sym is) in
    subst (λ (ls : List (List ℕ)). AreLinesSoFar conf moment context ls now all) (sym next)
    (record {
      verdicts = so_far.verdicts ++ (more.verdict ∷ []);
      are = verdicts_more conf moment context (take n labels) so_far.verdicts label more.verdict so_far.are more.is;
      lines_are = more.added ∙ (ap (λ (text : List ℕ). text ++ verdict_line (label, more.verdict)) so_far.lines_are
          ∙ sym (lines_more conf moment context (take n labels) so_far.verdicts label more.verdict so_far.are));
      accepted_is = both ∙ ((λ i. so_far.accepted_is i && more.accepted_is i) ∙ (and_one (list_all is_accepted so_far.verdicts) (is_accepted more.verdict)
          ∙ sym (list_all-append is_accepted so_far.verdicts (more.verdict ∷ []))));
    })
