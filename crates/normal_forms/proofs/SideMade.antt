-- The steps of the three lists, one list after the other.
use Rattle.std.proofs.Common.{◌≡◌, List, ◌++◌, append_assoc, refl, sym, ap, ◌∙◌}
use Rattle.std.specs.Prelude.{map}
use Rattle.std.specs.List.{flat_map}
use Rattle.std.proofs.lemmas.List.{map-append}
use Rattle.component_ids.specs.declared.params.SigParams.{SigParams}
use Rattle.msg_head.specs.declared.error.Side.{Side}
use Rattle.msg_head.specs.Lines.{FieldLine}
use Rattle.rewrite_script.specs.declared.rewrite.LineRewrite.{LineRewrite}
use Rattle.rewrite_script.specs.declared.rewrite.Rewrite.{Rewrite}
use Rattle.rewrite_script.specs.declared.rewrite.Rewrite.TheVariants.{Lines}
use Rattle.normal_forms.specs.LineSteps.{MakeNormal, join_steps}
use Rattle.normal_forms.specs.NormalLines.{IsJoined}
use Rattle.normal_forms.specs.tools.Sides.{CleansLines, JoinsLines, KeepsLines}
use Rattle.normal_forms.proofs.SideCleaned.{all_made_clean}

three_lists : (before : List Rewrite) (one other last : List LineRewrite) (first second after : List Rewrite) → first ≡ before ++ map Lines one → second ≡ first ++ map Lines other → after ≡ second ++ map Lines last
    → after ≡ before ++ map Lines (one ++ (other ++ last))
three_lists before one other last first second after first_is second_is after_is =
    after_is
    ∙ (ap (λ t. t ++ map Lines last) (second_is ∙ ap (λ t. t ++ map Lines other) first_is)
    ∙ (append_assoc (before ++ map Lines one) (map Lines other) (map Lines last)
    ∙ (append_assoc before (map Lines one) (map Lines other ++ map Lines last)
    ∙ ap (λ t. before ++ t) (ap (λ t. map Lines one ++ t) (sym (map-append Lines other last)) ∙ sym (map-append Lines one (other ++ last))))))

pub made_normal : (side : Side) (params : SigParams) (lines kept clean normal : List FieldLine) (before first second after : List Rewrite) → KeepsLines side params lines kept before first → CleansLines side kept clean first second
    → JoinsLines side params clean normal second after → IsJoined side params normal → (made : List LineRewrite) × MakeNormal side params lines made normal × (after ≡ before ++ map Lines made)
made_normal side params lines kept clean normal before first second after keeps cleans joins joined =
    let last = flat_map (join_steps side) joins.pairs in (
      keeps.removed.made ++ (cleans.0.made ++ last),
      record {
        removals = keeps.removed.made;
        kept = kept;
        removed = keeps.removed.lead;
        all_kept = keeps.all_kept;
        cleanings = cleans.0.made;
        clean = clean;
        cleaned = cleans.0.lead;
        all_clean = all_made_clean side kept clean first second cleans;
        pairs = joins.pairs;
        joined = joins.join;
        all_joined = joined;
        steps_are = refl;
      },
      three_lists before keeps.removed.made cleans.0.made last first second after keeps.removed.added cleans.0.added joins.added,
    )
