use Rattle.std.proofs.Common.{List, ◌++◌, refl, ap, ◌∙◌}
use Rattle.std.specs.Prelude.{map}
use Rattle.msg_head.specs.declared.error.Side.TheVariants.{Trailer}
use Rattle.msg_body.specs.Views.{message_of}
use Rattle.component_values.specs.Context.{answers_head, context_of}
use Rattle.rewrite_script.specs.declared.rewrite.Rewrite.{Rewrite}
use Rattle.rewrite_script.specs.declared.rewrite.Rewrite.TheVariants.{Lines}
use Rattle.normal_forms.proofs.MadeParts.{lines_are, steps_joined}
use Rattle.normal_forms.proofs.normal.normal_parts.Goals as goal

pub normal_lines-requires-2 : goal.normal_lines-requires-2
normal_lines-requires-2 c = lines_are (answers_head (context_of c.args.context.now).related) (message_of c.args.context.now.message.now) c.requires Trailer

pub returns : goal.returns
returns c =
    let header = c.in_ok-header.ensures in
    let trailer = c.in_ok-trailer.ensures in
    let content = c.in_ok-push_rechunk.ensures in
    record {
      header_steps = header.0;
      header = c.in_ok-header.header.items;
      header_made = header.1;
      trailer_steps = trailer.0;
      trailer = c.in_ok-trailer.trailer.items;
      trailer_made = trailer.1;
      chunk_steps = content.0;
      chunks_made = content.1;
      steps_are = steps_joined header.0 trailer.0 content.0 c.normal_lines.new.steps c.normal_lines-2.new.steps c.push_rechunk.new.steps
          (header.2 ∙ ap (λ (steps : List Rewrite). steps ++ map Lines header.0) c.new-steps.ensures) trailer.2 content.2;
      normal_is = refl;
    }
