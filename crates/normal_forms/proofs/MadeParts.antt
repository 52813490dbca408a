-- The steps that make a message normal, from those of its parts.
use Rattle.std.proofs.Common.{◌≡◌, Bool, List, ◌++◌, sym, ap, ◌∙◌}
use Rattle.std.specs.Prelude.{map}
use Rattle.std.specs.List.{All}
use Rattle.std.proofs.lemmas.List.{map-append}
use Rattle.msg_head.specs.Lines.{IsLine}
use Rattle.msg_head.specs.declared.error.Side.{Side}
use Rattle.msg_head.specs.declared.error.Side.TheVariants.{Header, Trailer}
use Rattle.framing.specs.Framings.{content_length_of}
use Rattle.msg_body.specs.Messages.{IsMessage, Message}
use Rattle.msg_body.specs.Views.{lines_on}
use Rattle.rewrite_script.specs.declared.rewrite.LineRewrite.{LineRewrite}
use Rattle.rewrite_script.specs.declared.rewrite.Rewrite.{Rewrite}
use Rattle.rewrite_script.specs.declared.rewrite.Rewrite.TheVariants.{Lines}
use Rattle.normal_forms.specs.Laws.{LeadToNormal}
use Rattle.normal_forms.proofs.AlikeForms.{lines_of_body}
use Rattle.normal_forms.proofs.LeadLaws.{lead_to_normal}
use Rattle.normal_forms.proofs.LeadLines.{lead_on_side}
use Rattle.normal_forms.proofs.NormalLists.{makes_normal}

-- ---- the steps

-- the lines of a message's sides are field lines
pub lines_are : (to_head : Bool) (message : Message) → IsMessage to_head message → (side : Side) → All IsLine (lines_on side message)
lines_are to_head message is Header = is.head.lines
lines_are to_head message is Trailer = lines_of_body message.framing (content_length_of message.head) message.body is.body

-- the steps of the sides and of the content, one list after the other
pub steps_joined : (header trailer : List LineRewrite) (content one two all : List Rewrite) → one ≡ map Lines header → two ≡ one ++ map Lines trailer → all ≡ two ++ content
    → all ≡ map Lines (header ++ trailer) ++ content
steps_joined header trailer content one two all one_is two_is all_is =
    all_is ∙ ap (λ (steps : List Rewrite). steps ++ content) (two_is ∙ (ap (λ (steps : List Rewrite). steps ++ map Lines trailer) one_is ∙ sym (map-append Lines header trailer)))

-- ---- what they lead to

-- they are applicable and permitted, and the message is normal
pub leads : LeadToNormal
leads = lead_to_normal lead_on_side (λ side params lines steps normal is made. makes_normal side params lines steps normal made)
