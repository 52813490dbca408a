-- The steps that make a message normal lead to it, and a normal message has none.
use Rattle.std.proofs.Common.{◌≡◌, Bool, List, [], ◌++◌, sym, ap, subst, ◌∙◌, inl, inr}
use Rattle.std.specs.Prelude.{map}
use Rattle.std.specs.List.{All}
use Rattle.std.proofs.lemmas.List.{map-append}
use Rattle.msg_head.specs.declared.error.Side.{Side}
use Rattle.msg_head.specs.declared.error.Side.TheVariants.{Header, Trailer}
use Rattle.msg_head.specs.Lines.{FieldLine, IsLine}
use Rattle.msg_body.specs.Bodies.{Body, trailers_in}
use Rattle.msg_body.specs.Messages.{IsMessage, Message}
use Rattle.msg_body.specs.Views.{lines_on}
use Rattle.component_ids.specs.declared.params.SigParams.{SigParams}
use Rattle.component_values.specs.Context.{answers_head}
use Rattle.rewrite_script.specs.declared.rewrite.LineRewrite.{LineRewrite}
use Rattle.rewrite_script.specs.declared.rewrite.Rewrite.{Rewrite}
use Rattle.rewrite_script.specs.declared.rewrite.Rewrite.TheVariants.{Lines}
use Rattle.line_rewrites.specs.Steps.{with_trailers}
use Rattle.normal_forms.specs.Laws.{LeadToNormal, StaysNormal}
use Rattle.normal_forms.specs.LineSteps.{MakeNormal}
use Rattle.normal_forms.specs.NormalLines.{AreNormalLines}
use Rattle.normal_forms.specs.NormalMessages.{HasNormalChunks, IsNormal}
use Rattle.normal_forms.specs.Steps.{HasNormalSteps, MakeChunksNormal, normal_message, with_normal_chunks}
use Rattle.normal_forms.proofs.Leading.{IsSigned, Leads, LeadsOn, Signed, leads_on, lined}
use Rattle.normal_forms.proofs.MessageChunks.{chunks_lead, chunks_under, in_one, one_is_normal, one_stays, one_trailers}
use Rattle.normal_forms.proofs.MessageSteps.{message_lines, own_trailers}

-- what makes the lines of a side normal leads to the message with these
abbrev pub LeadOnSide : Type 0
LeadOnSide = (s : Signed) (side : Side) (message : Message) (steps : List LineRewrite) (others : List FieldLine) → IsSigned s message → MakeNormal side s.params (lines_on side message) steps others
    → LeadsOn s side message steps others

-- what it makes are normal lines
abbrev pub MakeNormalLines : Type 0
MakeNormalLines = (side : Side) (params : SigParams) (lines : List FieldLine) (steps : List LineRewrite) (normal : List FieldLine) → All IsLine lines → MakeNormal side params lines steps normal
    → AreNormalLines side params normal

-- and of normal lines they are the same
abbrev pub StayNormalLines : Type 0
StayNormalLines = (side : Side) (params : SigParams) (lines : List FieldLine) (steps : List LineRewrite) (normal : List FieldLine) → All IsLine lines → AreNormalLines side params lines
    → MakeNormal side params lines steps normal → (steps ≡ []) × (normal ≡ lines)

-- ---- to the normal message

pub leads_to_normal : LeadOnSide → (s : Signed) (steps : List Rewrite) (normal : Message) → IsSigned s s.context.message
    → HasNormalSteps (answers_head s.context.related) s.params s.context.message steps normal → Leads s s.context.message steps normal
leads_to_normal lead_on_side s steps normal is made =
    let message = s.context.message in
    let header = lead_on_side s Header message made.header_steps made.header is made.header_made in
    let first = lined s Header message made.header in
    let trailer = lead_on_side s Trailer first made.trailer_steps made.trailer header.leads.signed made.trailer_made in
    let second = lined s Trailer first made.trailer in
    let chunks = chunks_lead s second made.chunk_steps trailer.leads.signed (chunks_under message.head second.head message.framing second.framing message.body made.trailer made.chunk_steps made.chunks_made) in
    let lines = leads_on s message first second (map Lines made.header_steps) (map Lines made.trailer_steps) header.leads trailer.leads in
    let all = leads_on s message second (in_one second) (map Lines made.header_steps ++ map Lines made.trailer_steps) made.chunk_steps lines chunks in
    let steps_are : steps ≡ (map Lines made.header_steps ++ map Lines made.trailer_steps) ++ made.chunk_steps =
    made.steps_are ∙ ap (λ (xs : List Rewrite). xs ++ made.chunk_steps) (map-append Lines made.header_steps made.trailer_steps) in
    subst (λ (m : Message). Leads s message steps m) (sym made.normal_is)
    (subst (λ (xs : List Rewrite). Leads s message xs (normal_message (answers_head s.context.related) message made.header made.trailer)) (sym steps_are) all)

-- ---- what is normal

normal_trailers : (params : SigParams) (body : Body) (trailer : List FieldLine) → trailers_in (with_trailers trailer body) ≡ trailer → AreNormalLines Trailer params trailer
    → AreNormalLines Trailer params (trailers_in (with_normal_chunks (with_trailers trailer body)))
normal_trailers params body trailer there are = subst (AreNormalLines Trailer params) (sym (one_trailers (with_trailers trailer body) ∙ there)) are

normal_side : (to_head : Bool) (params : SigParams) (message : Message) (header trailer : List FieldLine) → trailers_in (with_trailers trailer message.body) ≡ trailer → AreNormalLines Header params header
    → AreNormalLines Trailer params trailer → (side : Side) → AreNormalLines side params (lines_on side (normal_message to_head message header trailer))
normal_side to_head params message header trailer there first second Header = first
normal_side to_head params message header trailer there first second Trailer = normal_trailers params message.body trailer there second

pub lead_to_normal : LeadOnSide → MakeNormalLines → LeadToNormal
lead_to_normal lead_on_side make_normal_lines context label params tag steps normal whole has made =
    let message = context.message in
    let to_head = answers_head context.related in
    let s : Signed = record { context = context; label = label; params = params; tag = tag } in
    let is : IsSigned s message = record { whole = whole; signature = has } in
    let leads = leads_to_normal lead_on_side s steps normal is made in
    let header = lead_on_side s Header message made.header_steps made.header is made.header_made in
    let trailer = lead_on_side s Trailer (lined s Header message made.header) made.trailer_steps made.trailer header.leads.signed made.trailer_made in
    let first = make_normal_lines Header params (lines_on Header message) made.header_steps made.header (message_lines to_head Header message whole) made.header_made in
    let second = make_normal_lines Trailer params (lines_on Trailer message) made.trailer_steps made.trailer (message_lines to_head Trailer message whole) made.trailer_made in
    let is_normal : IsNormal params (normal_message to_head message made.header made.trailer) = record {
      lines = normal_side to_head params message made.header made.trailer trailer.there first second;
      chunks = one_is_normal (with_trailers made.trailer message.body);
    } in
    record {
      made = made;
      lead = leads.lead;
      writable = leads.writable;
      values = leads.values;
      is_normal = subst (IsNormal params) (sym made.normal_is) is_normal;
    }

-- ---- what stays

no_chunk_steps : (message : Message) (steps : List Rewrite) → HasNormalChunks message.body → MakeChunksNormal message steps → steps ≡ []
no_chunk_steps message steps is (inl made) = made.1
no_chunk_steps message steps is (inr made) = absurd (made.0 is)

own_message : (to_head : Bool) (message : Message) → IsMessage to_head message → HasNormalChunks message.body → normal_message to_head message (lines_on Header message) (lines_on Trailer message) ≡ message
own_message to_head message is normal =
    let body : with_normal_chunks (with_trailers (trailers_in message.body) message.body) ≡ message.body = ap with_normal_chunks (own_trailers message.body) ∙ one_stays message.body normal in
    λ i. record { head = message.head; framing = sym is.framing i; body = body i }

pub stays_normal : StayNormalLines → StaysNormal
stays_normal stay to_head params message steps normal is normal_is made =
    let header = stay Header params (lines_on Header message) made.header_steps made.header (message_lines to_head Header message is) (normal_is.lines Header) made.header_made in
    let trailer = stay Trailer params (lines_on Trailer message) made.trailer_steps made.trailer (message_lines to_head Trailer message is) (normal_is.lines Trailer) made.trailer_made in
    let chunks = no_chunk_steps message made.chunk_steps normal_is.chunks made.chunks_made in
    let none : map Lines (made.header_steps ++ made.trailer_steps) ++ made.chunk_steps ≡ [] = λ i. map Lines (header.0 i ++ trailer.0 i) ++ chunks i in
    let same : normal_message to_head message made.header made.trailer ≡ normal_message to_head message (lines_on Header message) (lines_on Trailer message) =
    λ i. normal_message to_head message (header.1 i) (trailer.1 i) in
    (made.steps_are ∙ none, made.normal_is ∙ (same ∙ own_message to_head message is normal_is.chunks))
