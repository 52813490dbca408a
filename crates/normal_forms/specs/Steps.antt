-- The steps that make a message normal for a signature: those of the header, those of the trailer
-- section, and one that puts the content in one chunk.
use Rattle.std.specs.Prelude.{◌≡◌, ◌⊎◌, ℕ, Bool, IsTrue, List, [], ◌∷◌, ◌++◌, map}
use Rattle.std.specs.List.{list_all}
use Rattle.msg_head.specs.declared.error.Side.TheVariants.{Header, Trailer}
use Rattle.msg_head.specs.Lines.{FieldLine}
use Rattle.framing.specs.Chunks.{content_of}
use Rattle.msg_body.specs.Bodies.{Body, plain, chunked}
use Rattle.msg_body.specs.Messages.{Message}
use Rattle.msg_body.specs.Views.{lines_on, message_content}
use Rattle.component_ids.specs.declared.params.SigParams.{SigParams}
use Rattle.component_values.specs.Context.{MessageContext, answers_head}
use Rattle.rewrite_script.specs.Lines.{is_writable}
use Rattle.rewrite_script.specs.Scripts.{HaveValues}
use Rattle.rewrite_script.specs.declared.rewrite.LineRewrite.{LineRewrite}
use Rattle.rewrite_script.specs.declared.rewrite.Rewrite.{Rewrite}
use Rattle.rewrite_script.specs.declared.rewrite.Rewrite.TheVariants.{Lines, Whole}
use Rattle.rewrite_script.specs.declared.rewrite.WholeRewrite.TheVariants.{Rechunk}
use Rattle.line_rewrites.specs.Steps.{with_lines_on}
use Rattle.rewrites.specs.Laws.{IsPermittedStep}
use Rattle.rewrites.specs.Steps.{Steps}
use Rattle.normal_forms.specs.LineSteps.{MakeNormal}
use Rattle.normal_forms.specs.NormalMessages.{HasNormalChunks, IsNormal, normal_chunks, whole_size}

-- the body with its content in one chunk, where it is in chunks
abbrev pub with_normal_chunks : Body → Body
with_normal_chunks (plain content) = plain content
with_normal_chunks (chunked chunks trailers) = chunked (normal_chunks (content_of chunks)) trailers

-- the step that makes the chunks normal; none where they are
abbrev pub MakeChunksNormal : Message → List Rewrite → Type 0
MakeChunksNormal message steps =
    (HasNormalChunks message.body × (steps ≡ []))
    ⊎ ((¬ HasNormalChunks message.body)
    × (steps ≡ Whole (Rechunk (whole_size (message_content message))) ∷ []))

-- the message with these lines on its two sides, and its content in one chunk
abbrev pub normal_message : Bool → Message → List FieldLine → List FieldLine → Message
normal_message to_head message header trailer =
    let other = with_lines_on to_head Trailer (with_lines_on to_head Header message header) trailer
    in record { head = other.head; framing = other.framing; body = with_normal_chunks other.body }

-- these are the steps for a signature of these parameters, and the normal message
pub record HasNormalSteps (to_head : Bool) (params : SigParams) (message : Message)
    (steps : List Rewrite) (normal : Message) : Type 0 where
  pub header_steps : List LineRewrite
  pub header : List FieldLine
  pub header_made : MakeNormal Header params (lines_on Header message) header_steps header
  pub trailer_steps : List LineRewrite
  pub trailer : List FieldLine
  pub trailer_made : MakeNormal Trailer params (lines_on Trailer message) trailer_steps trailer
  pub chunk_steps : List Rewrite
  pub chunks_made : MakeChunksNormal message chunk_steps
  pub steps_are : steps ≡ map Lines (header_steps ++ trailer_steps) ++ chunk_steps
  pub normal_is : normal ≡ normal_message to_head message header trailer

-- The steps lead from the context's message to the normal one. Each is applicable to the message
-- that it meets, and the label's signature permits it there. Each is that of a line of a script.
pub record IsNormalForm (context : MessageContext) (label : List ℕ) (params : SigParams)
    (steps : List Rewrite) (normal : Message) : Type 0 where
  pub made : HasNormalSteps (answers_head context.related) params context.message steps normal
  pub lead : Steps (IsPermittedStep label) context steps normal
  pub writable : IsTrue (list_all is_writable steps)
  pub values : HaveValues steps
  pub is_normal : IsNormal params normal
