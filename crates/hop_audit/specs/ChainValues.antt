-- What the items of a chain say: its messages and its scripts.
use Rattle.std.specs.Prelude.{◌≡◌, ℕ, Option, Some, None, unwrap_or, IsSomeAnd, List, [], ◌∷◌}
use Rattle.std.specs.List.{AllZip}
use Rattle.msg_body.specs.Messages.{Message}
use Rattle.msg_body.specs.declared.expect.Expect.TheVariants.{Response as OneResponse}
use Rattle.component_values.specs.Context.{answers_head}
pub use Rattle.rewrite_script.specs.Scripts.{IsScriptText as IsScriptItem}
use Rattle.rewrite_script.specs.declared.rewrite.Rewrite.{Rewrite}
use Rattle.recording.specs.declared.item.Role.{Role}
use Rattle.recording.specs.declared.item.Role.TheVariants.{Request, Response, Related}
use Rattle.recording.specs.Chains.{Subject, requests, responses, RecordedHop, RecordedChain, role_of}
use Rattle.msg_body.specs.WholeTexts.{IsWhole}
pub use Rattle.msg_body.specs.WholeTexts.{one_request}
use Rattle.msg_body.specs.declared.whole.Reading.{Reading}

-- How the message of a role is read. A response has no content where the request that it answers
-- has the method HEAD (RFC 9112 section 6.3).
abbrev pub reading_of : Option Message → Role → Reading
reading_of related Request = one_request
reading_of related Response =
    record { expect = OneResponse; to_head = answers_head related }
reading_of related Related = one_request

-- the recorded request is this one, or none is recorded
abbrev pub AnswersRequest : Subject → Option Message → Type 0
AnswersRequest requests related = related ≡ None
AnswersRequest (responses None) related = related ≡ None
AnswersRequest (responses (Some text)) related = IsSomeAnd related (IsWhole one_request text)

-- ---- values

-- a hop: a moment, where it has one, the steps of its script, and the message that came out
pub record Hop : Type 0 where
  pub moment : Option ℕ
  pub script : List Rewrite
  pub message : Message

-- a chain: the moment of message 0, the request that its messages answer, where that is known,
-- message 0, and the hops
pub record Chain : Type 0 where
  pub moment : ℕ
  pub related : Option Message
  pub message : Message
  pub hops : List Hop

-- the recorded hop is this one
pub record IsHop (reading : Reading) (recorded : RecordedHop) (hop : Hop) : Type 0 where
  pub moment : hop.moment ≡ recorded.moment
  pub script : IsScriptItem recorded.script hop.script
  pub message : IsWhole reading recorded.message hop.message

-- the recorded chain is this one
pub record IsChainOf (recorded : RecordedChain) (chain : Chain) : Type 0 where
  pub moment : chain.moment ≡ recorded.moment
  pub related : AnswersRequest recorded.subject chain.related
  pub message : IsWhole (reading_of chain.related (role_of recorded.subject)) recorded.first
      chain.message
  pub hops : AllZip (IsHop (reading_of chain.related (role_of recorded.subject))) recorded.hops
      chain.hops

-- ---- moments

-- the moment of each message of the hops; that of the message before them is this one, and a hop
-- without a moment keeps the one before it
abbrev pub moments_from : ℕ → List Hop → List ℕ
moments_from last [] = []
moments_from last (hop ∷ hops) =
    unwrap_or hop.moment last ∷ moments_from (unwrap_or hop.moment last) hops

-- the moment of each message, from message 0 on
abbrev pub moments_of : Chain → List ℕ
moments_of chain = chain.moment ∷ moments_from chain.moment chain.hops
