-- What is rewritten under a label keeps the verdict on it (RFC 9421 sections 1.1 and 3.2).
use Rattle.std.specs.Prelude.{◌≡◌, ℕ, IsTrue, Option, Some, List}
use Rattle.std.specs.List.{list_all, list_any}
use Rattle.framing.specs.Framings.{is_request}
use Rattle.msg_body.specs.Messages.{Message, Spells}
use Rattle.component_values.specs.Context.{MessageContext, answers_head}
use Rattle.conf.specs.Configuration.{Configuration}
use Rattle.rewrite_script.specs.Lines.{is_writable}
use Rattle.rewrite_script.specs.Scripts.{HaveValues}
use Rattle.rewrite_script.specs.declared.rewrite.Rewrite.{Rewrite}
use Rattle.whole_rewrites.specs.Laws.{IsReadAs}
use Rattle.rewrites.specs.Laws.{HasSameVerdict, rests_on_conf}
use Rattle.rewrites.specs.Steps.{Steps}
use Rattle.verdicts.specs.Contexts.{context_for}
use Rattle.commands.specs.Rewrite.{IsTaken, ReportsRewriting}
use Rattle.commands.specs.declared.outcome.Outcome.TheVariants.{Done}

-- The text is that of the message to which the steps lead, each taken on the message that the one
-- before it gave. It is of the kind of the one that the first of them met.
pub record IsTextAfter (label : Option (List ℕ)) (context : MessageContext)
    (script : List Rewrite) (text : List ℕ) : Type 0 where
  pub after : Message
  pub steps : Steps (IsTaken label) context script after
  pub spells : Spells (answers_head context.related) after text
  pub kind : is_request after.head.start ≡ is_request context.message.head.start

-- What was written is that of the message after the steps of the script.
abbrev pub IsMessageWhereRewritten : Type 0
IsMessageWhereRewritten =
    (label : Option (List ℕ)) (script : List Rewrite) (context : MessageContext)
    (bytes written : List ℕ) → Spells (answers_head context.related) context.message bytes
    → ReportsRewriting label script context (Done written)
    → IsTextAfter label context script written

-- In what was written under a label, the label has the verdict that it has in what was read: at
-- each moment, by each configuration and each book, its place included. Where a step rests on the
-- configured scheme or kinds of fields, the configuration has these too.
abbrev pub HasVerdictWhereRewritten : Type 0
HasVerdictWhereRewritten =
    (label : List ℕ) (script : List Rewrite) (context : MessageContext) (bytes written : List ℕ)
    (message : Message) (conf : Configuration) → IsTrue (list_all is_writable script)
    → HaveValues script
    → (IsTrue (list_any rests_on_conf script)
    → IsReadAs context (context_for conf context.message context.related))
    → Spells (answers_head context.related) context.message bytes
    → ReportsRewriting (Some label) script context (Done written)
    → Spells (answers_head context.related) message written
    → HasSameVerdict (context_for conf context.message context.related) message label
