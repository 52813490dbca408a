-- The arguments of the program, and the commands that they spell.
use Rattle.std.specs.Prelude.{◌≡◌, ◌⊎◌, ◌<◌, ◌^◌, ⊤, ℕ, Bool, Option, Some, None, option_map, List, [], ◌∷◌, codes, IfSome, IsSomeAnd, IsTrue}
use Rattle.std.specs.Str.Parse.{digits_value}
use Rattle.sfv_text.specs.Keys.{value_of}
use Rattle.sfv_text.specs.declared.pair.Pair.{Pair}
use Rattle.command_options.specs.Names.{command_word}
use Rattle.command_options.specs.Numbers.{IsCount, IsSeed}
use Rattle.command_options.specs.Options.{into_word, is_nonce, AreOptions}
use Rattle.command_options.specs.declared.options.TheConstants.{MAX_MOMENT_DIGITS}
use Rattle.command_options.specs.declared.options.CommandName.{CommandName}
use Rattle.command_options.specs.declared.options.CommandName.TheVariants as name
use Rattle.command_line.specs.declared.command.BaseWords as base
use Rattle.command_line.specs.declared.command.VerifyWords as verify
use Rattle.command_line.specs.declared.command.SignWords as sign
use Rattle.command_line.specs.declared.command.RewriteWords as rewrite
use Rattle.command_line.specs.declared.command.ExplainWords as explain
use Rattle.command_line.specs.declared.command.AuditWords as audit
use Rattle.command_line.specs.declared.command.GatewayWords as gateway
use Rattle.command_line.specs.declared.command.ListsWords as lists
use Rattle.command_line.specs.declared.command.NegotiateWords as negotiate
use Rattle.command_line.specs.declared.command.SampleWords as sample
use Rattle.command_line.specs.declared.command.Command.{Command}
use Rattle.command_line.specs.declared.command.Command.TheVariants as command

-- the words of `base`: PARAMS, the file of the configuration, and that of the request that the
-- input answers
pub record BaseWords : Type 0 where
  pub params : List ℕ
  pub conf : Option (List ℕ)
  pub request : Option (List ℕ)

-- the words of `verify`: the file of the configuration, the moment, the label that is asked for,
-- and the file of the request that the input answers
pub record VerifyWords : Type 0 where
  pub conf : List ℕ
  pub now : ℕ
  pub label : Option (List ℕ)
  pub request : Option (List ℕ)

-- the words of `sign`: the file of the configuration, the moment, the file of the request that the
-- input answers, the nonce of the signature, and the file of the message that asks for signatures
pub record SignWords : Type 0 where
  pub conf : List ℕ
  pub now : ℕ
  pub request : Option (List ℕ)
  pub nonce : Option (List ℕ)
  pub wanted : Option (List ℕ)

-- the words of `rewrite`: the file of the script, that of the configuration, the label whose
-- signature has to permit each step, and the file of the request that the input answers
pub record RewriteWords : Type 0 where
  pub script : List ℕ
  pub conf : Option (List ℕ)
  pub label : Option (List ℕ)
  pub request : Option (List ℕ)

-- the words of `explain`: the label whose signature has to permit each rewriting, the file of the
-- other record of the message, that of the configuration, and that of the request that both answer
pub record ExplainWords : Type 0 where
  pub label : List ℕ
  pub other : List ℕ
  pub conf : Option (List ℕ)
  pub request : Option (List ℕ)

-- the words of `audit`: the file of the configuration
pub record AuditWords : Type 0 where
  pub conf : List ℕ

-- the words of `gateway`: the file of the configuration
pub record GatewayWords : Type 0 where
  pub conf : List ℕ

-- the words of `lists`: whether a list is turned into a message, or a message into a list, and the
-- file of the configuration
pub record ListsWords : Type 0 where
  pub into_message : Bool
  pub conf : Option (List ℕ)

-- the words of `negotiate`: the file of the configuration, the moment, and the file of the request
-- that the input answers, and that asks for signatures
pub record NegotiateWords : Type 0 where
  pub conf : List ℕ
  pub now : ℕ
  pub request : List ℕ

-- the words of `sample`: the seed, and the number of hops
pub record SampleWords : Type 0 where
  pub seed : ℕ
  pub count : ℕ

-- what arguments ask for
pub data CommandLine : Type 0 where
  -- what the program does
  Help : CommandLine
  -- what a command does
  HelpOf : CommandName → CommandLine
  -- its version
  Version : CommandLine
  -- the signature base over the components that PARAMS cover, by a configuration or without one,
  -- with a request or without one
  Base : BaseWords → CommandLine
  -- the verdicts by a configuration, at a moment, of one label or of all
  Verify : VerifyWords → CommandLine
  -- the message with signatures of a moment, by a configuration: one, which may have a nonce, or
  -- those that a message asks for
  Sign : SignWords → CommandLine
  -- the message after the steps of a script, by a configuration or without one: any, or those alone
  -- that the signature of a label permits
  Rewrite : RewriteWords → CommandLine
  -- the rewritings that the signature of a label permits, and that lead two records of one message
  -- to messages that are alike, or what differs: by a configuration or without one
  Explain : ExplainWords → CommandLine
  -- the report on a recorded chain of messages, by a configuration
  Audit : AuditWords → CommandLine
  -- what a gateway makes of each message of a stream, by a configuration
  Gateway : GatewayWords → CommandLine
  -- the message of a recorded list of fields, or the list of a message, by a configuration or
  -- without one
  Lists : ListsWords → CommandLine
  -- the response with the signatures that its request asks for, and with the digest that it asks
  -- for, by a configuration, at a moment
  Negotiate : NegotiateWords → CommandLine
  -- the summary of the report on a chain that is drawn from a seed, with so many hops
  Sample : SampleWords → CommandLine

-- the arguments are `base`, PARAMS and the options of `base`, and not `base --help`
pub record SpellsBase (arguments : List (List ℕ)) (base : BaseWords) : Type 0 where
  pub words : List (List ℕ)
  pub options : List (Pair (List ℕ))
  pub joined : arguments ≡ codes "base" ∷ base.params ∷ words
  pub asks : ¬ (base.params ∷ words ≡ codes "--help" ∷ [])
  pub are : AreOptions name.Base words options
  pub conf_is : base.conf ≡ value_of options (codes "--conf")
  pub request_is : base.request ≡ value_of options (codes "--request")

-- the arguments are `verify` and its options, with those that it needs
pub record SpellsVerify (arguments : List (List ℕ)) (verify : VerifyWords) : Type 0 where
  pub words : List (List ℕ)
  pub options : List (Pair (List ℕ))
  pub joined : arguments ≡ codes "verify" ∷ words
  pub are : AreOptions name.Verify words options
  pub conf_is : value_of options (codes "--conf") ≡ Some verify.conf
  pub now_is : IsSomeAnd (value_of options (codes "--now"))
      (λ digits. verify.now ≡ digits_value 10 digits)
  pub label_is : verify.label ≡ value_of options (codes "--label")
  pub request_is : verify.request ≡ value_of options (codes "--request")

-- the arguments are `sign` and its options, with those that it needs, and not both a nonce and a
-- message that asks for signatures
pub record SpellsSign (arguments : List (List ℕ)) (sign : SignWords) : Type 0 where
  pub words : List (List ℕ)
  pub options : List (Pair (List ℕ))
  pub joined : arguments ≡ codes "sign" ∷ words
  pub are : AreOptions name.Sign words options
  pub conf_is : value_of options (codes "--conf") ≡ Some sign.conf
  pub now_is : IsSomeAnd (value_of options (codes "--now"))
      (λ digits. sign.now ≡ digits_value 10 digits)
  pub request_is : sign.request ≡ value_of options (codes "--request")
  pub nonce_is : sign.nonce ≡ value_of options (codes "--nonce")
  pub wanted_is : sign.wanted ≡ value_of options (codes "--wanted")
  pub alone : (sign.nonce ≡ None) ⊎ (sign.wanted ≡ None)

-- the arguments are `rewrite` and its options, with the script
pub record SpellsRewrite (arguments : List (List ℕ)) (rewrite : RewriteWords) : Type 0 where
  pub words : List (List ℕ)
  pub options : List (Pair (List ℕ))
  pub joined : arguments ≡ codes "rewrite" ∷ words
  pub are : AreOptions name.Rewrite words options
  pub script_is : value_of options (codes "--script") ≡ Some rewrite.script
  pub conf_is : rewrite.conf ≡ value_of options (codes "--conf")
  pub label_is : rewrite.label ≡ value_of options (codes "--label")
  pub request_is : rewrite.request ≡ value_of options (codes "--request")

-- the arguments are `explain` and its options, with the label and the other record
pub record SpellsExplain (arguments : List (List ℕ)) (explain : ExplainWords) : Type 0 where
  pub words : List (List ℕ)
  pub options : List (Pair (List ℕ))
  pub joined : arguments ≡ codes "explain" ∷ words
  pub are : AreOptions name.Explain words options
  pub label_is : value_of options (codes "--label") ≡ Some explain.label
  pub other_is : value_of options (codes "--other") ≡ Some explain.other
  pub conf_is : explain.conf ≡ value_of options (codes "--conf")
  pub request_is : explain.request ≡ value_of options (codes "--request")

-- the arguments are `audit` and its options, with the configuration
pub record SpellsAudit (arguments : List (List ℕ)) (audit : AuditWords) : Type 0 where
  pub words : List (List ℕ)
  pub options : List (Pair (List ℕ))
  pub joined : arguments ≡ codes "audit" ∷ words
  pub are : AreOptions name.Audit words options
  pub conf_is : value_of options (codes "--conf") ≡ Some audit.conf

-- the arguments are `gateway` and its options, with the configuration
pub record SpellsGateway (arguments : List (List ℕ)) (gateway : GatewayWords) : Type 0 where
  pub words : List (List ℕ)
  pub options : List (Pair (List ℕ))
  pub joined : arguments ≡ codes "gateway" ∷ words
  pub are : AreOptions name.Gateway words options
  pub conf_is : value_of options (codes "--conf") ≡ Some gateway.conf

-- the arguments are `lists` and its options, with what it turns its input into
pub record SpellsLists (arguments : List (List ℕ)) (lists : ListsWords) : Type 0 where
  pub words : List (List ℕ)
  pub options : List (Pair (List ℕ))
  pub joined : arguments ≡ codes "lists" ∷ words
  pub are : AreOptions name.Lists words options
  pub into_is : value_of options (codes "--into") ≡ Some (into_word lists.into_message)
  pub conf_is : lists.conf ≡ value_of options (codes "--conf")

-- the arguments are `negotiate` and its options, all of which it needs
pub record SpellsNegotiate (arguments : List (List ℕ)) (negotiate : NegotiateWords)
    : Type 0 where
  pub words : List (List ℕ)
  pub options : List (Pair (List ℕ))
  pub joined : arguments ≡ codes "negotiate" ∷ words
  pub are : AreOptions name.Negotiate words options
  pub conf_is : value_of options (codes "--conf") ≡ Some negotiate.conf
  pub now_is : IsSomeAnd (value_of options (codes "--now"))
      (λ digits. negotiate.now ≡ digits_value 10 digits)
  pub request_is : value_of options (codes "--request") ≡ Some negotiate.request

-- the arguments are `sample`, the seed and the number of hops
pub record SpellsSample (arguments : List (List ℕ)) (sample : SampleWords) : Type 0 where
  pub seed : List ℕ
  pub count : List ℕ
  pub joined : arguments ≡ codes "sample" ∷ seed ∷ count ∷ []
  pub seed_is : IsSeed seed sample.seed
  pub count_is : IsCount count sample.count

-- the arguments spell the command
abbrev pub IsCommand : List (List ℕ) → CommandLine → Type 0
IsCommand arguments Help = (arguments ≡ codes "--help" ∷ []) ⊎ (arguments ≡ codes "help" ∷ [])
IsCommand arguments (HelpOf command) =
    (arguments ≡ command_word command ∷ codes "--help" ∷ [])
    ⊎ (arguments ≡ codes "help" ∷ command_word command ∷ [])
IsCommand arguments Version = arguments ≡ codes "--version" ∷ []
IsCommand arguments (Base words) = SpellsBase arguments words
IsCommand arguments (Verify words) = SpellsVerify arguments words
IsCommand arguments (Sign words) = SpellsSign arguments words
IsCommand arguments (Rewrite words) = SpellsRewrite arguments words
IsCommand arguments (Explain words) = SpellsExplain arguments words
IsCommand arguments (Audit words) = SpellsAudit arguments words
IsCommand arguments (Gateway words) = SpellsGateway arguments words
IsCommand arguments (Lists words) = SpellsLists arguments words
IsCommand arguments (Negotiate words) = SpellsNegotiate arguments words
IsCommand arguments (Sample words) = SpellsSample arguments words

-- the arguments spell no command
abbrev pub NoCommand : List (List ℕ) → Type 0
NoCommand arguments = (command : CommandLine) → ¬ IsCommand arguments command

-- the file of the configuration
abbrev pub conf_of : CommandLine → Option (List ℕ)
conf_of Help = None
conf_of (HelpOf command) = None
conf_of Version = None
conf_of (Base words) = words.conf
conf_of (Verify words) = Some words.conf
conf_of (Sign words) = Some words.conf
conf_of (Rewrite words) = words.conf
conf_of (Explain words) = words.conf
conf_of (Audit words) = Some words.conf
conf_of (Gateway words) = Some words.conf
conf_of (Lists words) = words.conf
conf_of (Negotiate words) = Some words.conf
conf_of (Sample words) = None

-- the file of the request that the input answers
abbrev pub request_of : CommandLine → Option (List ℕ)
request_of Help = None
request_of (HelpOf command) = None
request_of Version = None
request_of (Base words) = words.request
request_of (Verify words) = words.request
request_of (Sign words) = words.request
request_of (Rewrite words) = words.request
request_of (Explain words) = words.request
request_of (Audit words) = None
request_of (Gateway words) = None
request_of (Lists words) = None
request_of (Negotiate words) = Some words.request
request_of (Sample words) = None

-- the file of the message that asks for signatures
abbrev pub wanted_of : CommandLine → Option (List ℕ)
wanted_of (Sign words) = words.wanted
wanted_of command = None

-- the file of the script
abbrev pub script_of : CommandLine → Option (List ℕ)
script_of (Rewrite words) = Some words.script
script_of command = None

-- the file of the other record of the message
abbrev pub other_of : CommandLine → Option (List ℕ)
other_of (Explain words) = Some words.other
other_of command = None

-- what the borrowed words of `base` stand for
abbrev pub base_words : base.BaseWords → BaseWords
base_words words = record {
  params = words.params.now;
  conf = option_map (λ word. word.now) words.conf;
  request = option_map (λ word. word.now) words.request;
}

-- what the borrowed words of `verify` stand for
abbrev pub verify_words : verify.VerifyWords → VerifyWords
verify_words words = record {
  conf = words.conf.now;
  now = words.now;
  label = option_map (λ word. word.now) words.label;
  request = option_map (λ word. word.now) words.request;
}

-- what the borrowed words of `sign` stand for
abbrev pub sign_words : sign.SignWords → SignWords
sign_words words = record {
  conf = words.conf.now;
  now = words.now;
  request = option_map (λ word. word.now) words.request;
  nonce = option_map (λ word. word.now) words.nonce;
  wanted = option_map (λ word. word.now) words.wanted;
}

-- what the borrowed words of `rewrite` stand for
abbrev pub rewrite_words : rewrite.RewriteWords → RewriteWords
rewrite_words words = record {
  script = words.script.now;
  conf = option_map (λ word. word.now) words.conf;
  label = option_map (λ word. word.now) words.label;
  request = option_map (λ word. word.now) words.request;
}

-- what the borrowed words of `explain` stand for
abbrev pub explain_words : explain.ExplainWords → ExplainWords
explain_words words = record {
  label = words.label.now;
  other = words.other.now;
  conf = option_map (λ word. word.now) words.conf;
  request = option_map (λ word. word.now) words.request;
}

-- what the borrowed words of `audit` stand for
abbrev pub audit_words : audit.AuditWords → AuditWords
audit_words words = record { conf = words.conf.now }

-- what the borrowed words of `gateway` stand for
abbrev pub gateway_words : gateway.GatewayWords → GatewayWords
gateway_words words = record { conf = words.conf.now }

-- what the borrowed words of `lists` stand for
abbrev pub lists_words : lists.ListsWords → ListsWords
lists_words words = record {
  into_message = words.into_message;
  conf = option_map (λ word. word.now) words.conf;
}

-- what the borrowed words of `negotiate` stand for
abbrev pub negotiate_words : negotiate.NegotiateWords → NegotiateWords
negotiate_words words = record {
  conf = words.conf.now;
  now = words.now;
  request = words.request.now;
}

-- what the words of `sample` stand for
abbrev pub sample_words : sample.SampleWords → SampleWords
sample_words words = record { seed = words.seed; count = words.count }

-- what a command with borrowed words stands for
abbrev pub line_of : Command → CommandLine
line_of command.Help = Help
line_of (command.HelpOf name) = HelpOf name
line_of command.Version = Version
line_of (command.Base words) = Base (base_words words)
line_of (command.Verify words) = Verify (verify_words words)
line_of (command.Sign words) = Sign (sign_words words)
line_of (command.Rewrite words) = Rewrite (rewrite_words words)
line_of (command.Explain words) = Explain (explain_words words)
line_of (command.Audit words) = Audit (audit_words words)
line_of (command.Gateway words) = Gateway (gateway_words words)
line_of (command.Lists words) = Lists (lists_words words)
line_of (command.Negotiate words) = Negotiate (negotiate_words words)
line_of (command.Sample words) = Sample (sample_words words)

-- the moment is one of at most 15 digits
abbrev pub IsTimely : CommandLine → Type 0
IsTimely (Verify words) = words.now < 10 ^ MAX_MOMENT_DIGITS
IsTimely (Sign words) = words.now < 10 ^ MAX_MOMENT_DIGITS
IsTimely (Negotiate words) = words.now < 10 ^ MAX_MOMENT_DIGITS
IsTimely command = ⊤

-- a nonce is one of 1 to 256 bytes of a String
abbrev pub HasRightNonce : CommandLine → Type 0
HasRightNonce (Sign words) = IfSome words.nonce (λ nonce. IsTrue (is_nonce nonce))
HasRightNonce command = ⊤
