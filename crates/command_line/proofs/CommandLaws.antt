-- Arguments spell one command: the one that they are read as.
use Rattle.std.proofs.Common.{◌≡◌, ℕ, Bool, true, false, inl, inr, List, [], ◌∷◌, Option, Some, None, refl, sym, ap, ◌∙◌}
use Rattle.std.specs.Prelude.{IsSomeAnd, codes, if◌then◌else◌, option_map, unwrap_or}
use Rattle.std.specs.Str.{bytes_eq}
use Rattle.std.specs.Str.Parse.{digits_value}
use Rattle.std.proofs.lemmas.Bool.{cases_Bool}
use Rattle.std.proofs.lemmas.Slice.Eq.{bytes_eq-Decides}
use Rattle.sfv_text.specs.Keys.{value_of}
use Rattle.sfv_text.specs.declared.pair.Pair.{Pair}
use Rattle.command_line.specs.Command.{CommandLine, Help, HelpOf, Version, Base, Verify, Sign, Rewrite, Explain, Audit, Gateway, Lists, Negotiate, Sample, BaseWords, VerifyWords, SignWords, RewriteWords, ExplainWords, AuditWords, GatewayWords, ListsWords, NegotiateWords, SampleWords, IsCommand, SpellsBase, SpellsVerify, SpellsSign, SpellsRewrite, SpellsExplain, SpellsAudit, SpellsGateway, SpellsLists, SpellsNegotiate, SpellsSample}
use Rattle.command_line.specs.Laws.{HasOneCommand}
use Rattle.command_options.specs.Names.{command_of, command_word}
use Rattle.command_options.specs.Options.{into_word, words_of}
use Rattle.command_options.specs.declared.options.CommandName.{CommandName}
use Rattle.command_options.specs.declared.options.CommandName.TheVariants as name
use Rattle.command_line.specs.tools.Wrong.{asks_help}

-- ---- what words are read as

-- the options that words spell
options_in : List (List ℕ) → List (Pair (List ℕ))
options_in [] = []
options_in (key ∷ []) = []
options_in (key ∷ value ∷ words) = record { key = key; value = value } ∷ options_in words

-- the word of an option that a command needs
word_of : List (Pair (List ℕ)) → List ℕ → List ℕ
word_of options name = unwrap_or (value_of options name) []

base_in : List ℕ → List (Pair (List ℕ)) → BaseWords
base_in params options = record { params = params; conf = value_of options (codes "--conf"); request = value_of options (codes "--request") }

verify_in : List (Pair (List ℕ)) → VerifyWords
verify_in options = record {
  conf = word_of options (codes "--conf");
  now = digits_value 10 (word_of options (codes "--now"));
  label = value_of options (codes "--label");
  request = value_of options (codes "--request");
}

sign_in : List (Pair (List ℕ)) → SignWords
sign_in options = record {
  conf = word_of options (codes "--conf");
  now = digits_value 10 (word_of options (codes "--now"));
  request = value_of options (codes "--request");
  nonce = value_of options (codes "--nonce");
  wanted = value_of options (codes "--wanted");
}

rewrite_in : List (Pair (List ℕ)) → RewriteWords
rewrite_in options = record {
  script = word_of options (codes "--script");
  conf = value_of options (codes "--conf");
  label = value_of options (codes "--label");
  request = value_of options (codes "--request");
}

explain_in : List (Pair (List ℕ)) → ExplainWords
explain_in options = record {
  label = word_of options (codes "--label");
  other = word_of options (codes "--other");
  conf = value_of options (codes "--conf");
  request = value_of options (codes "--request");
}

audit_in : List (Pair (List ℕ)) → AuditWords
audit_in options = record { conf = word_of options (codes "--conf") }

gateway_in : List (Pair (List ℕ)) → GatewayWords
gateway_in options = record { conf = word_of options (codes "--conf") }

lists_in : List (Pair (List ℕ)) → ListsWords
lists_in options = record { into_message = bytes_eq (word_of options (codes "--into")) (codes "message"); conf = value_of options (codes "--conf") }

negotiate_in : List (Pair (List ℕ)) → NegotiateWords
negotiate_in options =
    record { conf = word_of options (codes "--conf"); now = digits_value 10 (word_of options (codes "--now")); request = word_of options (codes "--request") }

after_base : List (List ℕ) → CommandLine
after_base [] = Help
after_base (params ∷ words) = Base (base_in params (options_in words))

sample_in : List ℕ → List ℕ → SampleWords
sample_in seed count = record { seed = digits_value 10 seed; count = digits_value 10 count }

after_sample : List (List ℕ) → CommandLine
after_sample (seed ∷ count ∷ []) = Sample (sample_in seed count)
after_sample words = Help

after_name : CommandName → List (List ℕ) → CommandLine
after_name name.Base words = after_base words
after_name name.Verify words = Verify (verify_in (options_in words))
after_name name.Sign words = Sign (sign_in (options_in words))
after_name name.Rewrite words = Rewrite (rewrite_in (options_in words))
after_name name.Explain words = Explain (explain_in (options_in words))
after_name name.Audit words = Audit (audit_in (options_in words))
after_name name.Gateway words = Gateway (gateway_in (options_in words))
after_name name.Lists words = Lists (lists_in (options_in words))
after_name name.Negotiate words = Negotiate (negotiate_in (options_in words))
after_name name.Sample words = after_sample words

-- after `help`
topic : List (List ℕ) → CommandLine
topic (word ∷ words) = unwrap_or (option_map HelpOf (command_of word)) Help
topic [] = Help

-- a command by its name
after : List ℕ → List (List ℕ) → CommandLine
after name words =
    unwrap_or (option_map (λ command. if asks_help words then HelpOf command else after_name command words) (command_of name))
    (if bytes_eq name (codes "--version") then Version else (if bytes_eq name (codes "help") then topic words else Help))

read : List (List ℕ) → CommandLine
read [] = Help
read (name ∷ words) = after name words

-- ---- the command that arguments spell is the one that they are read as

options_are : (options : List (Pair (List ℕ))) → options_in (words_of options) ≡ options
unfolding options_in
options_are [] = refl
options_are (p ∷ options) = ap (λ (more : List (Pair (List ℕ))). p ∷ more) (options_are options)

are_in : (words : List (List ℕ)) (options : List (Pair (List ℕ))) → words ≡ words_of options → options_in words ≡ options
are_in words options joined = ap options_in joined ∙ options_are options

word_is : (options : List (Pair (List ℕ))) (name word : List ℕ) → value_of options name ≡ Some word → word ≡ word_of options name
unfolding word_of
word_is options name word is = ap (λ (found : Option (List ℕ)). unwrap_or found []) (sym is)

moment_is : (found : Option (List ℕ)) (n : ℕ) → IsSomeAnd found (λ digits. n ≡ digits_value 10 digits) → n ≡ digits_value 10 (unwrap_or found [])
moment_is None n is = absurd is
moment_is (Some digits) n is = is

base_is : (arguments : List (List ℕ)) (base : BaseWords) (a : SpellsBase arguments base) → base ≡ base_in base.params a.options
unfolding base_in
base_is arguments base a = λ i. record { params = base.params; conf = a.conf_is i; request = a.request_is i }

verify_is : (arguments : List (List ℕ)) (verify : VerifyWords) (a : SpellsVerify arguments verify) → verify ≡ verify_in a.options
unfolding verify_in word_of
verify_is arguments verify a =
    let conf : verify.conf ≡ word_of a.options (codes "--conf") = word_is a.options (codes "--conf") verify.conf a.conf_is in
    let now = moment_is (value_of a.options (codes "--now")) verify.now a.now_is in
    λ i. record { conf = conf i; now = now i; label = a.label_is i; request = a.request_is i }

sign_is : (arguments : List (List ℕ)) (sign : SignWords) (a : SpellsSign arguments sign) → sign ≡ sign_in a.options
unfolding sign_in word_of
sign_is arguments sign a =
    let conf : sign.conf ≡ word_of a.options (codes "--conf") = word_is a.options (codes "--conf") sign.conf a.conf_is in
    let now = moment_is (value_of a.options (codes "--now")) sign.now a.now_is in
    λ i. record { conf = conf i; now = now i; request = a.request_is i; nonce = a.nonce_is i; wanted = a.wanted_is i }

rewrite_is : (arguments : List (List ℕ)) (rewrite : RewriteWords) (a : SpellsRewrite arguments rewrite) → rewrite ≡ rewrite_in a.options
unfolding rewrite_in word_of
rewrite_is arguments rewrite a =
    let script : rewrite.script ≡ word_of a.options (codes "--script") = word_is a.options (codes "--script") rewrite.script a.script_is in
    λ i. record { script = script i; conf = a.conf_is i; label = a.label_is i; request = a.request_is i }

explain_is : (arguments : List (List ℕ)) (explain : ExplainWords) (a : SpellsExplain arguments explain) → explain ≡ explain_in a.options
unfolding explain_in word_of
explain_is arguments explain a =
    let label : explain.label ≡ word_of a.options (codes "--label") = word_is a.options (codes "--label") explain.label a.label_is in
    let other : explain.other ≡ word_of a.options (codes "--other") = word_is a.options (codes "--other") explain.other a.other_is in
    λ i. record { label = label i; other = other i; conf = a.conf_is i; request = a.request_is i }

audit_is : (arguments : List (List ℕ)) (audit : AuditWords) (a : SpellsAudit arguments audit) → audit ≡ audit_in a.options
unfolding audit_in word_of
audit_is arguments audit a =
    let conf : audit.conf ≡ word_of a.options (codes "--conf") = word_is a.options (codes "--conf") audit.conf a.conf_is in
    λ i. record { conf = conf i }

gateway_is : (arguments : List (List ℕ)) (gateway : GatewayWords) (a : SpellsGateway arguments gateway) → gateway ≡ gateway_in a.options
unfolding gateway_in word_of
gateway_is arguments gateway a =
    let conf : gateway.conf ≡ word_of a.options (codes "--conf") = word_is a.options (codes "--conf") gateway.conf a.conf_is in
    λ i. record { conf = conf i }

into_read : (into_message : Bool) → into_message ≡ bytes_eq (into_word into_message) (codes "message")
into_read true = refl
into_read false = refl

lists_is : (arguments : List (List ℕ)) (lists : ListsWords) (a : SpellsLists arguments lists) → lists ≡ lists_in a.options
unfolding lists_in word_of
lists_is arguments lists a =
    let word : into_word lists.into_message ≡ word_of a.options (codes "--into") = word_is a.options (codes "--into") (into_word lists.into_message) a.into_is in
    let into = into_read lists.into_message ∙ ap (λ (w : List ℕ). bytes_eq w (codes "message")) word in
    λ i. record { into_message = into i; conf = a.conf_is i }

negotiate_is : (arguments : List (List ℕ)) (negotiate : NegotiateWords) (a : SpellsNegotiate arguments negotiate) → negotiate ≡ negotiate_in a.options
unfolding negotiate_in word_of
negotiate_is arguments negotiate a =
    let conf : negotiate.conf ≡ word_of a.options (codes "--conf") = word_is a.options (codes "--conf") negotiate.conf a.conf_is in
    let now = moment_is (value_of a.options (codes "--now")) negotiate.now a.now_is in
    let request : negotiate.request ≡ word_of a.options (codes "--request") = word_is a.options (codes "--request") negotiate.request a.request_is in
    λ i. record { conf = conf i; now = now i; request = request i }

sample_is : (arguments : List (List ℕ)) (sample : SampleWords) (a : SpellsSample arguments sample) → sample ≡ sample_in a.seed a.count
unfolding sample_in
sample_is arguments sample a = λ i. record { seed = a.seed_is.1 i; count = a.count_is.1 i }

-- options aren't `--help` alone
no_help : (options : List (Pair (List ℕ))) → asks_help (words_of options) ≡ false
no_help [] = refl
no_help (p ∷ options) = refl

plain : (words : List (List ℕ)) (options : List (Pair (List ℕ))) → words ≡ words_of options → asks_help words ≡ false
plain words options joined = ap (λ (all : List (List ℕ)). asks_help all) joined ∙ no_help options

no_base_help : (words : List (List ℕ)) → (words ≡ codes "--help" ∷ [] → ⊥) → asks_help words ≡ false
no_base_help [] none = refl
no_base_help (word ∷ []) none = elim (cases_Bool (bytes_eq word (codes "--help"))) [
  | inl is ↦ absurd (none (ap (λ (w : List ℕ). w ∷ []) ((bytes_eq-Decides word (codes "--help")).0 is)))
  | inr other ↦ other
]
no_base_help (word ∷ other ∷ words) none = refl

-- words that aren't `--help` alone are read by the name before them
read_plain : (command : CommandName) (words : List (List ℕ)) → asks_help words ≡ false → read (command_word command ∷ words) ≡ after_name command words
unfolding read after
read_plain name.Base words isnt = rw isnt refl
read_plain name.Verify words isnt = rw isnt refl
read_plain name.Sign words isnt = rw isnt refl
read_plain name.Rewrite words isnt = rw isnt refl
read_plain name.Explain words isnt = rw isnt refl
read_plain name.Audit words isnt = rw isnt refl
read_plain name.Gateway words isnt = rw isnt refl
read_plain name.Lists words isnt = rw isnt refl
read_plain name.Negotiate words isnt = rw isnt refl
read_plain name.Sample words isnt = rw isnt refl

read_help : (command : CommandName) → read (command_word command ∷ codes "--help" ∷ []) ≡ HelpOf command
unfolding read after
read_help name.Base = refl
read_help name.Verify = refl
read_help name.Sign = refl
read_help name.Rewrite = refl
read_help name.Explain = refl
read_help name.Audit = refl
read_help name.Gateway = refl
read_help name.Lists = refl
read_help name.Negotiate = refl
read_help name.Sample = refl

read_topic : (command : CommandName) → read (codes "help" ∷ command_word command ∷ []) ≡ HelpOf command
unfolding read after topic
read_topic name.Base = refl
read_topic name.Verify = refl
read_topic name.Sign = refl
read_topic name.Rewrite = refl
read_topic name.Explain = refl
read_topic name.Audit = refl
read_topic name.Gateway = refl
read_topic name.Lists = refl
read_topic name.Negotiate = refl
read_topic name.Sample = refl

is_read : (arguments : List (List ℕ)) (command : CommandLine) → IsCommand arguments command → read arguments ≡ command
unfolding read after after_name after_base after_sample topic
is_read arguments Help a = elim a [ inl help ↦ ap read help | inr word ↦ ap read word ]
is_read arguments (HelpOf command) a = elim a [ inl name ↦ ap read name ∙ read_help command | inr word ↦ ap read word ∙ read_topic command ]
is_read arguments Version a = ap read a
is_read arguments (Base words) a = ap read a.joined
    ∙ (read_plain name.Base (words.params ∷ a.words) (no_base_help (words.params ∷ a.words) a.asks)
    ∙ (ap (λ (options : List (Pair (List ℕ))). Base (base_in words.params options)) (are_in a.words a.options a.are.joined) ∙ ap Base (sym (base_is arguments words a))))
is_read arguments (Verify words) a = ap read a.joined
    ∙ (read_plain name.Verify a.words (plain a.words a.options a.are.joined)
    ∙ (ap (λ (options : List (Pair (List ℕ))). Verify (verify_in options)) (are_in a.words a.options a.are.joined) ∙ ap Verify (sym (verify_is arguments words a))))
is_read arguments (Sign words) a = ap read a.joined
    ∙ (read_plain name.Sign a.words (plain a.words a.options a.are.joined)
    ∙ (ap (λ (options : List (Pair (List ℕ))). Sign (sign_in options)) (are_in a.words a.options a.are.joined) ∙ ap Sign (sym (sign_is arguments words a))))
is_read arguments (Rewrite words) a = ap read a.joined
    ∙ (read_plain name.Rewrite a.words (plain a.words a.options a.are.joined)
    ∙ (ap (λ (options : List (Pair (List ℕ))). Rewrite (rewrite_in options)) (are_in a.words a.options a.are.joined) ∙ ap Rewrite (sym (rewrite_is arguments words a))))
is_read arguments (Explain words) a = ap read a.joined
    ∙ (read_plain name.Explain a.words (plain a.words a.options a.are.joined)
    ∙ (ap (λ (options : List (Pair (List ℕ))). Explain (explain_in options)) (are_in a.words a.options a.are.joined) ∙ ap Explain (sym (explain_is arguments words a))))
is_read arguments (Audit words) a = ap read a.joined
    ∙ (read_plain name.Audit a.words (plain a.words a.options a.are.joined)
    ∙ (ap (λ (options : List (Pair (List ℕ))). Audit (audit_in options)) (are_in a.words a.options a.are.joined) ∙ ap Audit (sym (audit_is arguments words a))))
is_read arguments (Gateway words) a = ap read a.joined
    ∙ (read_plain name.Gateway a.words (plain a.words a.options a.are.joined)
    ∙ (ap (λ (options : List (Pair (List ℕ))). Gateway (gateway_in options)) (are_in a.words a.options a.are.joined) ∙ ap Gateway (sym (gateway_is arguments words a))))
is_read arguments (Lists words) a = ap read a.joined
    ∙ (read_plain name.Lists a.words (plain a.words a.options a.are.joined)
    ∙ (ap (λ (options : List (Pair (List ℕ))). Lists (lists_in options)) (are_in a.words a.options a.are.joined) ∙ ap Lists (sym (lists_is arguments words a))))
is_read arguments (Negotiate words) a = ap read a.joined
    ∙ (read_plain name.Negotiate a.words (plain a.words a.options a.are.joined)
    ∙ (ap (λ (options : List (Pair (List ℕ))). Negotiate (negotiate_in options)) (are_in a.words a.options a.are.joined) ∙ ap Negotiate (sym (negotiate_is arguments words a))))
is_read arguments (Sample words) a = ap read a.joined ∙ (read_plain name.Sample (a.seed ∷ a.count ∷ []) refl ∙ ap Sample (sym (sample_is arguments words a)))

pub one_command : HasOneCommand
one_command arguments one other a b = sym (is_read arguments one a) ∙ is_read arguments other b
