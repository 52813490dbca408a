-- What a command is after its first word.
use Rattle.std.proofs.Common.{◌≡◌, ◌⊎◌, ℕ, true, false, List, [], ◌∷◌, ◌++◌, Option, Some, None, inl, inr, refl, sym, ap, subst, ◌∙◌}
use Rattle.std.specs.Prelude.{IsSomeAnd, codes}
use Rattle.std.specs.Str.Parse.{digits_value}
use Rattle.std.proofs.lemmas.Bool.{false≢true}
use Rattle.std.proofs.lemmas.Slice.Eq.{bytes_eq-Decides}
use Rattle.sfv_text.specs.Keys.{value_of}
use Rattle.sfv_text.specs.declared.pair.Pair.{Pair}
use Rattle.command_line.specs.Command.{AuditWords, BaseWords, ExplainWords, GatewayWords, ListsWords, NegotiateWords, RewriteWords, SampleWords, SignWords, VerifyWords, NoCommand, SpellsAudit, SpellsBase, SpellsExplain, SpellsGateway, SpellsLists, SpellsNegotiate, SpellsRewrite, SpellsSample, SpellsSign, SpellsVerify, CommandLine, Help, HelpOf, Version, Base, Verify, Sign, Rewrite, Explain, Audit, Gateway, Lists, Negotiate, Sample, IsCommand}
use Rattle.command_line.specs.Faults.{IsStart}
use Rattle.command_options.specs.Names.{command_of, command_word}
use Rattle.command_options.specs.Numbers.{IsCount, IsSeed}
use Rattle.command_options.specs.Options.{into_word, row_of, AreOptions}
use Rattle.command_options.specs.declared.options.CommandName.{CommandName}
use Rattle.command_options.specs.declared.options.CommandName.TheVariants as name
use Rattle.command_options.specs.declared.options.CommandOption.{CommandOption}
use Rattle.command_line.specs.tools.Wrong.{asks_help, needed, AreCommand}
use Rattle.command_line.proofs.CommandOrNone.{first_is, has_moment, into_given, word_or_not}

-- the option has a word
abbrev pub HasOne : List (Pair (List ℕ)) → CommandOption → Type 0
HasOne options option = (word : List ℕ) × (value_of options (row_of option).word ≡ Some word)

abbrev pub HasAll : List (Pair (List ℕ)) → List CommandOption → Type 0
HasAll options [] = Unit {0}
HasAll options (option ∷ others) = HasOne options option × HasAll options others

-- a nonce isn't beside a message that asks for signatures
abbrev pub IsAlone : List (Pair (List ℕ)) → Type 0
IsAlone options = (value_of options (codes "--nonce") ≡ None) ⊎ (value_of options (codes "--wanted") ≡ None)

abbrev pub IsAloneFor : CommandName → List (Pair (List ℕ)) → Type 0
IsAloneFor name.Sign options = IsAlone options
IsAloneFor command options = Unit {0}

-- the words are options of the command with those that it needs
pub record IsOptionLine (command : CommandName) (words : List (List ℕ)) : Type 0 where
  pub options : List (Pair (List ℕ))
  pub are : AreOptions command words options
  pub alone : IsAloneFor command options
  pub has : HasAll options (needed command)

-- the words come after the name of the command
abbrev pub AfterName : CommandName → List (List ℕ) → Type 0
AfterName name.Base words = (params : List ℕ) × (others : List (List ℕ)) × (words ≡ params ∷ others) × IsOptionLine name.Base others
AfterName name.Sample words =
    (seed : List ℕ) × (count : List ℕ) × (words ≡ seed ∷ count ∷ []) × ((n : ℕ) × IsSeed seed n) × ((n : ℕ) × IsCount count n)
AfterName command words = IsOptionLine command words

-- ---- from a command

some_is : {x y : CommandName} → Some x ≡ Some y → x ≡ y
some_is e = cc

none_some : (x : CommandName) → None ≡ Some x → ⊥
none_some x e = absurd cc

-- two names of commands for one word are one
same_command : (word named : List ℕ) (x y : List (List ℕ)) (command other : CommandName) → word ∷ x ≡ named ∷ y
    → command_of named ≡ Some other → command_of word ≡ Some command → other ≡ command
same_command word named x y command other same is some = some_is (sym is ∙ (sym (ap command_of (first_is word named x y same).0) ∙ some))

not_named : (word named : List ℕ) (x y : List (List ℕ)) (command : CommandName) → word ∷ x ≡ named ∷ y
    → command_of named ≡ None → command_of word ≡ Some command → ⊥
not_named word named x y command same none some = none_some command (sym none ∙ (sym (ap command_of (first_is word named x y same).0) ∙ some))

moved : (command : CommandName) (words others : List (List ℕ)) (options : List (Pair (List ℕ))) → words ≡ others → AreOptions command others options → AreOptions command words options
moved command words others options same are = subst (λ (all : List (List ℕ)). AreOptions command all options) (sym same) are

some_word : (found : Option (List ℕ)) (now : ℕ) → IsSomeAnd found (λ digits. now ≡ digits_value 10 digits) → (word : List ℕ) × (found ≡ Some word)
some_word None now is = absurd is
some_word (Some word) now is = (word, refl)

alone_of : (a b : Option (List ℕ)) (options : List (Pair (List ℕ))) → a ≡ value_of options (codes "--nonce") → b ≡ value_of options (codes "--wanted")
    → (a ≡ None) ⊎ (b ≡ None) → IsAlone options
alone_of a b options nonce_is wanted_is alone = elim alone [ inl none ↦ inl (sym nonce_is ∙ none) | inr none ↦ inr (sym wanted_is ∙ none) ]

-- a command has its name
pub command_is : (command : CommandName) → command_of (command_word command) ≡ Some command
command_is name.Base = refl
command_is name.Verify = refl
command_is name.Sign = refl
command_is name.Rewrite = refl
command_is name.Explain = refl
command_is name.Audit = refl
command_is name.Gateway = refl
command_is name.Lists = refl
command_is name.Negotiate = refl
command_is name.Sample = refl

-- the command isn't help of one
abbrev pub IsNoHelp : CommandLine → Type 0
IsNoHelp line = (command : CommandName) → line ≡ HelpOf command → ⊥

-- help of a command is asked for after its name or after `help`
help_words : (word : List ℕ) (words : List (List ℕ)) (command : CommandName) → IsCommand (word ∷ words) (HelpOf command)
    → (words ≡ codes "--help" ∷ []) ⊎ (word ≡ codes "help")
help_words word words command is = elim is [
  | inl name ↦ inl (first_is word (command_word command) words (codes "--help" ∷ []) name).1
  | inr help ↦ inr (first_is word (codes "help") words (command_word command ∷ []) help).0
]

pub no_help : (word : List ℕ) (words : List (List ℕ)) (line : CommandLine) (command : CommandName) → IsCommand (word ∷ words) line
    → command_of word ≡ Some command → (words ≡ codes "--help" ∷ [] → ⊥) → IsNoHelp line
no_help word words line command is some none other same =
    elim (help_words word words other (subst (λ (l : CommandLine). IsCommand (word ∷ words) l) same is)) [
      | inl asks ↦ none asks
      | inr help ↦ none_some command (ap command_of (sym help) ∙ some)
    ]

-- after the name of a command come its words
pub named : (word : List ℕ) (words : List (List ℕ)) (line : CommandLine) (command : CommandName) → IsCommand (word ∷ words) line
    → command_of word ≡ Some command → IsNoHelp line → AfterName command words
named word words Help command is some isnt = absurd (elim is [
  | inl help ↦ not_named word (codes "--help") words [] command help refl some
  | inr help ↦ not_named word (codes "help") words [] command help refl some
])
named word words (HelpOf other) command is some isnt = absurd (isnt other refl)
named word words Version command is some isnt = absurd (not_named word (codes "--version") words [] command is refl some)
named word words (Base line) command is some isnt =
    let others : words ≡ line.params ∷ is.words = (first_is word (codes "base") words (line.params ∷ is.words) is.joined).1 in
    subst (λ (c : CommandName). AfterName c words) (same_command word (codes "base") words (line.params ∷ is.words) command name.Base is.joined refl some)
    (line.params, is.words, others, record { options = is.options; are = is.are; alone = tt; has = tt })
named word words (Verify line) command is some isnt =
    let others : words ≡ is.words = (first_is word (codes "verify") words is.words is.joined).1 in
    subst (λ (c : CommandName). AfterName c words) (same_command word (codes "verify") words is.words command name.Verify is.joined refl some)
    (record {
      options = is.options;
      are = moved name.Verify words is.words is.options others is.are;
      alone = tt;
      has = ((line.conf, is.conf_is), (some_word (value_of is.options (codes "--now")) line.now is.now_is, tt));
    })
named word words (Sign line) command is some isnt =
    let others : words ≡ is.words = (first_is word (codes "sign") words is.words is.joined).1 in
    subst (λ (c : CommandName). AfterName c words) (same_command word (codes "sign") words is.words command name.Sign is.joined refl some)
    (record {
      options = is.options;
      are = moved name.Sign words is.words is.options others is.are;
      alone = alone_of line.nonce line.wanted is.options is.nonce_is is.wanted_is is.alone;
      has = ((line.conf, is.conf_is), (some_word (value_of is.options (codes "--now")) line.now is.now_is, tt));
    })
named word words (Rewrite line) command is some isnt =
    let others : words ≡ is.words = (first_is word (codes "rewrite") words is.words is.joined).1 in
    subst (λ (c : CommandName). AfterName c words) (same_command word (codes "rewrite") words is.words command name.Rewrite is.joined refl some)
    (record { options = is.options; are = moved name.Rewrite words is.words is.options others is.are; alone = tt; has = ((line.script, is.script_is), tt) })
named word words (Explain line) command is some isnt =
    let others : words ≡ is.words = (first_is word (codes "explain") words is.words is.joined).1 in
    subst (λ (c : CommandName). AfterName c words) (same_command word (codes "explain") words is.words command name.Explain is.joined refl some)
    (record { options = is.options; are = moved name.Explain words is.words is.options others is.are; alone = tt; has = ((line.label, is.label_is), ((line.other, is.other_is), tt)) })
named word words (Audit line) command is some isnt =
    let others : words ≡ is.words = (first_is word (codes "audit") words is.words is.joined).1 in
    subst (λ (c : CommandName). AfterName c words) (same_command word (codes "audit") words is.words command name.Audit is.joined refl some)
    (record { options = is.options; are = moved name.Audit words is.words is.options others is.are; alone = tt; has = ((line.conf, is.conf_is), tt) })
named word words (Gateway line) command is some isnt =
    let others : words ≡ is.words = (first_is word (codes "gateway") words is.words is.joined).1 in
    subst (λ (c : CommandName). AfterName c words) (same_command word (codes "gateway") words is.words command name.Gateway is.joined refl some)
    (record { options = is.options; are = moved name.Gateway words is.words is.options others is.are; alone = tt; has = ((line.conf, is.conf_is), tt) })
named word words (Lists line) command is some isnt =
    let others : words ≡ is.words = (first_is word (codes "lists") words is.words is.joined).1 in
    subst (λ (c : CommandName). AfterName c words) (same_command word (codes "lists") words is.words command name.Lists is.joined refl some)
    (record { options = is.options; are = moved name.Lists words is.words is.options others is.are; alone = tt; has = ((into_word line.into_message, is.into_is), tt) })
named word words (Negotiate line) command is some isnt =
    let others : words ≡ is.words = (first_is word (codes "negotiate") words is.words is.joined).1 in
    subst (λ (c : CommandName). AfterName c words) (same_command word (codes "negotiate") words is.words command name.Negotiate is.joined refl some)
    (record {
      options = is.options;
      are = moved name.Negotiate words is.words is.options others is.are;
      alone = tt;
      has = ((line.conf, is.conf_is), (some_word (value_of is.options (codes "--now")) line.now is.now_is, ((line.request, is.request_is), tt)));
    })
named word words (Sample line) command is some isnt =
    let others : words ≡ is.seed ∷ is.count ∷ [] = (first_is word (codes "sample") words (is.seed ∷ is.count ∷ []) is.joined).1 in
    subst (λ (c : CommandName). AfterName c words) (same_command word (codes "sample") words (is.seed ∷ is.count ∷ []) command name.Sample is.joined refl some)
    (is.seed, is.count, others, (line.seed, is.seed_is), (line.count, is.count_is))

some_none : (word named : List ℕ) (x y : List (List ℕ)) (command : CommandName) → word ∷ x ≡ named ∷ y
    → command_of named ≡ Some command → command_of word ≡ None → ⊥
some_none word named x y command same some none = none_some command (sym none ∙ (ap command_of (first_is word named x y same).0 ∙ some))

-- after another word come few
abbrev pub Unnamed : List ℕ → List (List ℕ) → Type 0
Unnamed word words =
    (((word ≡ codes "--help") ⊎ (word ≡ codes "--version")) × (words ≡ []))
    ⊎ ((word ≡ codes "help") × ((words ≡ []) ⊎ ((command : CommandName) × (words ≡ command_word command ∷ []))))

pub unnamed : (word : List ℕ) (words : List (List ℕ)) (line : CommandLine) → IsCommand (word ∷ words) line → command_of word ≡ None → Unnamed word words
unnamed word words Help is none = elim is [
  | inl help ↦ let same = first_is word (codes "--help") words [] help in inl (inl same.0, same.1)
  | inr help ↦ let same = first_is word (codes "help") words [] help in inr (same.0, inl same.1)
]
unnamed word words (HelpOf command) is none = elim is [
  | inl name ↦ absurd (some_none word (command_word command) words (codes "--help" ∷ []) command name (command_is command) none)
  | inr help ↦ let same = first_is word (codes "help") words (command_word command ∷ []) help in inr (same.0, inr (command, same.1))
]
unnamed word words Version is none = let same = first_is word (codes "--version") words [] is in inl (inr same.0, same.1)
unnamed word words (Base line) is none = absurd (some_none word (codes "base") words (line.params ∷ is.words) name.Base is.joined refl none)
unnamed word words (Verify line) is none = absurd (some_none word (codes "verify") words is.words name.Verify is.joined refl none)
unnamed word words (Sign line) is none = absurd (some_none word (codes "sign") words is.words name.Sign is.joined refl none)
unnamed word words (Rewrite line) is none = absurd (some_none word (codes "rewrite") words is.words name.Rewrite is.joined refl none)
unnamed word words (Explain line) is none = absurd (some_none word (codes "explain") words is.words name.Explain is.joined refl none)
unnamed word words (Audit line) is none = absurd (some_none word (codes "audit") words is.words name.Audit is.joined refl none)
unnamed word words (Gateway line) is none = absurd (some_none word (codes "gateway") words is.words name.Gateway is.joined refl none)
unnamed word words (Lists line) is none = absurd (some_none word (codes "lists") words is.words name.Lists is.joined refl none)
unnamed word words (Negotiate line) is none = absurd (some_none word (codes "negotiate") words is.words name.Negotiate is.joined refl none)
unnamed word words (Sample line) is none = absurd (some_none word (codes "sample") words (is.seed ∷ is.count ∷ []) name.Sample is.joined refl none)

-- after the words before its options come the options of a command
pub started : (command : CommandName) (start words : List (List ℕ)) (line : CommandLine) → IsStart command start → IsCommand (start ++ words) line
    → IsNoHelp line → IsOptionLine command words
started name.Base start words line starts is isnt =
    let after = named (codes "base") (starts.0 ∷ words) line name.Base (subst (λ (s : List (List ℕ)). IsCommand (s ++ words) line) starts.1 is) refl isnt in
    subst (λ (all : List (List ℕ)). IsOptionLine name.Base all) (sym (first_is starts.0 after.0 words after.1 after.2).1) after.3
started name.Verify start words line starts is isnt =
    named (codes "verify") words line name.Verify (subst (λ (s : List (List ℕ)). IsCommand (s ++ words) line) starts is) refl isnt
started name.Sign start words line starts is isnt =
    named (codes "sign") words line name.Sign (subst (λ (s : List (List ℕ)). IsCommand (s ++ words) line) starts is) refl isnt
started name.Rewrite start words line starts is isnt =
    named (codes "rewrite") words line name.Rewrite (subst (λ (s : List (List ℕ)). IsCommand (s ++ words) line) starts is) refl isnt
started name.Explain start words line starts is isnt =
    named (codes "explain") words line name.Explain (subst (λ (s : List (List ℕ)). IsCommand (s ++ words) line) starts is) refl isnt
started name.Audit start words line starts is isnt =
    named (codes "audit") words line name.Audit (subst (λ (s : List (List ℕ)). IsCommand (s ++ words) line) starts is) refl isnt
started name.Gateway start words line starts is isnt =
    named (codes "gateway") words line name.Gateway (subst (λ (s : List (List ℕ)). IsCommand (s ++ words) line) starts is) refl isnt
started name.Lists start words line starts is isnt =
    named (codes "lists") words line name.Lists (subst (λ (s : List (List ℕ)). IsCommand (s ++ words) line) starts is) refl isnt
started name.Negotiate start words line starts is isnt =
    named (codes "negotiate") words line name.Negotiate (subst (λ (s : List (List ℕ)). IsCommand (s ++ words) line) starts is) refl isnt
started name.Sample start words line starts is isnt = absurd starts

-- the words after those before its options aren't `--help` alone
abbrev pub NotHelp : CommandName → List (List ℕ) → Type 0
NotHelp name.Base words = words ≡ [] → ⊥
NotHelp command words = words ≡ codes "--help" ∷ [] → ⊥

pub started_plain : (command : CommandName) (start words : List (List ℕ)) (line : CommandLine) → IsStart command start → IsCommand (start ++ words) line
    → NotHelp command words → IsNoHelp line
started_plain name.Base start words line starts is none =
    no_help (codes "base") (starts.0 ∷ words) line name.Base (subst (λ (s : List (List ℕ)). IsCommand (s ++ words) line) starts.1 is) refl
    (λ asks. none (first_is starts.0 (codes "--help") words [] asks).1)
started_plain name.Verify start words line starts is none =
    no_help (codes "verify") words line name.Verify (subst (λ (s : List (List ℕ)). IsCommand (s ++ words) line) starts is) refl none
started_plain name.Sign start words line starts is none =
    no_help (codes "sign") words line name.Sign (subst (λ (s : List (List ℕ)). IsCommand (s ++ words) line) starts is) refl none
started_plain name.Rewrite start words line starts is none =
    no_help (codes "rewrite") words line name.Rewrite (subst (λ (s : List (List ℕ)). IsCommand (s ++ words) line) starts is) refl none
started_plain name.Explain start words line starts is none =
    no_help (codes "explain") words line name.Explain (subst (λ (s : List (List ℕ)). IsCommand (s ++ words) line) starts is) refl none
started_plain name.Audit start words line starts is none =
    no_help (codes "audit") words line name.Audit (subst (λ (s : List (List ℕ)). IsCommand (s ++ words) line) starts is) refl none
started_plain name.Gateway start words line starts is none =
    no_help (codes "gateway") words line name.Gateway (subst (λ (s : List (List ℕ)). IsCommand (s ++ words) line) starts is) refl none
started_plain name.Lists start words line starts is none =
    no_help (codes "lists") words line name.Lists (subst (λ (s : List (List ℕ)). IsCommand (s ++ words) line) starts is) refl none
started_plain name.Negotiate start words line starts is none =
    no_help (codes "negotiate") words line name.Negotiate (subst (λ (s : List (List ℕ)). IsCommand (s ++ words) line) starts is) refl none
started_plain name.Sample start words line starts is none = absurd starts

-- ---- to a command

-- the help of a command, or a command with options
pub base_spelled : (params : List ℕ) (words : List (List ℕ)) → (params ∷ words ≡ codes "--help" ∷ [] → ⊥) → IsOptionLine name.Base words
    → (line : BaseWords) × SpellsBase (codes "base" ∷ params ∷ words) line
base_spelled params words asks is = (
  record { params = params; conf = value_of is.options (codes "--conf"); request = value_of is.options (codes "--request") },
  record { words = words; options = is.options; joined = refl; asks = asks; are = is.are; conf_is = refl; request_is = refl },
)

pub verify_spelled : (words : List (List ℕ)) → IsOptionLine name.Verify words → (line : VerifyWords) × SpellsVerify (codes "verify" ∷ words) line
verify_spelled words is = (
  record {
    conf = is.has.0.0;
    now = digits_value 10 is.has.1.0.0;
    label = value_of is.options (codes "--label");
    request = value_of is.options (codes "--request");
  },
  record {
    words = words;
    options = is.options;
    joined = refl;
    are = is.are;
    conf_is = is.has.0.1;
    now_is = has_moment _ is.has.1.0.0 is.has.1.0.1;
    label_is = refl;
    request_is = refl;
  },
)

pub sign_spelled : (words : List (List ℕ)) → IsOptionLine name.Sign words → (line : SignWords) × SpellsSign (codes "sign" ∷ words) line
sign_spelled words is = (
  record {
    conf = is.has.0.0;
    now = digits_value 10 is.has.1.0.0;
    request = value_of is.options (codes "--request");
    nonce = value_of is.options (codes "--nonce");
    wanted = value_of is.options (codes "--wanted");
  },
  record {
    words = words;
    options = is.options;
    joined = refl;
    are = is.are;
    conf_is = is.has.0.1;
    now_is = has_moment _ is.has.1.0.0 is.has.1.0.1;
    request_is = refl;
    nonce_is = refl;
    wanted_is = refl;
    alone = is.alone;
  },
)

pub rewrite_spelled : (words : List (List ℕ)) → IsOptionLine name.Rewrite words → (line : RewriteWords) × SpellsRewrite (codes "rewrite" ∷ words) line
rewrite_spelled words is = (
  record {
    script = is.has.0.0;
    conf = value_of is.options (codes "--conf");
    label = value_of is.options (codes "--label");
    request = value_of is.options (codes "--request");
  },
  record {
    words = words;
    options = is.options;
    joined = refl;
    are = is.are;
    script_is = is.has.0.1;
    conf_is = refl;
    label_is = refl;
    request_is = refl;
  },
)

pub explain_spelled : (words : List (List ℕ)) → IsOptionLine name.Explain words → (line : ExplainWords) × SpellsExplain (codes "explain" ∷ words) line
explain_spelled words is = (
  record {
    label = is.has.0.0;
    other = is.has.1.0.0;
    conf = value_of is.options (codes "--conf");
    request = value_of is.options (codes "--request");
  },
  record {
    words = words;
    options = is.options;
    joined = refl;
    are = is.are;
    label_is = is.has.0.1;
    other_is = is.has.1.0.1;
    conf_is = refl;
    request_is = refl;
  },
)

pub audit_spelled : (words : List (List ℕ)) → IsOptionLine name.Audit words → (line : AuditWords) × SpellsAudit (codes "audit" ∷ words) line
audit_spelled words is =
    (record { conf = is.has.0.0 }, record { words = words; options = is.options; joined = refl; are = is.are; conf_is = is.has.0.1 })

pub gateway_spelled : (words : List (List ℕ)) → IsOptionLine name.Gateway words → (line : GatewayWords) × SpellsGateway (codes "gateway" ∷ words) line
gateway_spelled words is =
    (record { conf = is.has.0.0 }, record { words = words; options = is.options; joined = refl; are = is.are; conf_is = is.has.0.1 })

pub lists_spelled : (words : List (List ℕ)) → IsOptionLine name.Lists words → (line : ListsWords) × SpellsLists (codes "lists" ∷ words) line
lists_spelled words is =
    let into = into_given is.options is.has.0.0 is.are.had is.has.0.1 in (
      record { into_message = into.0; conf = value_of is.options (codes "--conf") },
      record { words = words; options = is.options; joined = refl; are = is.are; into_is = into.1; conf_is = refl },
    )

pub negotiate_spelled : (words : List (List ℕ)) → IsOptionLine name.Negotiate words → (line : NegotiateWords) × SpellsNegotiate (codes "negotiate" ∷ words) line
negotiate_spelled words is = (
  record { conf = is.has.0.0; now = digits_value 10 is.has.1.0.0; request = is.has.1.1.0.0 },
  record {
    words = words;
    options = is.options;
    joined = refl;
    are = is.are;
    conf_is = is.has.0.1;
    now_is = has_moment _ is.has.1.0.0 is.has.1.0.1;
    request_is = is.has.1.1.0.1;
  },
)

-- options with those that the command needs are a command after the words before them
pub whole : (command : CommandName) (start words : List (List ℕ)) → IsStart command start → IsOptionLine command words → AreCommand (start ++ words)
whole name.Base start words starts is =
    subst (λ (s : List (List ℕ)). AreCommand (s ++ words)) (sym starts.1) (elim (word_or_not (codes "--help") (starts.0 ∷ words)) [
      | inl asks ↦ (HelpOf name.Base, inl (ap (λ (others : List (List ℕ)). codes "base" ∷ others) asks))
      | inr none ↦ let line = base_spelled starts.0 words none is in (Base line.0, line.1)
    ])
whole name.Verify start words starts is =
    let line = verify_spelled words is in subst (λ (s : List (List ℕ)). AreCommand (s ++ words)) (sym starts) (Verify line.0, line.1)
whole name.Sign start words starts is =
    let line = sign_spelled words is in subst (λ (s : List (List ℕ)). AreCommand (s ++ words)) (sym starts) (Sign line.0, line.1)
whole name.Rewrite start words starts is =
    let line = rewrite_spelled words is in subst (λ (s : List (List ℕ)). AreCommand (s ++ words)) (sym starts) (Rewrite line.0, line.1)
whole name.Explain start words starts is =
    let line = explain_spelled words is in subst (λ (s : List (List ℕ)). AreCommand (s ++ words)) (sym starts) (Explain line.0, line.1)
whole name.Audit start words starts is =
    let line = audit_spelled words is in subst (λ (s : List (List ℕ)). AreCommand (s ++ words)) (sym starts) (Audit line.0, line.1)
whole name.Gateway start words starts is =
    let line = gateway_spelled words is in subst (λ (s : List (List ℕ)). AreCommand (s ++ words)) (sym starts) (Gateway line.0, line.1)
whole name.Lists start words starts is =
    let line = lists_spelled words is in subst (λ (s : List (List ℕ)). AreCommand (s ++ words)) (sym starts) (Lists line.0, line.1)
whole name.Negotiate start words starts is =
    let line = negotiate_spelled words is in subst (λ (s : List (List ℕ)). AreCommand (s ++ words)) (sym starts) (Negotiate line.0, line.1)
whole name.Sample start words starts is = absurd starts

-- ---- no command

pub asked : (words : List (List ℕ)) → asks_help words ≡ false → words ≡ codes "--help" ∷ [] → ⊥
asked words isnt asks = false≢true (sym (subst (λ (all : List (List ℕ)). asks_help all ≡ false) asks isnt))

-- what isn't right after the name of a command is none
none_after : (command : CommandName) (words : List (List ℕ)) → asks_help words ≡ false → (AfterName command words → ⊥) → NoCommand (command_word command ∷ words)
none_after command words isnt none line is =
    none (named (command_word command) words line command is (command_is command)
    (no_help (command_word command) words line command is (command_is command) (asked words isnt)))

pub no_base : (words : List (List ℕ)) → asks_help words ≡ false → ((line : BaseWords) → SpellsBase (codes "base" ∷ words) line → ⊥) → NoCommand (codes "base" ∷ words)
no_base words isnt none = none_after name.Base words isnt (λ is.
    let asks : is.0 ∷ is.1 ≡ codes "--help" ∷ [] → ⊥ = λ e. asked words isnt (is.2 ∙ e) in
    let line = base_spelled is.0 is.1 asks is.3 in
    none line.0 (subst (λ (all : List (List ℕ)). SpellsBase (codes "base" ∷ all) line.0) (sym is.2) line.1))

pub no_verify : (words : List (List ℕ)) → asks_help words ≡ false → ((line : VerifyWords) → SpellsVerify (codes "verify" ∷ words) line → ⊥) → NoCommand (codes "verify" ∷ words)
no_verify words isnt none = none_after name.Verify words isnt (λ is. let line = verify_spelled words is in none line.0 line.1)

pub no_sign : (words : List (List ℕ)) → asks_help words ≡ false → ((line : SignWords) → SpellsSign (codes "sign" ∷ words) line → ⊥) → NoCommand (codes "sign" ∷ words)
no_sign words isnt none = none_after name.Sign words isnt (λ is. let line = sign_spelled words is in none line.0 line.1)

pub no_rewrite : (words : List (List ℕ)) → asks_help words ≡ false → ((line : RewriteWords) → SpellsRewrite (codes "rewrite" ∷ words) line → ⊥) → NoCommand (codes "rewrite" ∷ words)
no_rewrite words isnt none = none_after name.Rewrite words isnt (λ is. let line = rewrite_spelled words is in none line.0 line.1)

pub no_explain : (words : List (List ℕ)) → asks_help words ≡ false → ((line : ExplainWords) → SpellsExplain (codes "explain" ∷ words) line → ⊥) → NoCommand (codes "explain" ∷ words)
no_explain words isnt none = none_after name.Explain words isnt (λ is. let line = explain_spelled words is in none line.0 line.1)

pub no_audit : (words : List (List ℕ)) → asks_help words ≡ false → ((line : AuditWords) → SpellsAudit (codes "audit" ∷ words) line → ⊥) → NoCommand (codes "audit" ∷ words)
no_audit words isnt none = none_after name.Audit words isnt (λ is. let line = audit_spelled words is in none line.0 line.1)

pub no_gateway : (words : List (List ℕ)) → asks_help words ≡ false → ((line : GatewayWords) → SpellsGateway (codes "gateway" ∷ words) line → ⊥) → NoCommand (codes "gateway" ∷ words)
no_gateway words isnt none = none_after name.Gateway words isnt (λ is. let line = gateway_spelled words is in none line.0 line.1)

pub no_lists : (words : List (List ℕ)) → asks_help words ≡ false → ((line : ListsWords) → SpellsLists (codes "lists" ∷ words) line → ⊥) → NoCommand (codes "lists" ∷ words)
no_lists words isnt none = none_after name.Lists words isnt (λ is. let line = lists_spelled words is in none line.0 line.1)

pub no_negotiate : (words : List (List ℕ)) → asks_help words ≡ false → ((line : NegotiateWords) → SpellsNegotiate (codes "negotiate" ∷ words) line → ⊥) → NoCommand (codes "negotiate" ∷ words)
no_negotiate words isnt none = none_after name.Negotiate words isnt (λ is. let line = negotiate_spelled words is in none line.0 line.1)

pub no_sample : (words : List (List ℕ)) → asks_help words ≡ false → ((line : SampleWords) → SpellsSample (codes "sample" ∷ words) line → ⊥) → NoCommand (codes "sample" ∷ words)
no_sample words isnt none = none_after name.Sample words isnt (λ is.
    none (record { seed = is.3.0; count = is.4.0 })
    (record { seed = is.0; count = is.1; joined = ap (λ (all : List (List ℕ)). codes "sample" ∷ all) is.2; seed_is = is.3.1; count_is = is.4.1 }))

-- and help of a command is one
pub help_asked : (command : CommandName) (words : List (List ℕ)) → asks_help words ≡ true → IsCommand (command_word command ∷ words) (HelpOf command)
help_asked command [] asks = absurd (false≢true asks)
help_asked command (word ∷ []) asks = inl (ap (λ (w : List ℕ). command_word command ∷ w ∷ []) ((bytes_eq-Decides word (codes "--help")).0 asks))
help_asked command (word ∷ other ∷ words) asks = absurd (false≢true asks)
